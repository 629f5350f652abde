use Rattle.run_safety.proofs.Moments.{leads_later, leads_reached}
use Rattle.run_safety.proofs.laws.ended_bill_stays_ended_in_a_run.Goals as goal

pub returns-clause-ended : goal.returns-clause-ended
returns-clause-ended c = λ roster rings n later form reached leads distinct bill p carrier ended.
    let then = leads_reached roster rings n later reached leads in
    c.ended_bill_stays_in_later_families.ensures n.family later.family
    (c.every_run_stays_safe.ensures.sound roster rings later form then distinct)
    (c.every_run_stays_safe.ensures.closed roster rings later form then distinct) distinct
    (leads_later roster rings n later leads) bill p carrier ended

pub returns-clause-carrier : goal.returns-clause-carrier
returns-clause-carrier c = λ roster rings n form reached distinct.
    c.nobody_acts_on_an_ended_bill.ensures.carrier n.family
    (c.every_run_stays_safe.ensures.sound roster rings n form reached distinct)
    (c.every_run_stays_safe.ensures.closed roster rings n form reached distinct) distinct

pub returns-clause-nobody : goal.returns-clause-nobody
returns-clause-nobody c = λ roster rings n form reached distinct.
    c.nobody_acts_on_an_ended_bill.ensures.nobody n.family
    (c.every_run_stays_safe.ensures.sound roster rings n form reached distinct)
    (c.every_run_stays_safe.ensures.closed roster rings n form reached distinct) distinct
