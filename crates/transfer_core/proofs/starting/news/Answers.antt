use Rattle.transfer_core.specs.Shown.{shown_view}
use Rattle.transfer_core.proofs.StartLemmas.{news_by}
use Rattle.transfer_core.proofs.starting.news.Goals as goal

pub returns : goal.returns
returns c =
    news_by c.args.register.now.diary (shown_view c.args.shown) c.subject_of-subject.result c.reference_for.result c.in_ok-body.body
    c.is_again-again.result c.begun_with.result c.unless.result c.subject_of-subject.ensures c.reference_for.ensures
    c.in_ok-body.ensures c.is_again-again.ensures c.begun_with.ensures c.unless.ensures
