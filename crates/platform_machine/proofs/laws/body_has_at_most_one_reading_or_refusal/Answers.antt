use Rattle.platform_machine.proofs.ExclusionLemmas.{refusal_once, shown_not_refused, shown_once}
use Rattle.platform_machine.proofs.laws.body_has_at_most_one_reading_or_refusal.Goals as goal

pub returns-clause-shown : goal.returns-clause-shown
returns-clause-shown c =
    shown_once (record {
      no_good_chain = c.refused_texts_are_no_good_chain.ensures.refused;
      chain_once = c.refused_texts_are_no_good_chain.ensures.one;
      refused_once = c.refused_texts_have_one_refusal.ensures;
    })

pub returns-clause-refused : goal.returns-clause-refused
returns-clause-refused c =
    refusal_once (record {
      no_good_chain = c.refused_texts_are_no_good_chain.ensures.refused;
      chain_once = c.refused_texts_are_no_good_chain.ensures.one;
      refused_once = c.refused_texts_have_one_refusal.ensures;
    })

pub returns-clause-never_both : goal.returns-clause-never_both
returns-clause-never_both c =
    shown_not_refused (record {
      no_good_chain = c.refused_texts_are_no_good_chain.ensures.refused;
      chain_once = c.refused_texts_are_no_good_chain.ensures.one;
      refused_once = c.refused_texts_have_one_refusal.ensures;
    })
