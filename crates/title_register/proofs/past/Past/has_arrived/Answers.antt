-- The names that are kept are those of the entries of the chains that were taken.
use Rattle.std.proofs.Common.{List, ap, ◌∙◌}
use Rattle.std.specs.List.{list_any}
use Rattle.ebl_base.specs.declared.checksum.Checksum.{Checksum}
use Rattle.bill_chain.specs.Chain.{has_entry}
use Rattle.bill_diary.specs.declared.record.Record.{Record}
use Rattle.bill_diary.specs.History.{history}
use Rattle.bill_diary.specs.Place.{taken_chains}
use Rattle.title_register.specs.declared.bill_state.BillState.{BillState}
use Rattle.title_register.specs.Past.{is_among}
use Rattle.title_register.proofs.PastLemmas.{arrived_finds}
use Rattle.title_register.proofs.past.Past.has_arrived.Goals as goal

pub returns : goal.returns
returns c =
    let entry = c.args.entry in
    c.is_among.ensures
    ∙ ap (λ (ns : List Checksum). is_among ns entry) c.as_slice.ensures
    ∙ ap (λ (s : BillState). is_among s.arrived entry) c.self.invariant.state_is
    ∙ arrived_finds entry (history c.self.inside.bill c.self.inside.frames.now)
    ∙ ap (λ (h : List Record). list_any (has_entry entry) (taken_chains h)) c.self.view_is
