-- Each part of the state is what the records say with the frame's.
use Rattle.std.proofs.Common.{◌≡◌, ◌∷◌, [], ◌++◌, List, reverse, sym, ap, ◌∙◌}
use Rattle.ebl_base.specs.declared.checksum.Checksum.{Checksum}
use Rattle.bill_diary.specs.declared.record.Record.{Record}
use Rattle.bill_diary.specs.History.{bill_of, history, records_of}
use Rattle.bill_diary.specs.Pieces.{pieces_of}
use Rattle.title_register.specs.declared.bill_state.StateChange.{StateChange}
use Rattle.title_register.specs.Past.{arrived, is_fresh}
use Rattle.bill_diary.specs.Linked.{bill_in}
use Rattle.title_register.specs.Standing.{standing_of}
use Rattle.title_register.proofs.RegisterLemmas.{own_history}
use Rattle.title_register.proofs.StateLemmas.{state_changed}
use Rattle.title_register.proofs.room.change_by.Goals as goal

pub returns : goal.returns
returns c =
    let frames = c.args.frames.now in
    let frame = c.args.frame.now in
    let bill = bill_in frame in
    let newer = reverse (records_of frame) in
    let bill_is : c.bill.result ≡ bill = c.bill.ensures ∙ ap bill_of c.kept_in.ensures in
    let before_is : c.of-before.result ≡ history bill frames =
    c.of-before.ensures ∙ ap (λ (b : Checksum). history b frames) bill_is in
    let after_is : newer ++ history bill frames ≡ history bill (frames ++ frame ∷ [])
    = sym (own_history frames frame) in
    let change : StateChange = record {
      standing = c.in_ok-standing.standing;
      title = c.title_after-title.result;
      pieces = c.in_ok-pieces.pieces;
      partings = c.partings_after.result;
      arrived = c.in_ok-arrived.arrived;
      fresh = c.fresh_after.result;
    } in
    state_changed change c.args.state.now (history bill (frames ++ frame ∷ []))
    (c.in_ok-standing.ensures
    ∙ ap (λ (h : List Record). standing_of (newer ++ h)) before_is ∙ ap standing_of after_is)
    c.title_after-title.ensures
    (c.in_ok-pieces.ensures ∙ ap (λ (h : List Record). pieces_of (newer ++ h)) before_is ∙ ap pieces_of after_is)
    c.partings_after.ensures
    (c.in_ok-arrived.ensures ∙ ap (λ (h : List Record). arrived (newer ++ h)) before_is ∙ ap arrived after_is)
    (c.fresh_after.ensures ∙ ap (λ (h : List Record). is_fresh (newer ++ h)) before_is ∙ ap is_fresh after_is)
