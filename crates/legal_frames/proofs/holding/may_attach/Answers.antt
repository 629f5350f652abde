use Rattle.std.proofs.Common.{sym, subst, ◌∙◌}
use Rattle.upload_state.specs.Piece.{Fits}
use Rattle.bill_diary.specs.History.{history}
use Rattle.legal_frames.proofs.TestLemmas.{isnt, never}
use Rattle.legal_frames.proofs.HoldingLemmas.{attach_acts, attaches}
use Rattle.legal_frames.proofs.holding.may_attach.Goals as goal

pub returns-then-not-may_act : goal.returns-then-not-may_act
returns-then-not-may_act c =
    never (λ x.
    let acts = attach_acts (history c.args.bill c.args.register.now.diary) c.args.piece.now c.args.bytes.now x in
    let clash = sym c.if-not-may_act.true ∙ c.may_act.ensures ∙ acts in
    cc clash)

pub returns-then-not-fits : goal.returns-then-not-fits
returns-then-not-fits c =
    never (λ x.
    isnt c.fits.result c.if-not-fits.true c.fits.ensures
    (subst (Fits c.args.piece.now) (sym c.as_slice.ensures) x.fits))

pub returns : goal.returns
returns c =
    attaches (history c.args.bill c.args.register.now.diary) c.args.piece.now c.args.bytes.now c.pieces.result.now
    c.has_room.result c.requires (sym c.may_act.ensures ∙ c.if-not-may_act.false)
    (subst (Fits c.args.piece.now) c.as_slice.ensures (c.fits.ensures.0 c.if-not-fits.false)) c.pieces.ensures
    c.has_room.ensures
