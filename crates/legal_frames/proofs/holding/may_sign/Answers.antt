use Rattle.bill_diary.specs.History.{history}
use Rattle.title_register.specs.PlaceRef.{place_view}
use Rattle.legal_frames.proofs.TestLemmas.{isnt, never}
use Rattle.legal_frames.proofs.HoldingLemmas.{absent_at, sign_by, signs}
use Rattle.legal_frames.proofs.holding.may_sign.Goals as goal

pub returns-then-not-is_sign_by : goal.returns-then-not-is_sign_by
returns-then-not-is_sign_by c =
    never (λ x.
    isnt c.is_sign_by.result c.if-not-is_sign_by.true c.is_sign_by.ensures
    (sign_by c.args.roster.now c.args.me (history c.args.bill c.args.register.now.diary) c.args.bill c.args.document.now c.args.t.now
    x))

pub returns-then-not-is_absent : goal.returns-then-not-is_absent
returns-then-not-is_absent c =
    never (λ x.
    isnt c.is_absent.result c.if-not-is_absent.true
    (absent_at (history c.args.bill c.args.register.now.diary) (place_view c.place.result) c.is_absent.result c.place.ensures
    c.is_absent.ensures)
    x.sound.absent)

pub document_of-requires : goal.document_of-requires
document_of-requires c = (c.args.bill, c.requires.document_is)

pub returns : goal.returns
returns c =
    signs c.args.roster.now c.args.me (history c.args.bill c.args.register.now.diary) c.args.bill c.args.document.now c.args.t.now
    c.in_ok-document.document c.is_carrier.result c.requires
    (c.is_sign_by.ensures.0 c.if-not-is_sign_by.false)
    ((absent_at (history c.args.bill c.args.register.now.diary) (place_view c.place.result) c.is_absent.result c.place.ensures
    c.is_absent.ensures).0
    c.if-not-is_absent.false) c.in_ok-document.ensures c.is_carrier.ensures
