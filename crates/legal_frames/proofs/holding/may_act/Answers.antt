use Rattle.bill_diary.specs.History.{history}
use Rattle.title_register.specs.PlaceRef.{place_view}
use Rattle.legal_frames.proofs.HoldingLemmas.{acts}
use Rattle.legal_frames.proofs.holding.may_act.Goals as goal

pub returns : goal.returns
returns c =
    acts (history c.args.bill c.args.register.now.diary) c.args.t.now (place_view c.place.result) c.title.result
    c.stays_at.result c.requires c.place.ensures c.title.ensures c.stays_at.ensures
