use Rattle.bill_diary.specs.History.{history}
use Rattle.title_register.specs.PlaceRef.{place_view}
use Rattle.legal_frames.proofs.PartingLemmas.{next_at}
use Rattle.legal_frames.proofs.parting.is_next_after.Goals as goal

pub returns : goal.returns
returns c =
    next_at c.args.roster.now c.args.me (history c.args.bill c.args.register.now.diary) c.args.bill c.partings.result
    c.args.entry.now c.title.result (place_view c.place.result) c.is_next_at.result c.partings.ensures c.title.ensures
    c.place.ensures c.is_next_at.ensures
