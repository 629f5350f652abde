use Rattle.bill_diary.specs.History.{history, newest_first}
use Rattle.title_register.specs.PlaceRef.{place_view}
use Rattle.legal_frames.proofs.ReceivingLemmas.{declines_at}
use Rattle.legal_frames.proofs.receiving.may_decline.Goals as goal

pub returns : goal.returns
returns c =
    declines_at (newest_first c.args.register.now.diary) (history c.args.bill c.args.register.now.diary) c.args.bill c.args.entry c.args.code
    c.args.reason
    c.args.evidence.now (place_view c.place.result) c.is_cause.result c.taken.result c.is_declined.result c.requires
    c.taken.ensures c.if-taken.false c.is_declined.ensures c.if-is_declined.false c.place.ensures
    c.is_cause.ensures
