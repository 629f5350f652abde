use Rattle.std.proofs.lemmas.Bool.Decides.{Decides-at}
use Rattle.honest_texts.proofs.Replies.{replies-Decides}
use Rattle.honest_texts.proofs.honest.is_honest_reply.Goals as goal

pub returns-then-branch : goal.returns-then-branch
returns-then-branch g c =
    let was = Decides-at c.was_sent_as_reply.result _ c.was_sent_as_reply.ensures
    (replies-Decides c.args.bytes.now c.args.sent.now) in (
      λ t signed. was.0 t,
      λ honest. was.1 (honest (c.in_ok-is_signed_by_listed.ensures.0 c.if-branch.true)),
    )
