use Rattle.std.specs.Prelude.{map}
use Rattle.honest_texts.specs.Sent.{sent_view}
use Rattle.honest_texts.proofs.Comes.{start-comes, reply-comes}
use Rattle.honest_texts.proofs.honest.is_honest.Goals as goal

pub returns-in-Start : goal.returns-in-Start
returns-in-Start g c = rw c.in-Start.is
    (start-comes c.args.roster.now (g.G.KeyRing.keys c.args.ring.now) (map sent_view c.args.sent.now)
    c.in-Start.body c.as_slice.result.now c.is_honest_body.result c.as_slice.ensures c.is_honest_body.ensures)

pub returns-in-StartReply : goal.returns-in-StartReply
returns-in-StartReply g c = rw c.in-StartReply.is
    (reply-comes c.args.roster.now (g.G.KeyRing.keys c.args.ring.now) (map sent_view c.args.sent.now)
    c.in-StartReply.bytes c.as_slice-in-StartReply.result.now c.is_honest_reply.result
    c.as_slice-in-StartReply.ensures c.is_honest_reply.ensures)

pub returns-in-FinishReply : goal.returns-in-FinishReply
returns-in-FinishReply g c = rw c.in-FinishReply.is
    (reply-comes c.args.roster.now (g.G.KeyRing.keys c.args.ring.now) (map sent_view c.args.sent.now)
    c.in-FinishReply.bytes c.as_slice-in-FinishReply.result.now c.is_honest_reply-in-FinishReply.result
    c.as_slice-in-FinishReply.ensures c.is_honest_reply-in-FinishReply.ensures)
