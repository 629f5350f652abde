use Rattle.std.proofs.Common.{List, Bool, subst, Decides}
use Rattle.std.specs.Prelude.{map}
use Rattle.std.proofs.lemmas.Result.{IfOk-weaker}
use Rattle.ebl_base.specs.declared.signed_text.SignedText.{SignedText}
use Rattle.envelope_manifest.specs.Body.{body_view}
use Rattle.honest_texts.specs.Sent.{AreHonest, sent_view}
use Rattle.honest_texts.proofs.Chains.{body-honest}
use Rattle.honest_texts.proofs.honest.is_honest_body.Goals as goal

pub returns-in-Ok : goal.returns-in-Ok
returns-in-Ok g c =
    IfOk-weaker c.are_honest.result _ _
    (λ honest d. body-honest c.args.roster.now (g.G.KeyRing.keys c.args.ring.now) (map sent_view c.args.sent.now)
    c.args.body.now (body_view c.in-Ok.body) c.texts_have_one_body.ensures c.in-Ok.ensures.ok honest
    (subst (λ (texts : List SignedText). Decides honest
    (AreHonest c.args.roster.now (g.G.KeyRing.keys c.args.ring.now) (map sent_view c.args.sent.now) texts))
    c.as_slice.ensures d))
    c.are_honest.ensures
