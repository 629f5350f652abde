use Rattle.std.proofs.Common.{None, sym, refl, ◌∙◌}
use Rattle.std.proofs.lemmas.Bool.{false≢true}
use Rattle.std.proofs.lemmas.Bool.Decides.{Decides-at}
use Rattle.std.proofs.lemmas.Result.{IfOk-weaker}
use Rattle.canonical_json.specs.View.{view}
use Rattle.honest_texts.proofs.Chains.{signer-Decides}
use Rattle.honest_texts.proofs.honest.is_signed_by_listed.Goals as goal

pub returns-in-Ok : goal.returns-in-Ok
returns-in-Ok g c =
    Decides-at c.has_platform.result _ c.has_platform.ensures
    (signer-Decides c.args.roster.now (g.G.KeyRing.keys c.args.ring.now) c.args.most c.args.text.now
    c.in-Ok.verified.platform (view c.in-Ok.verified.payload) c.signed_text_has_one_reading.ensures.signed
    c.in-Ok.ensures.ok)

pub returns-in-Err : goal.returns-in-Err
returns-in-Err g c =
    IfOk-weaker c.unsigned.result _ _
    (λ signed h. (
      λ e. absurd (false≢true (sym h.0 ∙ e)),
      λ s. absurd (c.refused_text_is_not_signed.ensures (g.G.KeyRing.keys c.args.ring.now) c.args.most None
          c.args.text.now c.in-Err.why s.who s.value c.in-Err.ensures.err h.1 s.signed refl),
    ))
    c.unsigned.ensures
