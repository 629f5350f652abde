use Rattle.std.proofs.Common.{List, sym, ap, subst, ◌∙◌}
use Rattle.std.specs.List.{list_any}
use Rattle.std.proofs.lemmas.Bool.Decides.{Decides-at}
use Rattle.ebl_base.specs.declared.signed_text.SignedText.{SignedText}
use Rattle.envelope_manifest.specs.Body.{BodyRecord, body_view}
use Rattle.closed_family.specs.Chains.{IsAmong}
use Rattle.honest_texts.specs.Sent.{same_text}
use Rattle.honest_texts.proofs.Among.{any-Decides}
use Rattle.honest_texts.proofs.Chains.{same_text-Decides}
use Rattle.honest_texts.proofs.sent.has_in_body.Goals as goal

pub returns-in-Ok : goal.returns-in-Ok
returns-in-Ok c =
    let text = c.args.text.now in
    let found = Decides-at c.has_text.result _
    (c.has_text.ensures ∙ ap (λ (ts : List SignedText). list_any (same_text text) ts) c.as_slice.ensures)
    (any-Decides (same_text text) text (same_text-Decides text) c.in-Ok.body.chain) in (
      λ t. (body_view c.in-Ok.body, c.in-Ok.ensures.ok, found.0 t),
      λ w. found.1 (subst (λ (b : BodyRecord). IsAmong text b.chain)
          (c.texts_have_one_body.ensures c.args.bytes.now w.0 (body_view c.in-Ok.body) w.1 c.in-Ok.ensures.ok) w.2),
    )
