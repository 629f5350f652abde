use Rattle.std.proofs.Common.{rules, refl, sym, subst, codes}
use Rattle.std.specs.Bool.{IsTrue}
use Rattle.std.specs.Str.{IsUtf8, chars}
use Rattle.ebl_base.specs.declared.limits.TheConstants.{MAX_DOCUMENT_MEDIA, MAX_DOCUMENT_NAME}
use Rattle.envelope_manifest.specs.Piece.{is_plain_text}
use Rattle.sample_bills.proofs.commands.attachment.Goals as goal

pub returns-clause-form : goal.returns-clause-form
unfolding chars
returns-clause-form c =
    let n : IsUtf8 (codes "n") = search rules in
    let m : IsUtf8 (codes "m") = search rules in (
      c.requires.bill,
      subst (λ name. IsTrue (is_plain_text MAX_DOCUMENT_NAME name) × IsUtf8 name) (sym c.requires.name)
          (refl, n),
      subst (λ media. IsTrue (is_plain_text MAX_DOCUMENT_MEDIA media) × IsUtf8 media) (sym c.requires.media)
          (refl, m),
      c.requires.bytes,
    )
