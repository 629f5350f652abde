-- What is written of a command has a canonical text.
use Rattle.std.proofs.Common.{true, ◌&&◌, Some, None, codes, refl, ap}
use Rattle.std.specs.Str.{chars}
use Rattle.canonical_json.specs.Lawful.{IsLawful, HasTexts}
use Rattle.canonical_json.specs.Name.{name_cmp}
use Rattle.document_checksum.proofs.ReadTexts.{IsUtf8-checksum_text}
use Rattle.json_forms.proofs.BytesLemmas.{IsUtf8-base64}
use Rattle.chain_entry.proofs.CanonicalForms.{literal, party_is_text, kind_is_text}
use Rattle.holder_commands.specs.Command.{CommandRecord, signs, acts, attaches}
use Rattle.holder_commands.specs.Form.{IsCommand}
use Rattle.holder_commands.specs.Writing.{command_value}

-- the names are in order, and there are no numbers
pub command-lawful : (c : CommandRecord) → IsCommand c → IsLawful (command_value c)
unfolding name_cmp chars
command-lawful (signs document) form = ap (λ b. b && true) form.0
command-lawful (acts bill kind None) form = refl
command-lawful (acts bill kind (Some recipient)) form = refl
command-lawful (attaches bill name media bytes) form = refl

-- texts of forms are ASCII, and the others are texts by the form
pub command-texts : (c : CommandRecord) → IsCommand c → HasTexts (command_value c)
command-texts (signs document) form =
    (literal (codes "do") refl, literal (codes "SIGN") refl, (literal (codes "document") refl, form.1, tt))
command-texts (acts bill kind None) form = (
  literal (codes "bill") refl,
  IsUtf8-checksum_text bill,
  (literal (codes "do") refl, kind_is_text kind, tt),
)
command-texts (acts bill kind (Some recipient)) form = (
  literal (codes "bill") refl,
  IsUtf8-checksum_text bill,
  (
    literal (codes "do") refl,
    kind_is_text kind,
    (literal (codes "recipient") refl, party_is_text recipient, tt),
  ),
)
command-texts (attaches bill name media bytes) form = (
  literal (codes "bill") refl,
  IsUtf8-checksum_text bill,
  (
    literal (codes "bytes") refl,
    IsUtf8-base64 bytes,
    (
      literal (codes "do") refl,
      literal (codes "ATTACH") refl,
      (literal (codes "media") refl, form.2.1, (literal (codes "name") refl, form.1.1, tt)),
    ),
  ),
)
