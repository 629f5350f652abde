-- A command is read from its written form.
use Rattle.std.proofs.Common.{◌≡◌, ℕ, List, false, cond, IsTrue, Option, Some, None, Result, Ok, refl, ap, ◌∙◌}
use Rattle.base64.specs.GeneralPurpose.{IsBytes}
use Rattle.document_checksum.specs.Digest.{IsChecksum}
use Rattle.document_checksum.specs.Text.{checksum_of_text, checksum_text}
use Rattle.document_checksum.proofs.Texts.{checksum_of_text-checksum_text}
use Rattle.json_forms.specs.Reading.{required, unless_malformed, in_form}
use Rattle.json_forms.specs.Bytes.{bytes_of, base64}
use Rattle.json_forms.proofs.BytesLemmas.{bytes_of-base64}
use Rattle.json_forms.specs.declared.reading.Malformed.{Malformed}
use Rattle.envelope_manifest.specs.Piece.{is_plain_text, plain_text}
use Rattle.ebl_base.specs.Party.{party_of, party_text}
use Rattle.ebl_base.specs.declared.checksum.Checksum.{Checksum}
use Rattle.ebl_base.specs.declared.kind.Kind.{Kind}
use Rattle.ebl_base.specs.declared.kind.Kind.TheVariants as kinds
use Rattle.ebl_base.specs.declared.party.Party.{Party}
use Rattle.holder_commands.specs.declared.fault.CommandField.{CommandField}
use Rattle.holder_commands.specs.declared.fault.CommandField.TheVariants as fields
use Rattle.holder_commands.specs.Command.{CommandRecord, signs, acts, attaches}
use Rattle.holder_commands.specs.Form.{IsCommand}
use Rattle.holder_commands.specs.Reading.{command_of, begins_a_bill}
use Rattle.holder_commands.specs.Writing.{command_value}

-- an act of these parts
abbrev act_with : Kind → Option Checksum → Result (Option Party) Malformed → Result CommandRecord CommandField
act_with kind bill recipient =
    required fields.Bill bill (λ b. unless_malformed fields.Recipient recipient (λ r. Ok (acts b kind r)))

-- an act as it is written, whose recipient was read so
written_act : (bill : Checksum) (kind : Kind) (recipient : Option Party) (read : Result (Option Party) Malformed)
    → IsChecksum bill → read ≡ Ok recipient
    → act_with kind (checksum_of_text (checksum_text bill)) read ≡ Ok (acts bill kind recipient)
written_act bill kind recipient read of_bill is =
    ap (λ b. act_with kind b read) (checksum_of_text-checksum_text bill of_bill) ∙ ap (act_with kind (Some bill)) is

-- a command under the word of its kind is an act
by_kind_none : (bill : Checksum) (kind : Kind) → begins_a_bill kind ≡ false
    → command_of (command_value (acts bill kind None)) ≡ act_with kind (checksum_of_text (checksum_text bill)) (Ok None)
by_kind_none bill kinds.Sign h = cc
by_kind_none bill kinds.Issue h = refl
by_kind_none bill kinds.Endorse h = refl
by_kind_none bill kinds.Transfer h = refl
by_kind_none bill kinds.SurrenderForDelivery h = refl
by_kind_none bill kinds.SurrenderForAmendment h = refl
by_kind_none bill kinds.SurrenderAccepted h = refl
by_kind_none bill kinds.SurrenderRefused h = refl

by_kind_some : (bill : Checksum) (kind : Kind) (to : Party) → begins_a_bill kind ≡ false
    → command_of (command_value (acts bill kind (Some to)))
    ≡ act_with kind (checksum_of_text (checksum_text bill)) (in_form (party_of (party_text to)))
by_kind_some bill kinds.Sign to h = cc
by_kind_some bill kinds.Issue to h = refl
by_kind_some bill kinds.Endorse to h = refl
by_kind_some bill kinds.Transfer to h = refl
by_kind_some bill kinds.SurrenderForDelivery to h = refl
by_kind_some bill kinds.SurrenderForAmendment to h = refl
by_kind_some bill kinds.SurrenderAccepted to h = refl
by_kind_some bill kinds.SurrenderRefused to h = refl

-- an attachment of these parts
abbrev attachment_with : Option Checksum → Option (List ℕ) → Option (List ℕ) → Option (List ℕ)
    → Result CommandRecord CommandField
attachment_with bill name media bytes =
    required fields.Bill bill (λ b.
    required fields.Name name (λ n.
    required fields.Media media (λ m.
    required fields.Bytes bytes (λ x.
    Ok (attaches b n m x)))))

written_attachment : (bill : Checksum) (name media bytes : List ℕ) → IsChecksum bill
    → IsTrue (is_plain_text 128 name) → IsTrue (is_plain_text 64 media) → IsBytes bytes
    → attachment_with (checksum_of_text (checksum_text bill)) (plain_text 128 name) (plain_text 64 media)
    (bytes_of (base64 bytes))
    ≡ Ok (attaches bill name media bytes)
written_attachment bill name media bytes of_bill of_name of_media of_bytes =
    ap (λ b. attachment_with b (plain_text 128 name) (plain_text 64 media) (bytes_of (base64 bytes)))
    (checksum_of_text-checksum_text bill of_bill)
    ∙ ap (λ t. attachment_with (Some bill) (cond t (Some name) None) (plain_text 64 media) (bytes_of (base64 bytes)))
    of_name
    ∙ ap (λ t. attachment_with (Some bill) (Some name) (cond t (Some media) None) (bytes_of (base64 bytes))) of_media
    ∙ ap (attachment_with (Some bill) (Some name) (Some media)) (bytes_of-base64 bytes of_bytes)

pub command_of-command_value : (c : CommandRecord) → IsCommand c → command_of (command_value c) ≡ Ok c
command_of-command_value (signs document) form = refl
command_of-command_value (acts bill kind None) form =
    by_kind_none bill kind form.1 ∙ written_act bill kind None (Ok None) form.0 refl
command_of-command_value (acts bill kind (Some to)) form =
    by_kind_some bill kind to form.1
    ∙ written_act bill kind (Some to) (in_form (party_of (party_text to))) form.0 (ap in_form form.2)
command_of-command_value (attaches bill name media bytes) form =
    written_attachment bill name media bytes form.0 form.1.0 form.2.0 form.3
