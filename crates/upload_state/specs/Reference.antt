-- The texts of references: UUIDs (RFC 9562).
use Rattle.std.specs.Prelude.{◌≡◌, ℕ, List, Option, length, option_map, All, ◌<◌}
use Rattle.uuid.specs.Text.{lower, hyphenated_text, parsed}
use Rattle.ebl_base.specs.declared.reference.Reference.{Reference}

-- the text of a reference: 8, 4, 4, 4 and 12 hexadecimal digits in lower case, with hyphens between them
abbrev pub reference_text : Reference → List ℕ
reference_text reference = hyphenated_text lower reference.0

-- the reference of these bytes
abbrev pub reference_with : List ℕ → Reference
reference_with bytes = record { 0 = bytes }

-- the reference that a text is, in any of the forms of a UUID: 32 digits, or with hyphens, and so in braces or behind
-- `urn:uuid:`, with digits and letters in either case
abbrev pub reference_in : List ℕ → Option Reference
reference_in text = option_map reference_with (parsed text)

-- a reference has 16 bytes
pub record IsReference (reference : Reference) : Type 0 where
  pub size : length reference.0 ≡ 16
  pub bytes : All (λ b. b < 256) reference.0
