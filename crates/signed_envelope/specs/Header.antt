-- The header of a signed text (RFC 7515, section 4.1).
use Rattle.std.specs.Prelude.{ℕ, Bool, false, List, ◌++◌, Option, None, bytes_eq, codes, is_some, option_and_then, if◌then◌else◌}
use Rattle.std.specs.Option.{option_map_or}
use Rattle.ebl_base.specs.PlatformCode.{code_of, code_text}
use Rattle.ebl_base.specs.declared.platform_code.PlatformCode.{PlatformCode}
use Rattle.canonical_json.specs.Value.{Value, text, object, no_members, member}
use Rattle.canonical_json.specs.Field.{member_of, text_of}
use Rattle.signed_envelope.specs.Alg.{alg_text}
use Rattle.signed_envelope.specs.declared.alg.Alg.{Alg}

-- the header that is written, as a value: the algorithm, and whose key it is
abbrev pub header_value : Alg → PlatformCode → Value
header_value alg who =
    object (member (codes "alg") (text (alg_text alg)) (member (codes "kid") (text (code_text who)) no_members))

-- its text
abbrev pub header_text : Alg → PlatformCode → List ℕ
header_text alg who = codes "{\"alg\":\"" ++ alg_text alg ++ codes "\",\"kid\":\"" ++ code_text who ++ codes "\"}"

-- the header is an object that has the algorithm as the text `alg`
abbrev pub names_alg : Alg → Value → Bool
names_alg alg head = option_map_or (bytes_eq (alg_text alg)) (text_of (codes "alg") head) false

-- the platform whose code is the text `kid`, under this algorithm
abbrev pub signer_of : Alg → Value → Option PlatformCode
signer_of alg head = if names_alg alg head then option_and_then code_of (text_of (codes "kid") head) else None

-- the header has a member `crit`: further members that a reader has to understand (RFC 7515, section 4.1.11)
abbrev pub has_crit : Value → Bool
has_crit head = is_some (member_of (codes "crit") head)
