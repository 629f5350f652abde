-- Bytes as a text in base64 (RFC 4648, section 4): the standard alphabet with padding, each list of bytes in its one
-- strict spelling.
use Rattle.std.specs.Prelude.{ℕ, List, Option, option_and_then}
use Rattle.std.specs.Result.{result_ok}
use Rattle.base64.specs.Engines.{standard}
use Rattle.base64.specs.GeneralPurpose.{decode_of, encode_of}
use Rattle.canonical_json.specs.Value.{Value, text}
use Rattle.canonical_json.specs.Field.{text_of}

-- the bytes that a text spells
unfoldable pub bytes_of : List ℕ → Option (List ℕ)
bytes_of spelt = result_ok (decode_of standard spelt)

-- the bytes that the text of that name spells
abbrev pub required_bytes : List ℕ → Value → Option (List ℕ)
required_bytes name v = option_and_then bytes_of (text_of name v)

-- the text that spells bytes
unfoldable pub base64 : List ℕ → List ℕ
base64 bytes = encode_of standard bytes

-- bytes are that text
abbrev pub bytes_value : List ℕ → Value
bytes_value bytes = text (base64 bytes)
