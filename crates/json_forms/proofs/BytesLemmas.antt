-- Bytes and their one spelling in base64.
use Rattle.std.proofs.Common.{◌≡◌, ℕ, List, Option, Some, None, Result, Ok, Err, refl, ap}
use Rattle.std.specs.Result.{result_ok}
use Rattle.base64.specs.Engines.{standard}
use Rattle.base64.specs.GeneralPurpose.{IsBytes, decode_of, encode_of}
use Rattle.base64.proofs.EngineFacts.{IsAscii-encode_of, decode_of-encode_of, decode_of_iff}
use Rattle.std.specs.Str.{IsAscii, IsUtf8}
use Rattle.std.proofs.lemmas.Str.{IsUtf8-from_ascii}
use Rattle.json_forms.specs.Bytes.{bytes_of, base64}

-- what is there without its error was there with it
ok_behind : {T E : Type 0} (r : Result T E) (x : T) → result_ok r ≡ Some x → r ≡ Ok x
ok_behind (Ok y) x h = let same : y ≡ x = cc in ap Ok same
ok_behind (Err e) x h = cc

-- a text that spells bytes is their spelling
pub base64-bytes_of : (spelt bytes : List ℕ) → IsBytes spelt → IsBytes bytes
    → bytes_of spelt ≡ Some bytes → spelt ≡ base64 bytes
unfolding bytes_of base64
base64-bytes_of spelt bytes of_text of_bytes h =
    (decode_of_iff standard spelt bytes (refl, refl) of_text of_bytes).0 (ok_behind (decode_of standard spelt) bytes h)

-- and their spelling spells them
pub bytes_of-base64 : (bytes : List ℕ) → IsBytes bytes → bytes_of (base64 bytes) ≡ Some bytes
unfolding bytes_of base64
bytes_of-base64 bytes of_bytes = ap result_ok (decode_of-encode_of standard bytes refl of_bytes)

-- which is a text
pub IsUtf8-base64 : (bytes : List ℕ) → IsUtf8 (base64 bytes)
unfolding base64
IsUtf8-base64 bytes = IsUtf8-from_ascii (encode_of standard bytes) (IsAscii-encode_of standard bytes)
