-- The parts of a text in the compact layout.
use Rattle.std.proofs.Common.{◌≡◌, ℕ, zero, suc, Bool, ◌+◌, ◌*◌, ◌/◌, ◌%◌, ◌==◌, true, List, [], ◌∷◌, ◌++◌, slice_index, None, refl, sym, ap, ◌∙◌, append_assoc}
use Rattle.std.proofs.Math.Bool.{not}
use Rattle.std.proofs.lemmas.Bool.{and_parts}
use Rattle.std.proofs.lemmas.List.{append-nil}
use Rattle.std.specs.List.{list_all}
use Rattle.base64.specs.Rfc4648.{encode_symbols}
use Rattle.base64.specs.GeneralPurpose.{IsBytes, decode_of, engine_symbols}
use Rattle.base64.specs.Engines.{url_safe_no_pad}
use Rattle.base64.proofs.EngineFacts.{decode_of-encode_of}
use Rattle.ebl_base.specs.Signature.{IsSignature, signature_bytes, signature_of}
use Rattle.signed_envelope.specs.declared.compact.Parts.{Parts}
use Rattle.signed_envelope.specs.Compact.{HasNoStop, IsCompact, base64url, compact_text}
use Rattle.signed_envelope.proofs.Stops.{cut_unique, stop_stands}

-- a symbol that is no full stop
abbrev is_other : ℕ → Bool
is_other byte = not (byte == 46)

-- no symbol of a table without a full stop is one, past its end neither
symbol_is_other : (symbols : List ℕ) (i : ℕ) → list_all is_other symbols ≡ true → is_other (slice_index symbols i) ≡ true
symbol_is_other [] i h = refl
symbol_is_other (s ∷ ss) zero h = (and_parts (is_other s) (list_all is_other ss) h).0
symbol_is_other (s ∷ ss) (suc i) h = symbol_is_other ss i (and_parts (is_other s) (list_all is_other ss) h).1

-- the symbols of a message are those of the table
symbols_are_other : (symbols m : List ℕ) → list_all is_other symbols ≡ true → list_all is_other (encode_symbols symbols m) ≡ true
unfolding encode_symbols
symbols_are_other t [] h = refl
symbols_are_other t (a ∷ []) h =
    rw (symbol_is_other t (a / 4) h, symbol_is_other t (a % 4 * 16) h) refl
symbols_are_other t (a ∷ b ∷ []) h =
    rw (symbol_is_other t (a / 4) h, symbol_is_other t (a % 4 * 16 + b / 16) h, symbol_is_other t (b % 16 * 4) h) refl
symbols_are_other t (a ∷ b ∷ c ∷ rest) h =
    rw (symbol_is_other t (a / 4) h, symbol_is_other t (a % 4 * 16 + b / 16) h, symbol_is_other t (b % 16 * 4 + c / 64) h, symbol_is_other t (c % 64) h)
    (symbols_are_other t rest h)

-- no part has a full stop
pub base64url-no_stop : (bytes : List ℕ) → HasNoStop (base64url bytes)
unfolding base64url
base64url-no_stop bytes =
    rw append-nil (symbols_are_other (engine_symbols url_safe_no_pad) bytes refl)

-- what stands before and behind the first full stop of a text in the compact layout
pub compact_front : (header payload signature a b : List ℕ) → HasNoStop a → a ++ 46 ∷ b ≡ compact_text header payload signature
    → (a ≡ base64url header) × (b ≡ base64url payload ++ 46 ∷ base64url signature)
compact_front header payload signature a b no_stop e =
    cut_unique a b (base64url header) (base64url payload ++ 46 ∷ base64url signature) no_stop (base64url-no_stop header)
    (e ∙ append_assoc (base64url header) (46 ∷ base64url payload) (46 ∷ base64url signature))

-- and before and behind the second
pub compact_back : (payload signature a b : List ℕ) → HasNoStop a → a ++ 46 ∷ b ≡ base64url payload ++ 46 ∷ base64url signature
    → (a ≡ base64url payload) × (b ≡ base64url signature)
compact_back payload signature a b no_stop e = cut_unique a b (base64url payload) (base64url signature) no_stop (base64url-no_stop payload) e

-- equal parts are equal bytes
pub base64url-injective : (a b : List ℕ) → IsBytes a → IsBytes b → base64url a ≡ base64url b → a ≡ b
unfolding base64url
base64url-injective a b bytes_a bytes_b e =
    let read_a = decode_of-encode_of url_safe_no_pad a refl bytes_a in
    let read_b = decode_of-encode_of url_safe_no_pad b refl bytes_b in
    cc (sym read_a ∙ ap (decode_of url_safe_no_pad) e ∙ read_b)

-- the first part of a compact text, and what stands behind it
pub header_part : (most : ℕ) (text : List ℕ) (parts : Parts) (header behind : List ℕ) → HasNoStop header → text ≡ header ++ 46 ∷ behind
    → IsCompact most text parts
    → (header ≡ base64url parts.header) × (behind ≡ base64url parts.payload ++ 46 ∷ base64url (signature_bytes parts.signature))
header_part most text parts header behind no_stop cut is =
    compact_front parts.header parts.payload (signature_bytes parts.signature) header behind no_stop (sym cut ∙ is.layout)

-- its three parts
pub three_parts : (most : ℕ) (text : List ℕ) (parts : Parts) (header behind payload signature : List ℕ)
    → HasNoStop header → text ≡ header ++ 46 ∷ behind → HasNoStop payload → behind ≡ payload ++ 46 ∷ signature
    → IsCompact most text parts
    → (header ≡ base64url parts.header) × (payload ≡ base64url parts.payload) × (signature ≡ base64url (signature_bytes parts.signature))
three_parts most text parts header behind payload signature no_stop cut no_second second is =
    let first = header_part most text parts header behind no_stop cut is in
    let back = compact_back parts.payload (signature_bytes parts.signature) payload signature no_second (sym second ∙ first.1) in
    (first.0, back.0, back.1)

-- a text with one full stop is not compact
pub one_stop : (most : ℕ) (text : List ℕ) (parts : Parts) (header behind : List ℕ) → HasNoStop header → text ≡ header ++ 46 ∷ behind
    → HasNoStop behind → IsCompact most text parts → ⊥
one_stop most text parts header behind no_stop cut none is =
    let first = header_part most text parts header behind no_stop cut is in
    stop_stands (base64url parts.payload) (base64url (signature_bytes parts.signature)) (rw first.1 at none)

-- nor is one whose third part is no signature
pub no_signature : (parts : Parts) (bytes : List ℕ) → IsBytes bytes → base64url bytes ≡ base64url (signature_bytes parts.signature)
    → None ≡ signature_of bytes → IsSignature parts.signature → ⊥
no_signature parts bytes are e none is =
    let same = base64url-injective bytes (signature_bytes parts.signature) are is.bytes e in
    cc (none ∙ ap signature_of same ∙ is.made)
