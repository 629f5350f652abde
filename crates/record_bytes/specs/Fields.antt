-- What the fields of a frame look like: numbers in four bytes, texts behind their lengths, evidence.
use Rattle.std.specs.Prelude.{ℕ, ◌+◌, ◌<◌, ◌^◌, List, [], ◌∷◌, ◌++◌, Option, Some, None, length}
use Rattle.std.specs.Int.{w32, to_be_bytes}
use Rattle.ebl_base.specs.declared.evidence.Evidence.{Evidence}
use Rattle.ebl_base.specs.declared.signed_text.SignedText.{SignedText}

-- a number in four bytes, the highest first; of a greater number, its four low bytes
unfoldable pub four_bytes : ℕ → List ℕ
four_bytes n = to_be_bytes w32 n

-- a text: its length in four bytes, and its bytes
abbrev pub text_bytes : List ℕ → List ℕ
text_bytes text = four_bytes (length text) ++ text

-- four bytes hold the length of the text
abbrev pub IsShort : List ℕ → Type 0
IsShort text = length text < 2 ^ 32

-- how many texts there are, of one that may be left out
abbrev pub count_of : Option SignedText → ℕ
count_of None = 0
count_of (Some text) = 1

-- a text that may be left out, behind a byte that tells which it is
abbrev pub marked : ℕ → Option SignedText → List ℕ
marked mark None = []
marked mark (Some text) = mark ∷ text_bytes text.0

-- evidence: how many texts it has, then the own one behind a byte 1, then theirs behind a byte 2
abbrev pub evidence_bytes : Evidence → List ℕ
evidence_bytes evidence =
    (count_of evidence.own + count_of evidence.theirs) ∷ (marked 1 evidence.own ++ marked 2 evidence.theirs)
