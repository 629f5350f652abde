-- The bytes of a journal: a version, frames behind open gates, and a gate that isn't open.
use Rattle.std.specs.Prelude.{◌≡◌, ◌≢◌, ◌⊎◌, ℕ, ◌+◌, ◌<◌, ◌^◌, List, [], ◌∷◌, ◌++◌, length, take}
use Rattle.std.specs.Int.{w32, to_be_bytes}

-- a length in four bytes, the highest first
unfoldable pub length_bytes : ℕ → List ℕ
length_bytes n = to_be_bytes w32 n

-- a frame behind its gate: the length of its content, and the content
abbrev pub frame_text : List ℕ → List ℕ
frame_text x = length_bytes (length x) ++ x

-- what an append writes first: a frame behind its gate, and a shut gate
abbrev pub framed : List ℕ → List ℕ
framed x = frame_text x ++ 0 ∷ []

-- the frames of these contents, each behind a gate 1
abbrev pub gated : List (List ℕ) → List ℕ
gated [] = []
gated (x ∷ xs) = 1 ∷ (frame_text x ++ gated xs)

-- the version 1, and the frames
abbrev pub front_of : List (List ℕ) → List ℕ
front_of h = 1 ∷ gated h

-- a content whose length has four bytes
abbrev pub IsShort : List ℕ → Type 0
IsShort x = length x < 2 ^ 32

-- each of them is so
abbrev pub AreShort : List (List ℕ) → Type 0
AreShort [] = Unit {0}
AreShort (x ∷ xs) = IsShort x × AreShort xs

-- the bytes are a journal of these contents: the front, and a gate that isn't 1, whatever follows
pub record StandsFor (file : List ℕ) (h : List (List ℕ)) : Type 0 where
  pub gate : ℕ
  pub rest : List ℕ
  pub shut : gate ≢ 1
  pub bytes : file ≡ front_of h ++ gate ∷ rest
  pub short : AreShort h

-- a content stands at a place in the bytes
pub record StandsAt (file : List ℕ) (place : ℕ) (x : List ℕ) : Type 0 where
  pub front : List ℕ
  pub rest : List ℕ
  pub bytes : file ≡ front ++ (x ++ rest)
  pub here : length front ≡ place

-- there is a gate, and it isn't 1
pub record IsShut (tail : List ℕ) : Type 0 where
  pub gate : ℕ
  pub rest : List ℕ
  pub shut : gate ≢ 1
  pub bytes : tail ≡ gate ∷ rest

-- there is a gate 1 and a whole frame, whose content has n bytes
pub record IsFrame (n : ℕ) (tail : List ℕ) : Type 0 where
  pub content : List ℕ
  pub rest : List ℕ
  pub bytes : tail ≡ 1 ∷ (frame_text content ++ rest)
  pub size : length content ≡ n
  pub short : n < 2 ^ 32

-- behind a gate 1 there is no whole length, or less than the length says
pub record RunsPast (tail : List ℕ) : Type 0 where
  pub rest : List ℕ
  pub opened : tail ≡ 1 ∷ rest
  pub past : (length rest < 4) ⊎ ((n : ℕ) × (n < 2 ^ 32) × (length_bytes n ≡ take 4 rest) × (length rest < 4 + n))

-- the version byte isn't 1
abbrev pub HasNoVersion : List ℕ → Type 0
HasNoVersion [] = Unit {0}
HasNoVersion (version ∷ rest) = version ≢ 1

-- behind whole frames the bytes end without a gate, or with a frame that runs past the end
pub record BreaksAt (file : List ℕ) (place : ℕ) : Type 0 where
  pub frames : List (List ℕ)
  pub tail : List ℕ
  pub bytes : file ≡ front_of frames ++ tail
  pub short : AreShort frames
  pub here : place ≡ length (front_of frames)
  pub broken : (tail ≡ []) ⊎ RunsPast tail

-- the bytes are no journal, and this is the place that shows it
abbrev pub IsDamagedAt : List ℕ → ℕ → Type 0
IsDamagedAt file place = (HasNoVersion file × (place ≡ 0)) ⊎ BreaksAt file place
