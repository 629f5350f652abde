-- What reading into the buffer does.
use Rattle.std.specs.Prelude.{◌≡◌, ◌≢◌, ◌⊎◌, ℕ, ◌<◌, ◌≤◌, List, [], ◌++◌, length, max, Option, Some, None, Result, Ok, Err}
use Rattle.std.specs.Io.KnownBytes.{Consumes, IsAtEnd}
use Rattle.http_heads.specs.declared.scan.TheConstants.{MAX_HEAD}
use Rattle.http_heads.specs.Scan.{head_end}
use Rattle.http_heads.specs.declared.scan.Scan.{Scan}
use Rattle.http_requests.specs.Next.{IsNext, short}
use Rattle.http_requests.specs.declared.front.Front.{Front}
use Rattle.http_requests.specs.declared.front.Front.TheVariants.{Refused, Whole}
use Rattle.http_requests.specs.declared.end.LinkEnd.{LinkEnd}
use Rattle.http_requests.specs.declared.end.LinkEnd.TheVariants.{Closed, Cut, ReadFault, WriteFault, Limit, NoMemory}

-- the bytes that were read stand behind those of the buffer
pub record Fills (left now_left : Option (List ℕ)) (buffer now_buffer : List ℕ) : Type 0 where
  pub piece : List ℕ
  pub consumed : Consumes left now_left piece
  pub added : now_buffer ≡ buffer ++ piece

-- out of memory, bytes that were read may be lost
abbrev pub Added : LinkEnd → List ℕ → List ℕ → Type 0
Added Closed now all = now ≡ all
Added Cut now all = now ≡ all
Added ReadFault now all = now ≡ all
Added WriteFault now all = now ≡ all
Added Limit now all = now ≡ all
Added NoMemory now all = Unit {0}

-- the same at an end
pub record Read (end : LinkEnd) (left now_left : Option (List ℕ)) (buffer now_buffer : List ℕ) : Type 0 where
  pub piece : List ℕ
  pub consumed : Consumes left now_left piece
  pub added : Added end now_buffer (buffer ++ piece)

-- why no whole request came
abbrev pub IsStop : LinkEnd → List ℕ → Option (List ℕ) → Type 0
IsStop Closed buffer left = (buffer ≡ []) × IsAtEnd left
IsStop Cut buffer left = (buffer ≢ []) × IsNext buffer short × IsAtEnd left
IsStop ReadFault buffer left = (buffer ≡ []) ⊎ ((buffer ≢ []) × IsNext buffer short)
IsStop WriteFault buffer left = ⊥
IsStop Limit buffer left = ⊥
IsStop NoMemory buffer left = Unit {0}

-- a head of this length, or none within 16,384 bytes
abbrev pub HeadFound : Option ℕ → List ℕ → Type 0
HeadFound (Some n) buffer = (head_end buffer ≡ Ok n) × (n ≤ length buffer)
HeadFound None buffer = ((s : Scan) × (head_end buffer ≡ Err s)) × (MAX_HEAD ≤ length buffer)

-- fewer bytes than that came
abbrev pub LacksBytes : LinkEnd → ℕ → List ℕ → Option (List ℕ) → Type 0
LacksBytes Closed count buffer left = ⊥
LacksBytes Cut count buffer left = (length buffer < count) × IsAtEnd left
LacksBytes ReadFault count buffer left = length buffer < count
LacksBytes WriteFault count buffer left = ⊥
LacksBytes Limit count buffer left = ⊥
LacksBytes NoMemory count buffer left = Unit {0}

-- the body of a request that is found stands within so many bytes
abbrev pub IsWithin : Front → ℕ → Type 0
IsWithin (Refused s) n = Unit {0}
IsWithin (Whole route start end keeps) n = (start ≤ end) × (end ≤ n)

-- up to how many bytes the buffer is filled at most: those of the longest head, and those up to the end of a body that
-- is awaited
abbrev pub most_for : Front → ℕ
most_for (Refused s) = MAX_HEAD
most_for (Whole route start end keeps) = max MAX_HEAD end
