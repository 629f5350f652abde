-- What stands at the front of a byte list, and how a whole list is cut into requests.
use Rattle.std.specs.Prelude.{◌≡◌, ◌≢◌, ℕ, nat_le, Bool, List, [], ◌∷◌, length, take, drop, if◌then◌else◌, Option, Some, None, Result, Ok, Err, MatchBool, slice_range}
use Rattle.http_heads.specs.declared.scan.TheConstants.{MAX_HEAD}
use Rattle.http_heads.specs.declared.scan.Scan.{Scan}
use Rattle.http_heads.specs.declared.status.Status.{Status}
use Rattle.http_heads.specs.declared.status.Status.TheVariants.{BadRequest}
use Rattle.http_heads.specs.declared.plan.Plan.{Plan}
use Rattle.http_heads.specs.declared.plan.Plan.TheVariants.{Refuse, Await}
use Rattle.http_heads.specs.Scan.{head_end}
use Rattle.http_heads.specs.Plan.{IsPlan}
use Rattle.http_requests.specs.Asked.{Asks, asks_of}
use Rattle.http_requests.specs.declared.front.Front.{Front}
use Rattle.http_requests.specs.declared.front.Front.TheVariants.{Refused, Whole}

-- a request, and whether the link may stay open after the reply
pub record Incoming : Type 0 where
  pub asks : Asks
  pub keeps : Bool

-- what stands at the front
pub data Next : Type 0 where
  -- a whole request, and what follows it
  whole : Incoming → List ℕ → Next
  -- no request: the status that is answered
  refused : Status → Next
  -- a first part of a request, or nothing
  short : Next

-- a head and a body are there: a request, unless the body doesn't have its form
abbrev pub formed : Option Asks → Bool → List ℕ → Next
formed None keeps after = refused BadRequest
formed (Some asked) keeps after = whole (record { asks = asked; keeps = keeps }) after

-- by the head's plan, with the bytes behind the head
abbrev pub next_by : Plan → List ℕ → Next
next_by (Refuse status) after = refused status
next_by (Await route n keeps) after =
    if nat_le n (length after) then formed (asks_of route (take n after)) keeps (drop n after) else short

-- where the head ends; without an end within 16,384 bytes there is no head
abbrev pub OnHead : Result ℕ Scan → List ℕ → Next → Type 0
OnHead (Ok n) b next = (p : Plan) × IsPlan (take n b) p × (next ≡ next_by p (drop n b))
OnHead (Err s) b next = next ≡ (if nat_le MAX_HEAD (length b) then refused BadRequest else short)

-- what stands at the front of the list
abbrev pub IsNext : List ℕ → Next → Type 0
IsNext b next = OnHead (head_end b) b next

-- what stands behind the last whole request that is cut
pub data CutEnd : Type 0 where
  -- nothing
  nothing : CutEnd
  -- a first part of a request
  within : CutEnd
  -- no request, by this status
  status : Status → CutEnd
  -- the last request's reply closed the link, and what follows isn't cut
  parted : CutEnd
  -- whatever stands there isn't cut
  stopped : CutEnd

abbrev pub EndsAt : List ℕ → CutEnd → Type 0
EndsAt b nothing = b ≡ []
EndsAt b within = (b ≢ []) × IsNext b short
EndsAt b (status s) = IsNext b (refused s)
EndsAt b parted = ⊥
EndsAt b stopped = Unit {0}

-- the requests of a byte list in order, and what stands behind them
abbrev pub Cuts : List ℕ → List Incoming → CutEnd → Type 0
Cuts b [] end = EndsAt b end
Cuts b (a ∷ requests) end =
    (after : List ℕ) × IsNext b (whole a after)
    × MatchBool a.keeps (Cuts after requests end) ((requests ≡ []) × (end ≡ parted))

-- what a front is, of the bytes from the front on
abbrev pub next_at : List ℕ → Front → Next
next_at b (Refused s) = refused s
next_at b (Whole route start end keeps) = formed (asks_of route (slice_range b start end)) keeps (drop end b)
