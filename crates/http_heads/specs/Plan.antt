-- What the head of a request asks for: a body of some length for a route, or a status at once.
use Rattle.std.specs.Prelude.{ℕ, ◌≤◌, nat_le, Bool, true, false, ◌&&◌, List, [], map, length, codes, Option, Some, None, if◌then◌else◌}
use Rattle.std.specs.List.{list_all}
use Rattle.std.specs.Str.Parse.{digits_value}
use Rattle.http_heads.specs.declared.head.TheConstants.{MAX_FIELDS}
use Rattle.http_heads.specs.declared.fields.TheConstants.{MAX_BODY}
use Rattle.httparse.specs.Grammar.{RequestHead, ReadsRequest}
use Rattle.httparse.specs.Spans.{name_and_value}
use Rattle.http_heads.specs.Fields.{Fields, is_text, values, first_of, has_one, keeps_open, is_length}
use Rattle.http_heads.specs.Route.{route_of, method_of, states_length}
use Rattle.http_heads.specs.declared.route.Route.{Route}
use Rattle.http_heads.specs.declared.status.Status.TheVariants.{BadRequest, NotFound, MethodNotAllowed, LengthRequired, PayloadTooLarge, NotImplemented}
use Rattle.http_heads.specs.declared.plan.Plan.{Plan}
use Rattle.http_heads.specs.declared.plan.Plan.TheVariants.{Refuse, Await}

-- a body of so many bytes, at most 4,194,304
abbrev pub within : Route → ℕ → Bool → Plan
within route n keeps = if nat_le n MAX_BODY then Await route n keeps else Refuse PayloadTooLarge

-- by the lengths that are stated, which are texts: the first of them, and all
abbrev pub sized : Route → Bool → Option (List ℕ) → List (List ℕ) → Plan
sized route keeps None lengths = if states_length route then Refuse LengthRequired else Await route 0 keeps
sized route keeps (Some text) lengths =
    if is_length text && list_all (is_text text) lengths then within route (digits_value 10 text) keeps
    else Refuse BadRequest

abbrev pub routed : Option Route → List ℕ → Bool → List (List ℕ) → Plan
routed None method keeps lengths = Refuse NotFound
routed (Some route) method keeps lengths =
    if is_text (method_of route) method then sized route keeps (first_of lengths) lengths else Refuse MethodNotAllowed

-- the first that applies: 501 by a coding, 404 by the target, 405 by the method, 411 without a length, 400 and 413 by
-- it
abbrev pub plan : List ℕ → List ℕ → ℕ → Fields → Plan
plan method target minor fields =
    if has_one (values (codes "transfer-encoding") fields) then Refuse NotImplemented
    else routed (route_of target) method (keeps_open minor fields) (values (codes "content-length") fields)

-- the piece is a whole head with at most 64 fields
abbrev pub IsHead : List ℕ → RequestHead → Type 0
IsHead piece h = ReadsRequest piece h [] × (length h.fields ≤ MAX_FIELDS)

-- what a piece up to its first empty line asks for: as its head says, or 400 where it is no head
pub data IsPlan (piece : List ℕ) : Plan → Type 0 where
  head : (h : RequestHead) → IsHead piece h
      → IsPlan piece (plan h.method h.target h.minor (map name_and_value h.fields))
  none : ((h : RequestHead) → IsHead piece h → ⊥) → IsPlan piece (Refuse BadRequest)

-- a body that is awaited has at most 4,194,304 bytes
abbrev pub IsBounded : Plan → Type 0
IsBounded (Refuse status) = Unit {0}
IsBounded (Await route n keeps) = n ≤ MAX_BODY
