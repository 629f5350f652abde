-- A desk in memory: the calls that it kept, if it kept all of them, and the parties that it knows.
use Rattle.std.specs.Prelude.{◌≡◌, ℕ, List, ◌++◌, Option, Some, None, Bool, map, if◌then◌else◌}
use Rattle.std.specs.List.{list_any}
use Rattle.ebl_base.specs.Party.{party_eq}
use Rattle.ebl_base.specs.declared.party.Party.{Party}
use Rattle.platform_requests.specs.Desk.{Call}
use Rattle.platform_requests.specs.Request.{request_view}
use Rattle.platform_requests.specs.declared.kept_call.KeptCall.{KeptCall}
use Rattle.platform_requests.specs.declared.memory_desk.MemoryDesk.{MemoryDesk}

-- a call that was kept
abbrev pub call_view : KeptCall → Call
call_view c = record { now = c.now; request = request_view c.request; outcome = c.outcome }

-- the calls that a desk kept, while it tells them
abbrev pub kept_calls : MemoryDesk → Option (List Call)
kept_calls desk = if desk.tells then Some (map call_view desk.kept.items) else None

-- the parties that a desk knows
abbrev pub known_parties : MemoryDesk → List Party
known_parties desk = desk.parties.items

-- between two desks: what was kept meanwhile; a desk that tells nothing any more may have been asked anything
abbrev pub Keeps : Option (List Call) → List Call → Option (List Call) → Type 0
Keeps before calls None = Unit {0}
Keeps None calls (Some after) = ⊥
Keeps (Some before) calls (Some after) = after ≡ before ++ calls

-- the party is among the desk's
abbrev pub is_known : List Party → Party → Bool
is_known parties party = list_any (λ p. party_eq p party) parties
