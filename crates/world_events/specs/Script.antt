-- The grammar of a script: one JSON object a line. The first has the roster, and each later one is an event.
use Rattle.std.specs.Prelude.{◌≤◌, Bool, true, ℕ, List, Option, Some, None, Result, Ok, Err, codes, option_and_then, if◌then◌else◌}
use Rattle.std.specs.Option.{option_map_or}
use Rattle.ebl_base.specs.declared.platform_code.PlatformCode.{PlatformCode}
use Rattle.canonical_json.specs.Value.{depth}
use Rattle.canonical_json.specs.Field.{member_of}
use Rattle.canonical_json.specs.Reading.{value_in}
use Rattle.party_roster.specs.RosterRecord.{RosterRecord, has_platform}
use Rattle.party_roster.specs.Reading.{roster_of}
use Rattle.world_script.specs.Event.{EventRecord}
use Rattle.world_script.specs.Event as events
use Rattle.world_script.specs.Reading.{event_of}

-- what was read, if it was
abbrev pub if_ok : {X E : Type 0} → Result X E → Option X
if_ok (Ok x) = Some x
if_ok (Err fault) = None

-- the first line: a roster under `roster`
abbrev pub roster_in : List ℕ → Option RosterRecord
roster_in line =
    option_and_then (λ v. option_and_then (λ roster. if_ok (roster_of roster)) (member_of (codes "roster") v))
    (if_ok (value_in line))

-- the platform that an event names in `at` or `restart`
abbrev pub platform_of : EventRecord → Option PlatformCode
platform_of (events.commands at party now deed) = Some at
platform_of (events.delivers number at) = at
platform_of (events.restarts at) = Some at
platform_of (events.resends at bill) = Some at
platform_of (events.asks at bill) = Some at
platform_of (events.receives at bytes) = Some at
platform_of (events.shows number) = None

-- it is one of the roster, where one is named
abbrev pub names_listed : RosterRecord → EventRecord → Bool
names_listed roster event = option_map_or (has_platform roster) (platform_of event) true

abbrev pub if_listed : RosterRecord → EventRecord → Option EventRecord
if_listed roster event = if names_listed roster event then Some event else None

-- each later line: an event at platforms of the roster
abbrev pub event_in : RosterRecord → List ℕ → Option EventRecord
event_in roster line =
    option_and_then (λ v. option_and_then (if_listed roster) (if_ok (event_of v))) (if_ok (value_in line))

-- the document of a SIGN nests at most 126 deep, as every document of a line does
abbrev pub IsNested : EventRecord → Type 0
IsNested (events.commands at party now (events.signs document)) = depth document ≤ 126
IsNested event = Unit {0}
