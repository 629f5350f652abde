-- The written form of an event: the one value without further members, with the names in order.
use Rattle.std.specs.Prelude.{ℕ, List, codes, true}
use Rattle.canonical_json.specs.Value.{Value, text, flag, object, no_members, member}
use Rattle.json_forms.specs.Writing.{capped_value, checksum_value, party_value, platform_value, optional_member}
use Rattle.json_forms.specs.Bytes.{bytes_value}
use Rattle.chain_entry.specs.Writing.{kind_value}
use Rattle.upload_state.specs.Reference.{reference_text}
use Rattle.ebl_base.specs.Moment.{moment_number}
use Rattle.ebl_base.specs.declared.moment.Moment.{Moment}
use Rattle.ebl_base.specs.declared.party.Party.{Party}
use Rattle.ebl_base.specs.declared.platform_code.PlatformCode.{PlatformCode}
use Rattle.ebl_base.specs.declared.reference.Reference.{Reference}
use Rattle.world_script.specs.declared.deed.BillName.{BillName}
use Rattle.world_script.specs.declared.deed.BillName.TheVariants.{Name, Number}
use Rattle.world_script.specs.Event.{DeedRecord, signs, acts, attaches, ForeignRecord, starts, puts, finishes, start_replies, finish_replies, EventRecord, commands, delivers, restarts, resends, asks, receives, shows}

-- a bill is its name's text, or its number
abbrev pub bill_value : BillName → Value
bill_value (Name bill) = checksum_value bill
bill_value (Number n) = capped_value n

-- a reference is its text
abbrev pub reference_value : Reference → Value
reference_value reference = text (reference_text reference)

-- the moment is always written
abbrev pub moment_value : Moment → Value
moment_value now = capped_value (moment_number now)

-- a command of this party, at this platform and moment
abbrev pub command_value : PlatformCode → Party → Moment → DeedRecord → Value
command_value at party now (signs document) =
    object (member (codes "at") (platform_value at)
    (member (codes "do") (text (codes "SIGN"))
    (member (codes "document") document
    (member (codes "now") (moment_value now)
    (member (codes "party") (party_value party) no_members)))))
command_value at party now (acts bill kind recipient) =
    object (member (codes "at") (platform_value at)
    (member (codes "bill") (bill_value bill)
    (member (codes "do") (kind_value kind)
    (member (codes "now") (moment_value now)
    (member (codes "party") (party_value party)
    (optional_member (codes "recipient") party_value recipient no_members))))))
command_value at party now (attaches bill name media bytes) =
    object (member (codes "at") (platform_value at)
    (member (codes "bill") (bill_value bill)
    (member (codes "bytes") (bytes_value bytes)
    (member (codes "do") (text (codes "ATTACH"))
    (member (codes "media") (text media)
    (member (codes "name") (text name)
    (member (codes "now") (moment_value now)
    (member (codes "party") (party_value party) no_members))))))))

-- a reply under its word
abbrev pub reply_value : PlatformCode → List ℕ → BillName → List ℕ → Value
reply_value at word bill reply =
    object (member (codes "at") (platform_value at)
    (member (codes "bill") (bill_value bill)
    (member (codes "foreign") (text word)
    (member (codes "text") (text reply) no_members))))

-- bytes from outside that come to this platform
abbrev pub foreign_value : PlatformCode → ForeignRecord → Value
foreign_value at (starts body) =
    object (member (codes "at") (platform_value at)
    (member (codes "body") (text body)
    (member (codes "foreign") (text (codes "START")) no_members)))
foreign_value at (puts reference checksum bytes) =
    object (member (codes "at") (platform_value at)
    (member (codes "bytes") (bytes_value bytes)
    (member (codes "checksum") (checksum_value checksum)
    (member (codes "foreign") (text (codes "PUT"))
    (member (codes "reference") (reference_value reference) no_members)))))
foreign_value at (finishes reference) =
    object (member (codes "at") (platform_value at)
    (member (codes "foreign") (text (codes "FINISH"))
    (member (codes "reference") (reference_value reference) no_members)))
foreign_value at (start_replies bill reply) = reply_value at (codes "START_REPLY") bill reply
foreign_value at (finish_replies bill reply) = reply_value at (codes "FINISH_REPLY") bill reply

abbrev pub event_value : EventRecord → Value
event_value (commands at party now deed) = command_value at party now deed
event_value (delivers number at) =
    object (optional_member (codes "at") platform_value at
    (member (codes "deliver") (capped_value number) no_members))
event_value (restarts at) = object (member (codes "restart") (platform_value at) no_members)
event_value (resends at bill) =
    object (member (codes "at") (platform_value at)
    (member (codes "bill") (bill_value bill)
    (member (codes "resend") (flag true) no_members)))
event_value (asks at bill) =
    object (member (codes "ask") (flag true)
    (member (codes "at") (platform_value at)
    (member (codes "bill") (bill_value bill) no_members)))
event_value (receives at bytes) = foreign_value at bytes
event_value (shows number) = object (member (codes "show") (capped_value number) no_members)
