-- What a request asks: by its route and its body.
use Rattle.std.specs.Prelude.{ℕ, List, Option, Some, None, Result, Ok, Err, codes, option_map, option_and_then}
use Rattle.canonical_json.specs.Value.{Value}
use Rattle.canonical_json.specs.Reading.{value_in}
use Rattle.canonical_json.specs.declared.fault.ReadError.{ReadError}
use Rattle.json_forms.specs.Reading.{required_party}
use Rattle.ebl_base.specs.declared.party.Party.{Party}
use Rattle.holder_commands.specs.Command.{CommandRecord}
use Rattle.holder_commands.specs.Reading.{command_of}
use Rattle.holder_commands.specs.declared.fault.CommandField.{CommandField}
use Rattle.platform_requests.specs.Desk.{MayAsk}
use Rattle.platform_requests.specs.Request.{RequestRecord, request_view, commands, starts, puts, finishes, asks}
use Rattle.http_heads.specs.declared.route.Route.{Route}
use Rattle.http_heads.specs.declared.route.Route.TheVariants.{Start, Document, Finish, Validation, Command, Bill}
use Rattle.http_requests.specs.declared.asked.Asked.{Asked}
use Rattle.http_requests.specs.declared.asked.Asked.TheVariants as askeds

pub data Asks : Type 0 where
  -- a request of the desk
  of_desk : RequestRecord → Asks
  -- whether the party is known
  of_party : Party → Asks

-- how contracts see what is asked
abbrev pub asked_view : Asked → Asks
asked_view (askeds.Desk request) = of_desk (request_view request)
asked_view (askeds.Party party) = of_party party

-- the value of a text, if it is JSON
abbrev pub value_if_read : Result Value ReadError → Option Value
value_if_read (Ok v) = Some v
value_if_read (Err e) = None

abbrev pub json_of : List ℕ → Option Value
json_of body = value_if_read (value_in body)

-- a receiver validation names a party
abbrev pub validation_of : Value → Option Asks
validation_of v = option_map of_party (required_party (codes "party") v)

-- a command comes with the party that gives it
abbrev pub commanded : Option Party → Result CommandRecord CommandField → Option Asks
commanded None command = None
commanded (Some party) (Ok command) = Some (of_desk (commands party command))
commanded (Some party) (Err field) = None

abbrev pub given_command : Value → Option Asks
given_command v = commanded (required_party (codes "party") v) (command_of v)

-- none where the body doesn't have its form; a Finish and a question of a bill ignore theirs
abbrev pub asks_of : Route → List ℕ → Option Asks
asks_of Start body = Some (of_desk (starts body))
asks_of (Document reference checksum) body = Some (of_desk (puts reference checksum body))
asks_of (Finish reference) body = Some (of_desk (finishes reference))
asks_of Validation body = option_and_then validation_of (json_of body)
asks_of Command body = option_and_then given_command (json_of body)
asks_of (Bill bill) body = Some (of_desk (asks bill))

-- a desk may be asked it
abbrev pub MayBeAsked : Asked → Type 0
MayBeAsked (askeds.Desk request) = MayAsk (request_view request)
MayBeAsked (askeds.Party party) = Unit {0}
