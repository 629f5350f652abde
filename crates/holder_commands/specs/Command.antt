-- What a holder asks of a platform, with a document as its JSON value.
use Rattle.std.specs.Prelude.{ℕ, List, Option}
use Rattle.canonical_json.specs.Value.{Value}
use Rattle.canonical_json.specs.View.{view}
use Rattle.ebl_base.specs.declared.checksum.Checksum.{Checksum}
use Rattle.ebl_base.specs.declared.kind.Kind.{Kind}
use Rattle.ebl_base.specs.declared.party.Party.{Party}
use Rattle.holder_commands.specs.declared.command.Command.{Command}
use Rattle.holder_commands.specs.declared.command.Command.TheVariants.{Sign, Act, Attach}

pub data CommandRecord : Type 0 where
  -- sign this document: a bill begins
  signs : Value → CommandRecord
  -- a transaction of this kind on the bill, to the recipient if there is one
  acts : Checksum → Kind → Option Party → CommandRecord
  -- attach a document to the bill: its name, its media type, its bytes
  attaches : Checksum → List ℕ → List ℕ → List ℕ → CommandRecord

-- how contracts see a command
abbrev pub command_view : Command → CommandRecord
command_view (Sign document) = signs (view document)
command_view (Act bill kind recipient) = acts bill kind recipient
command_view (Attach bill name media bytes) = attaches bill name media bytes
