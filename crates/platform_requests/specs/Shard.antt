-- The shard of a request, 0 to 15: it goes by the first byte of the bill's name.
use Rattle.std.specs.Prelude.{ℕ, ◌%◌, List, Result, Ok, Err, slice_index}
use Rattle.ebl_base.specs.declared.checksum.Checksum.{Checksum}
use Rattle.ebl_base.specs.declared.reference.Reference.{Reference}
use Rattle.transport_document.specs.DocumentRecord.{DocumentRecord, bill_of}
use Rattle.transport_document.specs.Reading.{document_of}
use Rattle.transport_document.specs.declared.fault.DocumentFault.{DocumentFault}
use Rattle.envelope_manifest.specs.Body.{BodyRecord, body_in}
use Rattle.envelope_manifest.specs.declared.fault.BodyField.{BodyField}
use Rattle.holder_commands.specs.Command.{CommandRecord, signs, acts, attaches}
use Rattle.platform_requests.specs.Request.{RequestRecord, commands, starts, puts, finishes, start_replies, finish_replies, resends, asks}

-- the shard of a bill: byte 0 of its name, modulo 16
abbrev pub shard_of_bill : Checksum → ℕ
shard_of_bill bill = slice_index bill.0 0 % 16

-- the shard of a reference, whose byte 0 is that of the bill's name
abbrev pub shard_of_reference : Reference → ℕ
shard_of_reference reference = slice_index reference.0 0 % 16

-- the shard of the bill of a document; 0 where there is none
abbrev pub shard_of_document : Result DocumentRecord DocumentFault → ℕ
shard_of_document (Ok document) = shard_of_bill (bill_of document)
shard_of_document (Err fault) = 0

-- the shard of the bill of a body's document; 0 where there is none
abbrev pub shard_of_body : Result BodyRecord BodyField → ℕ
shard_of_body (Ok body) = shard_of_document (document_of body.document)
shard_of_body (Err field) = 0

abbrev pub shard_of_command : CommandRecord → ℕ
shard_of_command (signs document) = shard_of_document (document_of document)
shard_of_command (acts bill kind recipient) = shard_of_bill bill
shard_of_command (attaches bill name media bytes) = shard_of_bill bill

abbrev pub shard_of : RequestRecord → ℕ
shard_of (commands party command) = shard_of_command command
shard_of (starts body) = shard_of_body (body_in body)
shard_of (puts reference checksum bytes) = shard_of_reference reference
shard_of (finishes reference) = shard_of_reference reference
shard_of (start_replies bill bytes) = shard_of_bill bill
shard_of (finish_replies bill bytes) = shard_of_bill bill
shard_of (resends bill) = shard_of_bill bill
shard_of (asks bill) = shard_of_bill bill
