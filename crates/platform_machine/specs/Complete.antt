-- When nothing speaks against what is asked, a bill that another platform sends or a party's command; and which replies
-- are refusals and failures.
use Rattle.std.specs.Prelude.{◌≡◌, ◌≢◌, true, false, List, [], Bool, Option, Some, None, Result, Ok, Err}
use Rattle.ebl_base.specs.declared.chain.ChainLink.{ChainLink}
use Rattle.ebl_base.specs.declared.checksum.Checksum.{Checksum}
use Rattle.ebl_base.specs.declared.party.Party.{Party}
use Rattle.ebl_base.specs.declared.platform_code.PlatformCode.{PlatformCode}
use Rattle.envelope_manifest.specs.declared.manifest.Manifest.{Manifest}
use Rattle.holder_commands.specs.Command.{CommandRecord, signs, acts, attaches}
use Rattle.party_roster.specs.RosterRecord.{RosterRecord, knows}
use Rattle.platform_requests.specs.declared.reply.Reply.{Reply}
use Rattle.platform_requests.specs.declared.reply.Reply.TheVariants as replies
use Rattle.transport_document.specs.DocumentRecord.{DocumentRecord, bill_of}
use Rattle.transport_document.specs.Reading.{document_of}
use Rattle.transport_document.specs.declared.fault.DocumentFault.{DocumentFault}
use Rattle.bill_chain.specs.Chain.{destination, last_of}
use Rattle.bill_diary.specs.declared.frame.Frame.{Frame}
use Rattle.bill_diary.specs.History.{history, newest_first}
use Rattle.bill_diary.specs.Pieces.{missing_of}
use Rattle.bill_diary.specs.Place.{place_of}
use Rattle.bill_diary.specs.Receiving.{continues, is_taken, last_declined}
use Rattle.transfer_judge.specs.Judgement.{receiver_of}
use Rattle.transfer_judge.specs.Plan.{Plan}
use Rattle.transfer_judge.specs.declared.planned.PlanRefusal.{PlanRefusal}
use Rattle.platform_machine.specs.declared.step.Step.{Step}
use Rattle.platform_machine.specs.Step.{view_of, with_frame}

-- ---- a bill that another platform sends

-- the chain ends here, its last entry was neither taken nor declined, it continues the bill's place, the roster knows
-- the party that is to have possession, and the manifest's documents are there
pub record HasNoObjection (roster : RosterRecord) (me : PlatformCode) (diary : List Frame) (chain : List ChainLink)
    (manifest : Manifest) : Type 0 where
  pub last : ChainLink
  pub last_is : last_of chain ≡ Some last
  pub ends_here : destination chain ≡ Some me
  pub not_taken : is_taken last.name (newest_first diary) ≡ false
  pub not_declined : last_declined last.name (newest_first diary) ≡ None
  pub continues_place : continues (place_of (history last.entry.bill diary)) chain ≡ true
  pub receiver : Party
  pub receiver_is : receiver_of chain ≡ Some receiver
  pub is_known : knows roster receiver ≡ true
  pub none_missing : missing_of manifest (history last.entry.bill diary) ≡ []

-- ---- a party's command

-- no refusal meets it
abbrev pub IsNotRefused : Plan → Type 0
IsNotRefused plan = (refusal : PlanRefusal) → plan ≢ Err refusal

-- the bill of a document, where it is one of a bill
abbrev pub document_bill : Result DocumentRecord DocumentFault → Option Checksum
document_bill (Ok document) = Some (bill_of document)
document_bill (Err fault) = None

-- the bill that a command is about, if there is one
abbrev pub command_bill : CommandRecord → Option Checksum
command_bill (signs document) = document_bill (document_of document)
command_bill (acts bill kind recipient) = Some bill
command_bill (attaches bill name media bytes) = Some bill

-- it is done, and the reply shows the command's bill as it is then
pub record IsFulfilled (diary : List Frame) (command : CommandRecord) (step : Step) : Type 0 where
  pub bill : Checksum
  pub bill_is : command_bill command ≡ Some bill
  pub reply_is : step.reply ≡ replies.Done (view_of bill (with_frame diary step.frame))

-- ---- refusals and failures

-- whether a reply is a refusal: it isn't Done, asks for no document and stores none, and is no signed answer
abbrev pub is_refusal : Reply → Bool
is_refusal (replies.Done view) = false
is_refusal (replies.Started reference missing) = false
is_refusal replies.Stored = false
is_refusal (replies.Answer response text) = false
is_refusal reply = true

-- whether a reply is of a failure: the ring of keys, room in the journal, the disk, or memory
abbrev pub is_failure : Reply → Bool
is_failure replies.Sign = true
is_failure replies.Full = true
is_failure replies.Disk = true
is_failure (replies.Damaged place) = true
is_failure replies.NoMemory = true
is_failure reply = false
