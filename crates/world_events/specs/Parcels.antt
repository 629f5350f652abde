-- What a request to a platform sends: the messages of the platform's own, and the reply.
use Rattle.std.specs.Prelude.{◌≡◌, List, [], ◌∷◌, ◌++◌, Option, Some, None, Result, Ok, Err, map, option_map, unwrap_or}
use Rattle.std.specs.Option.{option_or, option_to_list}
use Rattle.ebl_base.specs.declared.checksum.Checksum.{Checksum}
use Rattle.ebl_base.specs.declared.platform_code.PlatformCode.{PlatformCode}
use Rattle.canonical_json.specs.Canon.{canon}
use Rattle.transport_document.specs.DocumentRecord.{DocumentRecord, bill_of}
use Rattle.transport_document.specs.Reading.{document_of}
use Rattle.transport_document.specs.declared.fault.DocumentFault.{DocumentFault}
use Rattle.envelope_manifest.specs.Body.{BodyRecord, body_in}
use Rattle.envelope_manifest.specs.declared.fault.BodyField.{BodyField}
use Rattle.upload_state.specs.Started.{started_value}
use Rattle.platform_requests.specs.Request.{RequestRecord}
use Rattle.platform_requests.specs.Request as requests
use Rattle.platform_requests.specs.declared.message.Message.{Message}
use Rattle.platform_requests.specs.declared.message.Message.TheVariants as messages
use Rattle.platform_requests.specs.declared.reply.Reply.{Reply}
use Rattle.platform_requests.specs.declared.reply.Reply.TheVariants as replies
use Rattle.answer_lines.specs.declared.parcel.Parcel.{Parcel}
use Rattle.answer_lines.specs.declared.parcel.Content.{Content}
use Rattle.answer_lines.specs.declared.parcel.Content.TheVariants as contents
use Rattle.world_events.specs.declared.happening.Sender.{Sender}
use Rattle.world_events.specs.declared.parcels.ReplyKind.{ReplyKind}
use Rattle.world_events.specs.declared.parcels.ReplyPath.{ReplyPath}
use Rattle.world_events.specs.declared.parcels.ReplyKind.TheVariants as kinds
use Rattle.world_events.specs.Happening.{Asking}

-- ---- what is sent

-- a message of a platform's own
abbrev pub message_parcel : PlatformCode → Message → Parcel
message_parcel from (messages.Start to bill body) =
    record { from = from; to = Some to; bill = bill; content = contents.Start body }
message_parcel from (messages.Put to bill reference checksum bytes) =
    record { from = from; to = Some to; bill = bill; content = contents.Put reference checksum bytes }
message_parcel from (messages.Finish to bill reference) =
    record { from = from; to = Some to; bill = bill; content = contents.Finish reference }

-- which requests have a reply that is sent
abbrev pub kind_of : RequestRecord → ReplyKind
kind_of (requests.starts body) = kinds.Start
kind_of (requests.puts reference checksum bytes) = kinds.Finish
kind_of (requests.finishes reference) = kinds.Finish
kind_of request = kinds.Unsent

-- what is sent as the reply: of a START the Started, as canonical JSON, or the signed answer; of a PUT and a FINISH the
-- signed answer
abbrev pub reply_content : ReplyKind → Reply → Option Content
reply_content kinds.Start (replies.Started reference missing) =
    Some (contents.StartReply (canon (started_value (record { reference = reference; missing = missing }))))
reply_content kinds.Start (replies.Answer response text) = Some (contents.StartReply text.0)
reply_content kinds.Finish (replies.Answer response text) = Some (contents.FinishReply text.0)
reply_content kind reply = None

-- ---- the bill of an exchange

-- where no bill was read, 32 zero bytes stand for it
abbrev pub no_bill : Checksum
no_bill = record {
  0 =
      0 ∷ 0 ∷ 0 ∷ 0 ∷ 0 ∷ 0 ∷ 0 ∷ 0 ∷ 0 ∷ 0 ∷ 0 ∷ 0 ∷ 0 ∷ 0 ∷ 0 ∷ 0
      ∷ 0 ∷ 0 ∷ 0 ∷ 0 ∷ 0 ∷ 0 ∷ 0 ∷ 0 ∷ 0 ∷ 0 ∷ 0 ∷ 0 ∷ 0 ∷ 0 ∷ 0 ∷ 0 ∷ [];
}

-- the bill of a document, of a body's document
abbrev pub document_bill : Result DocumentRecord DocumentFault → Option Checksum
document_bill (Ok document) = Some (bill_of document)
document_bill (Err fault) = None

abbrev pub body_bill : Result BodyRecord BodyField → Option Checksum
body_bill (Ok body) = document_bill (document_of body.document)
body_bill (Err field) = None

-- the bill that a reply names
abbrev pub reply_bill : Reply → Option Checksum
reply_bill (replies.Answer response text) = response.bill
reply_bill reply = None

-- the bill of the document that a START brings
abbrev pub request_bill : RequestRecord → Option Checksum
request_bill (requests.starts body) = body_bill (body_in body)
request_bill request = None

-- a reply goes to the sender, for the bill of what was delivered; of bytes from outside it is for nobody, for the bill
-- that was read
abbrev pub reply_parcel : PlatformCode → Option Sender → Option Checksum → Content → Parcel
reply_parcel from (Some sender) bill content =
    record { from = from; to = Some sender.platform; bill = sender.bill; content = content }
reply_parcel from None bill content =
    record { from = from; to = None; bill = unwrap_or bill no_bill; content = content }

-- what is sent: the messages of the platform's own in their order, then the reply, if one of this kind is sent
abbrev pub sends : PlatformCode → Option Sender → ReplyKind → Option Checksum → Reply → List Message → List Parcel
sends from sender kind bill reply own =
    map (message_parcel from) own
    ++ option_to_list (option_map (reply_parcel from sender (option_or bill (reply_bill reply)))
    (reply_content kind reply))

-- the bill of the exchange is the one that the bytes from outside bring, or else the one that the reply names
abbrev pub parcels_of : Asking → Reply → List Message → List Parcel
parcels_of a reply own = sends a.at a.sender (kind_of a.request) (request_bill a.request) reply own

-- the way of the reply to a request; the bill that the request brings counts where it has no sender
pub record IsPathOf (a : Asking) (path : ReplyPath) : Type 0 where
  pub from : path.from ≡ a.at
  pub sender : path.sender ≡ a.sender
  pub kind : path.kind ≡ kind_of a.request
  pub brought : a.sender ≡ None → path.brought ≡ request_bill a.request
