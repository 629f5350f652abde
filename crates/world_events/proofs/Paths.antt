-- The way of a reply leads where its request came from.
use Rattle.std.proofs.Common.{◌≡◌, List, ◌++◌, Option, Some, None, refl, ap, ◌∙◌, map}
use Rattle.std.specs.Prelude.{option_map}
use Rattle.std.specs.Option.{option_or, option_to_list}
use Rattle.ebl_base.specs.declared.checksum.Checksum.{Checksum}
use Rattle.ebl_base.specs.declared.platform_code.PlatformCode.{PlatformCode}
use Rattle.answer_lines.specs.declared.parcel.Parcel.{Parcel}
use Rattle.answer_lines.specs.declared.parcel.Content.{Content}
use Rattle.platform_requests.specs.declared.message.Message.{Message}
use Rattle.platform_requests.specs.declared.reply.Reply.{Reply}
use Rattle.world_events.specs.declared.happening.Sender.{Sender}
use Rattle.world_events.specs.declared.parcels.ReplyKind.{ReplyKind}
use Rattle.world_events.specs.declared.parcels.ReplyPath.{ReplyPath}
use Rattle.world_events.specs.Happening.{Asking}
use Rattle.world_events.specs.Parcels.{IsPathOf, kind_of, message_parcel, parcels_of, reply_bill, reply_content, reply_parcel, request_bill, sends}

-- a reply to a sender goes by the sender's bill; only one for nobody goes by the bill that was read
by_sender : (from : PlatformCode) (sender : Option Sender) (a b : Option Checksum) (reply : Reply) (content : Content)
    → (sender ≡ None → a ≡ b)
    → reply_parcel from sender (option_or a (reply_bill reply)) content
    ≡ reply_parcel from sender (option_or b (reply_bill reply)) content
by_sender from (Some sender) a b reply content same = refl
by_sender from None a b reply content same =
    ap (λ bill. reply_parcel from None (option_or bill (reply_bill reply)) content) (same refl)

by_content : (from : PlatformCode) (sender : Option Sender) (a b : Option Checksum) (reply : Reply)
    (content : Option Content) → (sender ≡ None → a ≡ b)
    → option_map (reply_parcel from sender (option_or a (reply_bill reply))) content
    ≡ option_map (reply_parcel from sender (option_or b (reply_bill reply))) content
by_content from sender a b reply None same = refl
by_content from sender a b reply (Some content) same =
    ap (λ (parcel : Parcel). Some parcel) (by_sender from sender a b reply content same)

pub path_leads : (a : Asking) (path : ReplyPath) (reply : Reply) (own : List Message) → IsPathOf a path
    → sends path.from path.sender path.kind path.brought reply own ≡ parcels_of a reply own
path_leads a path reply own is =
    ap (λ (from : PlatformCode). sends from path.sender path.kind path.brought reply own) is.from
    ∙ ap (λ (sender : Option Sender). sends a.at sender path.kind path.brought reply own) is.sender
    ∙ ap (λ (kind : ReplyKind). sends a.at a.sender kind path.brought reply own) is.kind
    ∙ ap (λ (sent : Option Parcel). map (message_parcel a.at) own ++ option_to_list sent)
    (by_content a.at a.sender path.brought (request_bill a.request) reply (reply_content (kind_of a.request) reply)
    is.brought)
