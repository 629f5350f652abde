-- What a world has sent after a step was sent before, or by the step.
use Rattle.std.proofs.Common.{◌≡◌, ◌⊎◌, inl, inr, ℕ, List, [], ◌∷◌, ◌++◌, Option, Some, None, refl, sym, subst}
use Rattle.std.specs.Prelude.{map, option_map, slice_get, zero, suc}
use Rattle.std.specs.List.{flat_map}
use Rattle.std.specs.Option.{option_or, option_to_list}
use Rattle.std.proofs.lemmas.List.{append-nil}
use Rattle.std.proofs.lemmas.List.Concat.{flat_map-append}
use Rattle.ebl_base.specs.declared.platform_code.PlatformCode.{PlatformCode}
use Rattle.platform_requests.specs.declared.message.Message.{Message}
use Rattle.platform_requests.specs.declared.message.Message.TheVariants as messages
use Rattle.platform_requests.specs.declared.reply.Reply.{Reply}
use Rattle.platform_requests.specs.declared.reply.Reply.TheVariants as replies
use Rattle.platform_machine.specs.declared.step.Step.{Step}
use Rattle.closed_family.specs.Chains.{IsAmong}
use Rattle.closed_family.proofs.Records.{among_before, among_either, among_more}
use Rattle.answer_lines.specs.declared.parcel.Parcel.{Parcel}
use Rattle.answer_lines.specs.declared.parcel.Content.{Content}
use Rattle.answer_lines.specs.declared.parcel.Content.TheVariants as contents
use Rattle.world_events.specs.declared.parcels.ReplyKind.{ReplyKind}
use Rattle.world_events.specs.declared.parcels.ReplyKind.TheVariants as kinds
use Rattle.world_events.specs.declared.happening.Sender.{Sender}
use Rattle.world_events.specs.Happening.{Asking}
use Rattle.world_events.specs.Parcels.{kind_of, message_parcel, parcels_of, reply_bill, reply_content, reply_parcel, request_bill}
use Rattle.ebl_base.specs.declared.checksum.Checksum.{Checksum}
use Rattle.canonical_json.specs.Canon.{canon}
use Rattle.upload_state.specs.Started.{started_value}
use Rattle.run_safety.specs.Network.{Sent, sent_start, sent_reply}
use Rattle.run_safety.specs.Sending.{IsReplyText, IsSentBy}
use Rattle.world_safety.specs.Worlds.{sent_in, sent_of}

-- ---- the parcel of a start, of a reply

pub from_parcels : (xs : List Parcel) (parcel : Parcel) (s : Sent) → IsAmong parcel xs → IsAmong s (sent_of parcel)
    → IsAmong s (flat_map sent_of xs)
from_parcels [] parcel s listed among = absurd listed
from_parcels (x ∷ xs) parcel s (inl same) among =
    among_before s (sent_of x) (flat_map sent_of xs) (subst (λ (y : Parcel). IsAmong s (sent_of y)) (sym same) among)
from_parcels (x ∷ xs) parcel s (inr later) among =
    among_more s (sent_of x) (flat_map sent_of xs) (from_parcels xs parcel s later among)

-- the item of a number is one of the list
pub got_among : {X : Type 0} (xs : List X) (k : ℕ) (x : X) → slice_get xs k ≡ Some x → IsAmong x xs
got_among [] k x is = cc is
got_among (y ∷ ys) zero x is = inl (cc is)
got_among (y ∷ ys) (suc k) x is = inr (got_among ys k x is)

-- ---- what a step sends

message_sent : (p : PlatformCode) (step : Step) (m : Message) → IsAmong m step.messages → (s : Sent)
    → IsAmong s (sent_of (message_parcel p m)) → IsSentBy p step s
message_sent p step (messages.Start to bill body) among (sent_start from b) (inl same) =
    let platforms : p ≡ from = let whole : sent_start p body ≡ sent_start from b = same in cc whole in
    let bodies : body ≡ b = let whole : sent_start p body ≡ sent_start from b = same in cc whole in
    (sym platforms, (to, bill, subst (λ (x : List ℕ). IsAmong (messages.Start to bill x) step.messages) bodies among))
message_sent p step (messages.Start to bill body) among (sent_reply from b) (inl same) =
    let whole : sent_start p body ≡ sent_reply from b = same in cc whole
message_sent p step (messages.Start to bill body) among s (inr no_more) = absurd no_more
message_sent p step (messages.Put to bill reference checksum bytes) among s no_more = absurd no_more
message_sent p step (messages.Finish to bill reference) among s no_more = absurd no_more

messages_sent : (p : PlatformCode) (step : Step) (own : List Message)
    → ((m : Message) → IsAmong m own → IsAmong m step.messages) → (s : Sent)
    → IsAmong s (flat_map sent_of (map (message_parcel p) own)) → IsSentBy p step s
messages_sent p step [] each s among = absurd among
messages_sent p step (m ∷ ms) each s among =
    on_place (among_either s (sent_of (message_parcel p m)) (flat_map sent_of (map (message_parcel p) ms)) among)
    (messages_sent p step ms (λ x later. each x (inr later)) s)
  where
    on_place : IsAmong s (sent_of (message_parcel p m)) ⊎ IsAmong s (flat_map sent_of (map (message_parcel p) ms))
        → (IsAmong s (flat_map sent_of (map (message_parcel p) ms)) → IsSentBy p step s) → IsSentBy p step s
    on_place (inl here) further = message_sent p step m (each m (inl refl)) s here
    on_place (inr later) further = further later

-- a content is that of a reply's text
record IsContentOf (reply : Reply) (content : Content) : Type 0 where
  bytes : List ℕ
  text : IsReplyText reply bytes
  is : (content ≡ contents.StartReply bytes) ⊎ (content ≡ contents.FinishReply bytes)

content_is : (kind : ReplyKind) (reply : Reply) (content : Content) → reply_content kind reply ≡ Some content
    → IsContentOf reply content
content_is kinds.Start (replies.Started reference missing) content is = record {
  bytes = canon (started_value (record { reference = reference; missing = missing }));
  text = refl;
  is = inl (cc is);
}
content_is kinds.Start (replies.Answer response text) content is =
    record { bytes = text.0; text = refl; is = inl (cc is) }
content_is kinds.Start reply content is = cc is
content_is kinds.Finish (replies.Answer response text) content is =
    record { bytes = text.0; text = refl; is = inr (cc is) }
content_is kinds.Finish reply content is = cc is
content_is kinds.Unsent reply content is = cc is

reply_sent_as : (p : PlatformCode) (step : Step) (bytes : List ℕ) → IsReplyText step.reply bytes → (s : Sent)
    → IsAmong s (sent_reply p bytes ∷ []) → IsSentBy p step s
reply_sent_as p step bytes text (sent_start from b) (inl same) =
    let whole : sent_reply p bytes ≡ sent_start from b = same in cc whole
reply_sent_as p step bytes text (sent_reply from b) (inl same) =
    let whole : sent_reply p bytes ≡ sent_reply from b = same in
    let platforms : p ≡ from = cc whole in
    let texts : bytes ≡ b = cc whole in
    (sym platforms, subst (IsReplyText step.reply) texts text)
reply_sent_as p step bytes text s (inr no_more) = absurd no_more

content_sent : (p : PlatformCode) (step : Step) (content : Content) → IsContentOf step.reply content → (s : Sent)
    → IsAmong s (sent_in p content) → IsSentBy p step s
content_sent p step content of s among = on_kind of.is
  where
    on_kind : (content ≡ contents.StartReply of.bytes) ⊎ (content ≡ contents.FinishReply of.bytes) → IsSentBy p step s
    on_kind (inl start) =
        reply_sent_as p step of.bytes of.text s (subst (λ (c : Content). IsAmong s (sent_in p c)) start among)
    on_kind (inr finish) =
        reply_sent_as p step of.bytes of.text s (subst (λ (c : Content). IsAmong s (sent_in p c)) finish among)

-- a reply's parcel has the platform and the content
parcel_is : (p : PlatformCode) (sender : Option Sender) (bill : Option Checksum) (content : Content)
    → sent_of (reply_parcel p sender bill content) ≡ sent_in p content
parcel_is p (Some sender) bill content = refl
parcel_is p None bill content = refl

reply_sent : (p : PlatformCode) (sender : Option Sender) (bill : Option Checksum) (kind : ReplyKind) (step : Step)
    (s : Sent)
    → IsAmong s (flat_map sent_of (option_to_list (option_map (reply_parcel p sender bill) (reply_content kind step.reply))))
    → IsSentBy p step s
reply_sent p sender bill kind step s among = on_content (reply_content kind step.reply) refl among
  where
    on_content : (o : Option Content) → reply_content kind step.reply ≡ o
        → IsAmong s (flat_map sent_of (option_to_list (option_map (reply_parcel p sender bill) o))) → IsSentBy p step s
    on_content None is there = absurd there
    on_content (Some content) is there =
        content_sent p step content (content_is kind step.reply content is) s
        (subst (IsAmong s) (parcel_is p sender bill content)
        (subst (IsAmong s) (append-nil (sent_of (reply_parcel p sender bill content))) there))

-- whatever was sent after a step was sent before it, or by it
pub parcels_sent : (before : List Parcel) (a : Asking) (step : Step) (s : Sent)
    → IsAmong s (flat_map sent_of (before ++ parcels_of a step.reply step.messages))
    → IsAmong s (flat_map sent_of before) ⊎ IsSentBy a.at step s
parcels_sent before a step s among =
    on_place (among_either s (flat_map sent_of before) (flat_map sent_of (parcels_of a step.reply step.messages))
    (subst (IsAmong s) (flat_map-append sent_of before (parcels_of a step.reply step.messages)) among))
  where
    on_new : (replied : List Parcel) → (IsAmong s (flat_map sent_of replied) → IsSentBy a.at step s)
        → IsAmong s (flat_map sent_of (map (message_parcel a.at) step.messages ++ replied)) → IsSentBy a.at step s
    on_new replied by_reply new =
        on_either (among_either s (flat_map sent_of (map (message_parcel a.at) step.messages)) (flat_map sent_of replied)
        (subst (IsAmong s) (flat_map-append sent_of (map (message_parcel a.at) step.messages) replied) new))
      where
        on_either : IsAmong s (flat_map sent_of (map (message_parcel a.at) step.messages))
            ⊎ IsAmong s (flat_map sent_of replied) → IsSentBy a.at step s
        on_either (inl own) = messages_sent a.at step step.messages (λ m it. it) s own
        on_either (inr reply) = by_reply reply

    on_place : IsAmong s (flat_map sent_of before)
        ⊎ IsAmong s (flat_map sent_of (parcels_of a step.reply step.messages))
        → IsAmong s (flat_map sent_of before) ⊎ IsSentBy a.at step s
    on_place (inl old) = inl old
    on_place (inr new) =
        inr (on_new
        (option_to_list (option_map
        (reply_parcel a.at a.sender (option_or (request_bill a.request) (reply_bill step.reply)))
        (reply_content (kind_of a.request) step.reply)))
        (reply_sent a.at a.sender (option_or (request_bill a.request) (reply_bill step.reply)) (kind_of a.request) step s)
        new)
