-- Replies that were sent.
use Rattle.std.proofs.Common.{◌≡◌, ◌⊎◌, inl, inr, ℕ, Bool, List, [], ◌∷◌, refl, sym, ap, Decides}
use Rattle.std.specs.Prelude.{map, bytes_eq}
use Rattle.std.specs.List.{list_any}
use Rattle.std.proofs.lemmas.Bool.{false≢true}
use Rattle.std.proofs.lemmas.Bool.Decides.{Decides-like, Decides-or}
use Rattle.std.proofs.lemmas.Slice.Eq.{bytes_eq-Decides}
use Rattle.ebl_base.specs.declared.platform_code.PlatformCode.{PlatformCode}
use Rattle.closed_family.specs.Chains.{IsAmong}
use Rattle.run_safety.specs.Honest.{WasSentAsReply}
use Rattle.run_safety.specs.Network.{Sent, sent_start, sent_reply}
use Rattle.honest_texts.specs.Sent.{is_reply_with, sent_view}
use Rattle.honest_texts.specs.declared.sent.SentText.{SentText}

-- what was sent is a reply with these bytes
abbrev IsReply : List ℕ → Sent → Type 0
IsReply bytes s = (from : PlatformCode) × (s ≡ sent_reply from bytes)

reply-Decides : (bytes : List ℕ) (s : Sent) → Decides (is_reply_with bytes s) (IsReply bytes s)
reply-Decides bytes (sent_start from other) = (λ e. absurd (false≢true e), λ w. absurd (starts_are_no_replies w.1))
  where
    starts_are_no_replies : {p : PlatformCode} → sent_start from other ≡ sent_reply p bytes → ⊥
    starts_are_no_replies e = cc
reply-Decides bytes (sent_reply from other) =
    Decides-like (bytes_eq other bytes) (λ (e : other ≡ bytes). (from, ap (sent_reply from) e))
    (λ (w : IsReply bytes (sent_reply from other)). same w.0 w.1) (bytes_eq-Decides other bytes)
  where
    same : (p : PlatformCode) → sent_reply from other ≡ sent_reply p bytes → other ≡ bytes
    same p e = cc

-- a search finds a reply
pub replies-Decides : (bytes : List ℕ) (sent : List SentText)
    → Decides (list_any (λ one. is_reply_with bytes (sent_view one)) sent) (WasSentAsReply (map sent_view sent) bytes)
replies-Decides bytes [] = (λ e. absurd (false≢true e), λ w. absurd w.1)
replies-Decides bytes (one ∷ sent) =
    Decides-like (list_any (λ (s : SentText). is_reply_with bytes (sent_view s)) (one ∷ sent)) into from
    (Decides-or (is_reply_with bytes (sent_view one))
    (list_any (λ (s : SentText). is_reply_with bytes (sent_view s)) sent)
    (reply-Decides bytes (sent_view one)) (replies-Decides bytes sent))
  where
    into : IsReply bytes (sent_view one) ⊎ WasSentAsReply (map sent_view sent) bytes
        → WasSentAsReply (map sent_view (one ∷ sent)) bytes
    into (inl w) = (w.0, inl w.1)
    into (inr w) = (w.0, inr w.1)

    from : WasSentAsReply (map sent_view (one ∷ sent)) bytes
        → IsReply bytes (sent_view one) ⊎ WasSentAsReply (map sent_view sent) bytes
    from (p, inl same) = inl (p, same)
    from (p, inr later) = inr (p, later)
