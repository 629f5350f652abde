-- One list of bytes has one reply.
use Rattle.std.proofs.Common.{◌≡◌, ℕ, List, ◌++◌, ap, sym, ◌∙◌, length, take}
use Rattle.std.proofs.Math.Seq.{take-append_seam}
use Rattle.httparse.specs.Grammar.{status_code}
use Rattle.httparse.proofs.GrammarLemmas.{response_unique}
use Rattle.pint_client.specs.Reply.{IsReply, stated_length}
use Rattle.pint_client.proofs.ReplyLemmas.{one_some}

pub one_reply : (came : List ℕ) (s t : ℕ) (a b x y : List ℕ) → IsReply came s a x → IsReply came t b y → (s ≡ t) × (a ≡ b)
one_reply came s t a b x y first second =
    let same = response_unique came first.head second.head (a ++ x) (b ++ y) first.reads second.reads in
    let long : length a ≡ length b =
    one_some (stated_length second.head) (length a) (length b) (ap stated_length (sym same.0) ∙ first.length_is) second.length_is in (
      first.status_is ∙ ap status_code same.0 ∙ sym second.status_is,
      sym (take-append_seam a x) ∙ ap (λ l. take (length a) l) same.1 ∙ ap (λ n. take n (b ++ y)) long ∙ take-append_seam b y,
    )
