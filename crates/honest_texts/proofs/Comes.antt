-- What a request brings was sent, or it is honest: where it was sent, it is honest all the same.
use Rattle.std.proofs.Common.{◌≡◌, ◌⊎◌, inl, inr, ℕ, Bool, true, List, subst, Decides}
use Rattle.std.specs.Prelude.{Result, IfOk}
use Rattle.std.proofs.lemmas.Result.{IfOk-weaker}
use Rattle.ebl_base.specs.declared.no_memory.NoMemory.{NoMemory}
use Rattle.party_roster.specs.RosterRecord.{RosterRecord}
use Rattle.signed_envelope.specs.KeyRing.{Keys}
use Rattle.run_safety.specs.Honest.{WasSentAsStart, WasSentAsReply, IsHonestBody, IsHonestReply}
use Rattle.run_safety.specs.Network.{Sent}
use Rattle.honest_texts.specs.Sent.{one_ring}
use Rattle.honest_texts.proofs.Chains.{sent-honest}

-- what decides a fact decides too whether it or a stronger one holds
or-Decides : {A B : Type 0} (b : Bool) → (A → B) → Decides b B → Decides b (A ⊎ B)
or-Decides {A} {B} b stronger d = (λ t. inr (d.0 t), λ either. d.1 (one either))
  where
    one : A ⊎ B → B
    one (inl a) = stronger a
    one (inr b) = b

pub start-comes : (roster : RosterRecord) (keys : Keys) (sent : List Sent) (body bytes : List ℕ)
    (result : Result Bool NoMemory) → bytes ≡ body
    → IfOk result (λ honest. Decides honest (IsHonestBody roster (one_ring keys) sent bytes))
    → IfOk result
    (λ honest. Decides honest (WasSentAsStart sent body ⊎ IsHonestBody roster (one_ring keys) sent body))
start-comes roster keys sent body bytes result same is =
    IfOk-weaker result _ _
    (λ honest d. or-Decides honest (sent-honest roster keys sent body)
    (subst (λ (b : List ℕ). Decides honest (IsHonestBody roster (one_ring keys) sent b)) same d)) is

pub reply-comes : (roster : RosterRecord) (keys : Keys) (sent : List Sent) (reply bytes : List ℕ)
    (result : Result Bool NoMemory) → bytes ≡ reply
    → IfOk result (λ honest. Decides honest (IsHonestReply roster (one_ring keys) sent bytes))
    → IfOk result
    (λ honest. Decides honest (WasSentAsReply sent reply ⊎ IsHonestReply roster (one_ring keys) sent reply))
reply-comes roster keys sent reply bytes result same is =
    IfOk-weaker result _ _
    (λ honest d. or-Decides honest (λ was signed. was)
    (subst (λ (b : List ℕ). Decides honest (IsHonestReply roster (one_ring keys) sent b)) same d)) is
