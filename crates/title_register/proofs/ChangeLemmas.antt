-- What a Settled changes in the standing of its bill.
use Rattle.std.proofs.Common.{◌≡◌, Bool, true, false, ◌||◌, cond, List, ◌∷◌, ◌++◌, Option, Some, None, length, refl, sym, ap, subst, ◌∙◌}
use Rattle.std.specs.Prelude.{nat_lt, option_and_then, unwrap_or}
use Rattle.std.specs.List.{list_any}
use Rattle.std.specs.Option.{option_or, option_map_or, option_to_list}
use Rattle.ebl_base.specs.Checksum.{checksum_eq}
use Rattle.ebl_base.specs.declared.checksum.Checksum.{Checksum}
use Rattle.ebl_base.specs.declared.chain.ChainLink.{ChainLink}
use Rattle.ebl_base.specs.declared.transaction.Transaction.{Transaction}
use Rattle.bill_diary.specs.declared.record.Record.{Record}
use Rattle.bill_diary.specs.declared.record.Record.TheVariants.{Settled}
use Rattle.bill_diary.specs.Known.{known, longest, longer, settled_chain, told}
use Rattle.bill_chain.specs.Chain.{has_entry}
use Rattle.bill_diary.specs.Place.{is_over, is_regained, is_settled, last_parted, parting, since, taken_chains}
use Rattle.title_register.specs.declared.standing.Standing.{Standing}
use Rattle.title_register.specs.declared.change.Change.{Change}
use Rattle.title_register.specs.declared.change.PartingChange.{PartingChange}
use Rattle.title_register.specs.Standing.{left_by, over_if, parting_with, standing_of, standing_with, unless_shorter}

-- the known chain with a chain that is told
longer_on : (chain other : List ChainLink) (b : Bool)
    → option_or (cond b None (Some chain)) (Some other) ≡ Some (cond b other chain)
longer_on chain other true = refl
longer_on chain other false = refl

known_on : (chain : List ChainLink) (before : Option (List ChainLink))
    → option_or (unless_shorter (Some chain) before) before ≡ Some (longer chain before)
known_on chain None = refl
known_on chain (Some other) = longer_on chain other (nat_lt (length chain) (length other))

known_more : (chain : Option (List ChainLink)) (before : List (List ChainLink))
    → option_or (unless_shorter chain (longest before)) (longest before) ≡ longest (option_to_list chain ++ before)
known_more None before = refl
known_more (Some chain) before = known_on chain (longest before)

-- an entry that isn't over may be now
over_on : (is settled regained came : Bool)
    → (((is || settled) || regained) || came) ≡ (is || ((settled || regained) || came))
over_on true settled regained came = refl
over_on false settled regained came = refl

parting_on : (entry : Checksum) (link : ChainLink) (over : Bool)
    → parting_with (over_if (option_map_or (λ (l : ChainLink). checksum_eq entry l.name) (cond over None (Some link)) false))
    (cond over None (Some link))
    ≡ cond (checksum_eq entry link.name || over) None (Some link)
parting_on entry link true = on_test (checksum_eq entry link.name)
  where
    on_test : (b : Bool) → None ≡ cond (b || true) None (Some link)
    on_test true = refl
    on_test false = refl
parting_on entry link false = on_test (checksum_eq entry link.name)
  where
    on_test : (b : Bool) → parting_with (over_if b) (Some link) ≡ cond (b || false) None (Some link)
    on_test true = refl
    on_test false = refl

parting_at : (bill entry : Checksum) (h : List Record) (last : Option ChainLink)
    → parting_with (over_if (option_map_or (λ (l : ChainLink). checksum_eq entry l.name)
    (option_and_then (λ (l : ChainLink). cond (is_over l.name h) None (Some l)) last) false))
    (option_and_then (λ (l : ChainLink). cond (is_over l.name h) None (Some l)) last)
    ≡ option_and_then (λ (l : ChainLink). cond (is_over l.name (Settled bill entry ∷ h)) None (Some l)) last
parting_at bill entry h None = refl
parting_at bill entry h (Some link) =
    parting_on entry link (is_over link.name h)
    ∙ ap (λ (over : Bool). cond over None (Some link))
    (sym (over_on (checksum_eq entry link.name) (is_settled link.name h) (is_regained link.name h)
    (list_any (has_entry link.name) (taken_chains h))))

-- the standing after a change by a Settled is that by the records with it
abbrev IsSettled : Checksum → Checksum → List Record → Option (List ChainLink) → Change → Bool → Standing → Type 0
IsSettled bill entry h chain change over s =
    change.known ≡ unless_shorter chain s.known → change.parting ≡ over_if over
    → over ≡ option_map_or (λ (l : ChainLink). checksum_eq entry l.name) s.parting false
    → change.left ≡ left_by (option_or change.known s.known) (Settled bill entry ∷ h) → change.since ≡ None
    → standing_with change s ≡ standing_of (Settled bill entry ∷ h)

by_records : (bill entry : Checksum) (h : List Record) (chain : Option (List ChainLink)) (change : Change) (over : Bool)
    → chain ≡ settled_chain entry h → IsSettled bill entry h chain change over (standing_of h)
by_records bill entry h chain change over chain_is change_is over_if_is over_is left_is since_is =
    let after = Settled bill entry ∷ h in
    let known_is : option_or change.known (known h) ≡ known after =
    ap (λ (c : Option (List ChainLink)). option_or c (known h)) change_is
    ∙ ap (λ (c : Option (List ChainLink)). option_or (unless_shorter c (known h)) (known h)) chain_is
    ∙ known_more (settled_chain entry h) (told h) in
    let parting_is : parting_with change.parting (parting h) ≡ parting after =
    ap (λ (p : PartingChange). parting_with p (parting h)) over_if_is
    ∙ ap (λ (b : Bool). parting_with (over_if b) (parting h)) over_is
    ∙ parting_at bill entry h (last_parted h) in
    let left_after : change.left ≡ left_by (known after) after =
    left_is ∙ ap (λ (c : Option (List ChainLink)). left_by c after) known_is in
    let since_after : unwrap_or change.since (since h) ≡ since h =
    ap (λ (made : Option (List Transaction)). unwrap_or made (since h)) since_is in
    λ i. record { known = known_is i; parting = parting_is i; left = left_after i; since = since_after i }

pub settled_standing : (bill entry : Checksum) (h : List Record) (chain : Option (List ChainLink)) (change : Change)
    (over : Bool) (s : Standing) → s ≡ standing_of h → chain ≡ settled_chain entry h
    → IsSettled bill entry h chain change over s
settled_standing bill entry h chain change over s is chain_is =
    subst (IsSettled bill entry h chain change over) (sym is) (by_records bill entry h chain change over chain_is)
