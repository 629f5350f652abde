-- Each event of the generator may be taken.
use Rattle.std.proofs.Common.{◌≡◌, ◌≢◌, ◌≤◌, ◌<◌, ◌^◌, ◌+◌, ◌-◌, ℕ, Bool, true, false, cond, ◌++◌, Option, Some, None, length, min, nat_eq, nat_lt, refl, arith}
use Rattle.std.specs.Prelude.{IfSome, codes}
use Rattle.std.specs.Fmt.{decimal}
use Rattle.std.specs.Str.{IsUtf8, chars}
use Rattle.std.proofs.Math.Nat.{mod-lt}
use Rattle.std.proofs.lemmas.Bool.{eqb-false}
use Rattle.std.proofs.lemmas.Fmt.{IsAscii-decimal}
use Rattle.std.proofs.lemmas.Str.{IsUtf8-append, IsUtf8-from_ascii}
use Rattle.json.proofs.Printed.Utf8.{IsUtf8-are_ascii}
use Rattle.canonical_json.specs.Lawful.{HasTexts, IsLawful}
use Rattle.canonical_json.specs.Name.{name_cmp}
use Rattle.canonical_json.specs.Value.{depth}
use Rattle.ebl_base.specs.Party.{IsParty}
use Rattle.ebl_base.specs.declared.kind.Kind.{Kind}
use Rattle.ebl_base.specs.declared.kind.Kind.TheVariants as kinds
use Rattle.ebl_base.specs.declared.party.Party.{Party}
use Rattle.world_script.specs.declared.deed.BillName.TheVariants.{Number}
use Rattle.world_script.specs.Event.{DeedRecord, acts, delivers}
use Rattle.world_script.specs.Form.{IsNumber}
use Rattle.platform_world.specs.World.{WorldRecord}
use Rattle.rehearsal.specs.Draws.{drawn, next}
use Rattle.rehearsal.specs.Events.{Made, acting, asking, deed_at, delivering, document, happening, issuing, listed_or_carrier, possessor_in, resending, restarting, signing}
use Rattle.rehearsal.specs.Progress.{MayCome}
use Rattle.rehearsal.specs.Roster.{made_roster, party_at, platform_at}
use Rattle.rehearsal.proofs.Listed.{IsMadeParty, IsMadePlatform, actor_made, carrier_made, party_made, platform_made}

abbrev Comes : Made → Type 0
Comes next = MayCome made_roster next.event

-- ---- choices

-- what holds of both holds of either
either : {X : Type 0} (P : X → Type 0) (b : Bool) (x y : X) → P x → P y → P (cond b x y)
either P true x y if_true if_false = if_true
either P false x y if_true if_false = if_false

-- the same, where the test is known
either_by : {X : Type 0} (P : X → Type 0) (b : Bool) (x y : X) → P x → (b ≡ false → P y) → P (cond b x y)
either_by P true x y if_true if_false = if_true
either_by P false x y if_true if_false = if_false refl

-- a number that is drawn is below the bound
pub drawn_below : (n x : ℕ) → 0 < n → drawn n x < n
unfolding drawn
drawn_below n x some = mod-lt _ some

-- the number of a bill
bill_number : (bills x : ℕ) → 0 < bills → bills ≤ 1000 → IsNumber (drawn bills x + 1)
bill_number bills x some few =
    let below : drawn bills x < bills = drawn_below bills x some in
    record { least = omega arith; most = omega arith }

-- ---- commands

reference_text : (k : ℕ) → k < 2 ^ 64 → IsUtf8 (codes "R" ++ decimal k)
reference_text k small =
    IsUtf8-append (codes "R") (decimal k) (IsUtf8-are_ascii _ refl) (IsUtf8-from_ascii _ (IsAscii-decimal k small))

document_texts : (k : ℕ) → k < 2 ^ 64 → HasTexts (document k)
unfolding document
document_texts k small = (
  IsUtf8-are_ascii _ refl,
  IsUtf8-are_ascii _ refl,
  (
    IsUtf8-are_ascii _ refl,
    IsUtf8-are_ascii _ refl,
    (
      IsUtf8-are_ascii _ refl,
      tt,
      (
        IsUtf8-are_ascii _ refl,
        reference_text k small,
        (IsUtf8-are_ascii _ refl, IsUtf8-are_ascii _ refl, tt),
      ),
    ),
  ),
)

document_lawful : (k : ℕ) → IsLawful (document k)
unfolding document name_cmp chars
document_lawful k = refl

document_nests : (k : ℕ) → depth (document k) ≤ 126
unfolding document
document_nests k = omega arith

pub signing_comes : (k : ℕ) → k < 2 ^ 64 → MayCome made_roster (signing k)
signing_comes k small = record {
  form = (carrier_made.at.code, carrier_made.form, refl, (document_lawful k, document_texts k small));
  nests = document_nests k;
  listed = carrier_made.at.listed;
}

-- somebody acts on a bill
acted : (actor : Party) (k : ℕ) (kind : Kind) (recipient : Option Party) → IsMadeParty actor → IsNumber k
    → kind ≢ kinds.Sign → IfSome recipient IsParty → MayCome made_roster (asking actor (acts (Number k) kind recipient))
acted actor k kind recipient is number no_sign form = record {
  form = (is.at.code, is.form, refl, (number, no_sign, form));
  nests = tt;
  listed = is.at.listed;
}

pub issuing_comes : (k x : ℕ) → 1 ≤ k → k ≤ 1000 → Comes (issuing k x)
issuing_comes k x first last =
    acted _ k kinds.Issue (Some (party_at (drawn 6 (next x)))) carrier_made
    (record { least = first; most = omega arith }) (λ same. cc) (party_made _).form

deed_comes : (actor : Party) (h k : ℕ) (recipient : Party) → IsMadeParty actor → IsNumber k → IsParty recipient
    → MayCome made_roster (asking actor (deed_at h k recipient))
deed_comes actor h k recipient is number form =
    let P : DeedRecord → Type 0 = λ deed. MayCome made_roster (asking actor deed) in
    either P (nat_lt h 4) _ _
    (acted actor k kinds.Transfer (Some recipient) is number (λ same. cc) form)
    (either P (nat_lt h 6) _ _
    (acted actor k kinds.Endorse (Some recipient) is number (λ same. cc) form)
    (either P (nat_eq h 6) _ _
    (acted actor k kinds.SurrenderForDelivery None is number (λ same. cc) tt)
    (acted actor k kinds.SurrenderRefused None is number (λ same. cc) tt)))

acting_comes : (bills : ℕ) (w : WorldRecord) (x : ℕ) → 0 < bills → bills ≤ 1000 → Comes (acting bills w x)
acting_comes bills w x some few =
    deed_comes (listed_or_carrier (possessor_in w (drawn bills (next x) + 1))) (drawn 8 (next (next x)))
    (drawn bills (next x) + 1) (party_at (drawn 6 (next (next (next x)))))
    (actor_made (possessor_in w (drawn bills (next x) + 1))) (bill_number bills (next x) some few)
    (party_made (drawn 6 (next (next (next x))))).form

-- ---- deliveries, resends and restarts

delivered : (n : ℕ) → 1 ≤ n → n ≤ 9007199254740991 → MayCome made_roster (delivers n None)
delivered n first last = record { form = (record { least = first; most = last }, tt); nests = tt; listed = refl }

delivering_comes : (m x : ℕ) → m ≤ 9007199254740991 → Comes (delivering m x)
delivering_comes m x few =
    either_by (λ (next : Made). Comes next) (nat_eq m 0) _ _ (delivered 1 (omega arith) (omega arith))
    (λ (some : nat_eq m 0 ≡ false).
    let not_none : m ≢ 0 = eqb-false m 0 some in
    let below : drawn (min m 8) (next x) < min m 8 = drawn_below (min m 8) (next x) (omega arith) in
    delivered (m - drawn (min m 8) (next x)) (omega arith) (omega arith))

resending_comes : (bills x : ℕ) → 0 < bills → bills ≤ 1000 → Comes (resending bills x)
resending_comes bills x some few =
    let at : IsMadePlatform (platform_at (drawn 3 (next (next x)))) = platform_made _ in
    record { form = (at.code, bill_number bills (next x) some few); nests = tt; listed = at.listed }

restarting_comes : (x : ℕ) → Comes (restarting x)
restarting_comes x =
    let at : IsMadePlatform (platform_at (drawn 3 (next x))) = platform_made _ in
    record { form = at.code; nests = tt; listed = at.listed }

-- ---- what happens

pub happening_comes : (bills : ℕ) (w : WorldRecord) (x : ℕ) → 0 < bills → bills ≤ 1000
    → length w.sent ≤ 9007199254740991 → Comes (happening bills w x)
happening_comes bills w x some few sent =
    let P : Made → Type 0 = λ next. Comes next in
    either P (nat_lt (drawn 10 (next x)) 4) _ _ (acting_comes bills w (next x) some few)
    (either P (nat_lt (drawn 10 (next x)) 8) _ _ (delivering_comes (length w.sent) (next x) sent)
    (either P (nat_eq (drawn 10 (next x)) 8) _ _ (resending_comes bills (next x) some few)
    (restarting_comes (next x))))
