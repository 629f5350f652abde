-- What the judgement of one entry says, where the title so far is that of the entries before it.
use Rattle.std.proofs.Common.{◌≡◌, ◌≤◌, ℕ, Bool, true, false, not, List, [], ◌∷◌, Option, Some, None, Result, Ok, Err, cond, length, refl, sym, ap, ◌∙◌, subst, arith}
use Rattle.std.specs.Prelude.{option_map, slice_get}
use Rattle.std.specs.Bool.{Decides}
use Rattle.ebl_base.specs.Checksum.{checksum_eq}
use Rattle.ebl_base.specs.declared.chain.ChainLink.{ChainLink}
use Rattle.ebl_base.specs.declared.checksum.Checksum.{Checksum}
use Rattle.ebl_base.specs.declared.entry.Entry.{Entry}
use Rattle.ebl_base.specs.declared.party.Party.{Party}
use Rattle.ebl_base.specs.declared.platform_code.PlatformCode.{PlatformCode}
use Rattle.ebl_base.specs.declared.transaction.Transaction.{Transaction}
use Rattle.ebl_base.proofs.ChecksumLemmas.{checksum_eq-Decides}
use Rattle.ebl_base.proofs.SameLemmas.{code_eq-Decides, party_eq-Decides}
use Rattle.party_roster.specs.RosterRecord.{RosterRecord, carrier}
use Rattle.transport_document.specs.DocumentRecord.{DocumentRecord, bill_of}
use Rattle.title_fold.specs.declared.refusal.FoldAt.{FoldAt}
use Rattle.title_fold.specs.declared.title.Title.{Title}
use Rattle.bill_chain.specs.Chain.{last_name, title_after_chain, platform_with, platform_at_turn, MovesAtItsEnd, FollowsChain}
use Rattle.title_fold.specs.Fold.{fold_from}
use Rattle.transfer_chain.specs.GoodChain.{first_actor}
use Rattle.transfer_chain.specs.Refusal.{IsJoined, IsOfBill, IsByCarrier, IsInTurn, IsFoldRefused, IsMoveRefused}
use Rattle.transfer_chain.specs.Steps.{same_name, same_party, is_by_carrier, platform_at, turn_of, is_expected_platform, run, after_run, check_entry}
use Rattle.transfer_chain.specs.declared.fault.ChainRefusal.{ChainRefusal}
use Rattle.transfer_chain.specs.declared.fault.ChainRefusal.TheVariants.{BrokenLink, WrongBill, Carrier, WrongPlatform, Fold, Move}
use Rattle.transfer_chain.specs.declared.replay.Replayed.{Replayed}
use Rattle.transfer_chain.proofs.RunLemmas.{run-folds, run-stops, run-ends, ends-run}

-- no title stands before the first entry, and one does after it
abbrev pub IsBegun : List ChainLink → Option Title → Type 0
IsBegun [] title = title ≡ None
IsBegun (link ∷ front) title = (stands : Title) × (title ≡ Some stands)

-- the name and the title are those of the entries before
pub record Stands (front : List ChainLink) (previous : Option Checksum) (before : Option Title) : Type 0 where
  pub name : previous ≡ last_name front
  pub title : title_after_chain front ≡ Ok before
  pub begun : IsBegun front before

-- ---- tests

same_name-tells : (a b : Option Checksum) → Decides (same_name a b) (a ≡ b)
same_name-tells None None = (λ t. refl, λ e. refl)
same_name-tells None (Some b) = (λ t. cc, λ e. cc)
same_name-tells (Some a) None = (λ t. cc, λ e. cc)
same_name-tells (Some a) (Some b) =
    (λ t. ap Some ((checksum_eq-Decides a b).0 t), λ e. let same : a ≡ b = cc in (checksum_eq-Decides a b).1 same)

-- parties that are there and are one
abbrev SameParty : Option Party → Option Party → Type 0
SameParty a b = (party : Party) × (a ≡ Some party) × (b ≡ Some party)

same_party-tells : (a b : Option Party) → Decides (same_party a b) (SameParty a b)
same_party-tells None b = (λ t. cc, λ e. let no : None ≡ Some e.0 = e.1 in cc)
same_party-tells (Some a) None = (λ t. cc, λ e. let no : None ≡ Some e.0 = e.2 in cc)
same_party-tells (Some a) (Some b) = (
  λ t. (a, refl, ap Some (sym ((party_eq-Decides a b).0 t))),
  λ e. let first : Some a ≡ Some b = e.1 ∙ sym e.2 in let same : a ≡ b = cc in (party_eq-Decides a b).1 same,
)

is_expected_platform-tells : (turn : Option PlatformCode) (platform : PlatformCode) → Decides (is_expected_platform turn platform) (turn ≡ Some platform)
is_expected_platform-tells None platform = (λ t. cc, λ e. cc)
is_expected_platform-tells (Some turn) platform =
    (λ t. ap Some ((code_eq-Decides turn platform).0 t), λ e. let same : turn ≡ platform = cc in (code_eq-Decides turn platform).1 same)

not_false : {P : Type 0} (b : Bool) → Decides b P → b ≡ false → ¬ P
not_false b tells e holds = let no : true ≡ false = sym (tells.1 holds) ∙ e in cc

-- ---- whose turn it is

first_platform : (ts : List Transaction)
    → platform_at (first_actor ts) ≡ option_map (λ (t : Transaction). t.actor.platform) (slice_get ts 0)
first_platform [] = refl
first_platform (t ∷ ts) = refl

turn : (front : List ChainLink) (previous : Option Checksum) (title : Option Title) (entry : Entry)
    → Stands front previous title → turn_of title entry.transactions ≡ platform_at_turn front entry
turn [] previous title entry stands =
    ap (λ t. turn_of t entry.transactions) stands.begun ∙ first_platform entry.transactions
turn (link ∷ front) previous title entry stands =
    ap (λ t. turn_of t entry.transactions) stands.begun.1
    ∙ sym (ap platform_with (stands.title ∙ ap Ok stands.begun.1))

by_carrier : (roster : RosterRecord) (document : DocumentRecord) (front : List ChainLink) (title : Option Title) (entry : Entry)
    → IsBegun front title
    → Decides (is_by_carrier (carrier roster document.provider document.code) title entry.transactions)
    (IsByCarrier roster document front entry)
by_carrier roster document [] title entry begun =
    subst (λ t. Decides (is_by_carrier (carrier roster document.provider document.code) t entry.transactions) (IsByCarrier roster document [] entry))
    (sym begun) (same_party-tells (carrier roster document.provider document.code) (first_actor entry.transactions))
by_carrier roster document (link ∷ front) title entry begun =
    subst (λ t. Decides (is_by_carrier (carrier roster document.provider document.code) t entry.transactions) (IsByCarrier roster document (link ∷ front) entry))
    (sym begun.1) (λ t. tt, λ e. refl)

-- the carrier is asked where nothing stands before
carrier_first : (carrier : Option Party) (front : List ChainLink) (title : Option Title) (ts : List Transaction)
    → IsBegun front title → is_by_carrier carrier title ts ≡ false → front ≡ []
carrier_first carrier [] title ts begun h = refl
carrier_first carrier (link ∷ front) title ts begun h =
    let no : true ≡ false = ap (λ t. is_by_carrier carrier t ts) (sym begun.1) ∙ h in cc

-- ---- what is wrong with an entry, at its place

abbrev pub EntryWrong : RosterRecord → DocumentRecord → List ChainLink → Entry → ℕ → ChainRefusal → Type 0
EntryWrong roster document front entry place (BrokenLink i) = (place ≡ i) × ¬ IsJoined front entry
EntryWrong roster document front entry place (WrongBill i) =
    (place ≡ i) × IsJoined front entry × ¬ IsOfBill document entry
EntryWrong roster document front entry place Carrier =
    (front ≡ []) × IsJoined front entry × IsOfBill document entry × ¬ IsByCarrier roster document front entry
EntryWrong roster document front entry place (WrongPlatform i) =
    (place ≡ i) × IsJoined front entry × IsOfBill document entry × IsByCarrier roster document front entry
    × ¬ IsInTurn front entry
EntryWrong roster document front entry place (Fold i k rule) =
    (place ≡ i) × IsJoined front entry × IsOfBill document entry × IsByCarrier roster document front entry
    × IsInTurn front entry × IsFoldRefused k rule front entry
EntryWrong roster document front entry place (Move i) =
    (place ≡ i) × IsJoined front entry × IsOfBill document entry × IsByCarrier roster document front entry
    × IsInTurn front entry × IsMoveRefused front entry
EntryWrong roster document front entry place other = ⊥

-- the entry follows, and this is the title after it
pub record EntryRight (roster : RosterRecord) (document : DocumentRecord) (front : List ChainLink) (entry : Entry)
    (title after : Option Title) : Type 0 where
  pub follows : FollowsChain (bill_of document) front entry
  pub by_carrier : IsByCarrier roster document front entry
  pub folds : fold_from entry.transactions title 0 ≡ Ok after

abbrev pub Judged : RosterRecord → DocumentRecord → List ChainLink → Entry → ℕ → Option Title
    → Result (Option Title) ChainRefusal → Type 0
Judged roster document front entry place title (Ok after) = EntryRight roster document front entry title after
Judged roster document front entry place title (Err refusal) = EntryWrong roster document front entry place refusal

-- transactions of which the last alone moves, where there are some
ends_right : (ts : List Transaction) (before : Option Title) (ran : Replayed) → 1 ≤ length ts
    → run ts before true 0 ≡ Ok ran → ran.moves_last ≡ true → MovesAtItsEnd before ts
ends_right [] before ran some h right = absurd (omega arith)
ends_right (t ∷ ts) before ran some h right = (run-ends (t ∷ ts) before true 0 ran h right).1

pub check_entry-tells : (roster : RosterRecord) (document : DocumentRecord) (front : List ChainLink) (previous : Option Checksum)
    (title : Option Title) (place : ℕ) (entry : Entry) → Stands front previous title → 1 ≤ length entry.transactions
    → Judged roster document front entry place title
    (check_entry (carrier roster document.provider document.code) (bill_of document) previous title place entry)
check_entry-tells roster document front previous title place entry stands some =
    joined (same_name entry.previous previous) refl
  where
    party : Option Party
    party = carrier roster document.provider document.code

    bill : Checksum
    bill = bill_of document

    ts : List Transaction
    ts = entry.transactions

    joined_is : Decides (same_name entry.previous previous) (IsJoined front entry)
    joined_is =
        subst (λ p. Decides (same_name entry.previous previous) (entry.previous ≡ p)) stands.name
        (same_name-tells entry.previous previous)

    carrier_is : Decides (is_by_carrier party title ts) (IsByCarrier roster document front entry)
    carrier_is = by_carrier roster document front title entry stands.begun

    turn_is : Decides (is_expected_platform (turn_of title ts) entry.platform) (IsInTurn front entry)
    turn_is =
        subst (λ t. Decides (is_expected_platform (turn_of title ts) entry.platform) (t ≡ Some entry.platform))
        (turn front previous title entry stands) (is_expected_platform-tells (turn_of title ts) entry.platform)

    moved : IsJoined front entry → IsOfBill document entry → IsByCarrier roster document front entry
        → IsInTurn front entry → (ran : Replayed) → run ts title true 0 ≡ Ok ran → (b : Bool) → ran.moves_last ≡ b
        → Judged roster document front entry place title (cond b (Ok ran.title) (Err (Move place)))
    moved j b c t ran e true right =
        record {
          follows = record {
            bill_is = b;
            previous = j;
            platform = t;
            before = title;
            title = stands.title;
            moves = ends_right ts title ran some e right;
          };
          by_carrier = c;
          folds = run-folds ts title true 0 ran e;
        }
    moved j b c t ran e false wrong =
        (refl, j, b, c, t, (title, ran.title, stands.title, run-folds ts title true 0 ran e, not_right))
      where
        not_right : ¬ MovesAtItsEnd title ts
        not_right ends =
            let same : Ok (record { title = Some ends.after; moves_last = true }) ≡ Ok ran = sym (ends-run ts title 0 ends) ∙ e in
            let told : record { title = Some ends.after; moves_last = true } ≡ ran = cc in
            let no : true ≡ false = ap (λ (r : Replayed). r.moves_last) told ∙ wrong in
            cc

    ran_on : IsJoined front entry → IsOfBill document entry → IsByCarrier roster document front entry
        → IsInTurn front entry → (r : Result Replayed FoldAt) → run ts title true 0 ≡ r
        → Judged roster document front entry place title (after_run place r)
    ran_on j b c t (Ok ran) e = moved j b c t ran e ran.moves_last refl
    ran_on j b c t (Err at) e =
        (refl, j, b, c, t, (title, stands.title, run-stops ts title true 0 at e))

    in_turn : IsJoined front entry → IsOfBill document entry → IsByCarrier roster document front entry
        → (b : Bool) → is_expected_platform (turn_of title ts) entry.platform ≡ b
        → Judged roster document front entry place title
        (cond (not b) (Err (WrongPlatform place)) (after_run place (run ts title true 0)))
    in_turn j b c false e = (refl, j, b, c, not_false (is_expected_platform (turn_of title ts) entry.platform) turn_is e)
    in_turn j b c true e = ran_on j b c (turn_is.0 e) (run ts title true 0) refl

    by_the_carrier : IsJoined front entry → IsOfBill document entry
        → (b : Bool) → is_by_carrier party title ts ≡ b
        → Judged roster document front entry place title
        (cond (not b) (Err Carrier)
        (cond (not (is_expected_platform (turn_of title ts) entry.platform)) (Err (WrongPlatform place)) (after_run place (run ts title true 0))))
    by_the_carrier j b false e =
        (carrier_first party front title ts stands.begun e, j, b, not_false (is_by_carrier party title ts) carrier_is e)
    by_the_carrier j b true e = in_turn j b (carrier_is.0 e) (is_expected_platform (turn_of title ts) entry.platform) refl

    of_bill : IsJoined front entry → (b : Bool) → checksum_eq entry.bill bill ≡ b
        → Judged roster document front entry place title
        (cond (not b) (Err (WrongBill place))
        (cond (not (is_by_carrier party title ts)) (Err Carrier)
        (cond (not (is_expected_platform (turn_of title ts) entry.platform)) (Err (WrongPlatform place)) (after_run place (run ts title true 0)))))
    of_bill j false e = (refl, j, not_false (checksum_eq entry.bill bill) (checksum_eq-Decides entry.bill bill) e)
    of_bill j true e = by_the_carrier j ((checksum_eq-Decides entry.bill bill).0 e) (is_by_carrier party title ts) refl

    joined : (b : Bool) → same_name entry.previous previous ≡ b
        → Judged roster document front entry place title
        (cond (not b) (Err (BrokenLink place))
        (cond (not (checksum_eq entry.bill bill)) (Err (WrongBill place))
        (cond (not (is_by_carrier party title ts)) (Err Carrier)
        (cond (not (is_expected_platform (turn_of title ts) entry.platform)) (Err (WrongPlatform place)) (after_run place (run ts title true 0))))))
    joined false e = (refl, not_false (same_name entry.previous previous) joined_is e)
    joined true e = of_bill (joined_is.0 e) (checksum_eq entry.bill bill) refl
