-- In a sound history the newest record that tells a chain tells the known one.
use Rattle.std.proofs.Common.{◌≡◌, ◌≢◌, ◌<◌, ◌≤◌, Bool, true, false, ◌||◌, cond, List, [], ◌∷◌, ◌++◌, Option, Some, None, length, refl, ap, sym, subst, ◌∙◌, arith}
use Rattle.std.specs.Prelude.{option_map, nat_lt}
use Rattle.std.specs.List.{list_any}
use Rattle.std.specs.Option.{option_to_list}
use Rattle.std.proofs.lemmas.Bool.{or_parts, or_from}
use Rattle.std.proofs.lemmas.Bool.Decides.{nat_tests}
use Rattle.std.proofs.lemmas.List.{length-append}
use Rattle.ebl_base.specs.Checksum.{checksum_eq}
use Rattle.ebl_base.specs.declared.checksum.Checksum.{Checksum}
use Rattle.ebl_base.specs.declared.chain.ChainLink.{ChainLink}
use Rattle.ebl_base.specs.declared.platform_code.PlatformCode.{PlatformCode}
use Rattle.ebl_base.proofs.ChecksumLemmas.{checksum_eq-Decides}
use Rattle.bill_chain.specs.Chain.{has_entry}
use Rattle.bill_chain.proofs.ChainLemmas.{has_entry-last, goes_beyond-parts, goes_beyond-has}
use Rattle.bill_diary.specs.declared.record.Record.{Record}
use Rattle.bill_diary.specs.declared.record.Record.TheVariants.{Signed, Acted, Attached, Parted, Settled, Regained, Begun, Stored, Taken, Declined}
use Rattle.bill_diary.specs.declared.bill_place.BillPlace.TheVariants.{Held, Parting, Gone}
use Rattle.bill_diary.specs.Known.{taken_chain, longer, longest, told, settled_chain, known}
use Rattle.bill_diary.specs.Place.{is_settled, is_regained, is_over, taken_chains, last_parted, parting, is_left, since, place_with, place_of}
use Rattle.bill_diary.specs.Receiving.{continues}
use Rattle.bill_diary.specs.Sound.{IsParting, MayFollow, IsSoundHistory}
use Rattle.bill_diary.proofs.PlaceLemmas.{stands, WhereHeld, WhereParting, absent_knows_nothing, parting_is_last, last_is_parting, over_is_not_parting}

-- the newest of some chains
abbrev pub newest : List (List ChainLink) → Option (List ChainLink)
newest [] = None
newest (chain ∷ chains) = Some chain

-- what holds of a sound history: the newest chain that is recorded is the known one; a Settled of the entry that is parting
-- would tell the known chain followed by it; and where an entry was parted a chain is known
pub record TellsKnown (h : List Record) : Type 0 where
  pub newest_is : known h ≡ newest (told h)
  pub at_parting : (link : ChainLink) → parting h ≡ Some link
      → settled_chain link.name h ≡ option_map (λ chain. chain ++ link ∷ []) (known h)
  pub parted : (link : ChainLink) → last_parted h ≡ Some link → known h ≢ None

-- ---- the longest

-- a chain that isn't shorter than the longest of those behind it is the longest
longer_is : (chain other : List ChainLink) → length other ≤ length chain → longer chain (Some other) ≡ chain
longer_is chain other h =
    let not_longer : nat_lt (length chain) (length other) ≡ false = grind (arith, nat_tests) in
    ap (λ b. cond b other chain) not_longer

newest_is_longest : (told1 : Option (List ChainLink)) (chains : List (List ChainLink)) (chain : List ChainLink)
    → told1 ≡ Some chain → longer chain (longest chains) ≡ chain
    → longest (option_to_list told1 ++ chains) ≡ newest (option_to_list told1 ++ chains)
newest_is_longest told1 chains chain is keeps =
    let P : Option (List ChainLink) → Type 0 =
    λ o. longest (option_to_list o ++ chains) ≡ newest (option_to_list o ++ chains) in
    subst P (sym is) (ap Some keeps)

told_is_known : (told1 : Option (List ChainLink)) (chains : List (List ChainLink)) (chain : List ChainLink)
    → told1 ≡ Some chain → longest (option_to_list told1 ++ chains) ≢ None
told_is_known told1 chains chain is nothing =
    let P : Option (List ChainLink) → Type 0 = λ o. longest (option_to_list o ++ chains) ≡ None in
    let no : Some (longer chain (longest chains)) ≡ None = subst P is nothing in
    cc

-- ---- a chain that may be received

continues_on : (h : List Record) (known1 chain : List ChainLink) (left : Bool)
    → continues (cond left (Gone known1) (Held known1 (since h))) chain ≡ true → length known1 < length chain
continues_on h known1 chain true goes = (goes_beyond-parts known1 chain goes).longer
continues_on h known1 chain false goes = absurd (let no : false ≡ true = goes in cc)

-- it is longer than the known one
continues_longer : (h : List Record) (k : Option (List ChainLink)) (p : Option ChainLink) (chain : List ChainLink)
    → continues (place_with k p h) chain ≡ true → longer chain k ≡ chain
continues_longer h None p chain goes = refl
continues_longer h (Some known1) (Some link) chain goes =
    let beyond : length (known1 ++ link ∷ []) < length chain =
    (goes_beyond-parts (known1 ++ link ∷ []) chain goes).longer in
    longer_is chain known1 (omega (arith, beyond, length-append known1 (link ∷ [])))
continues_longer h (Some known1) None chain goes =
    let beyond = continues_on h known1 chain (is_left known1 h) goes in
    longer_is chain known1 (omega (arith, beyond))

-- it has the entry that is parting
continues_has : (h : List Record) (k : Option (List ChainLink)) (link : ChainLink) (chain : List ChainLink)
    → k ≢ None → continues (place_with k (Some link) h) chain ≡ true → has_entry link.name chain ≡ true
continues_has h None link chain some goes = absurd (some refl)
continues_has h (Some known1) link chain some goes =
    goes_beyond-has (known1 ++ link ∷ []) chain link.name goes (has_entry-last known1 link)

-- once a chain was taken that continues the place, nothing is parting
no_more_parting : (entry : Checksum) (h : List Record) (chain : List ChainLink) (link : ChainLink) (bill : Checksum)
    → taken_chain entry h ≡ Some chain → continues (place_of h) chain ≡ true
    → ((other : ChainLink) → last_parted h ≡ Some other → known h ≢ None)
    → parting (Taken bill entry ∷ h) ≡ Some link → ⊥
no_more_parting entry h chain link bill tells goes parted is =
    let (last, not_over) = parting_is_last (Taken bill entry ∷ h) link is in
    let (not_answered, not_taken) =
    or_parts (is_settled link.name h || is_regained link.name h)
    (list_any (has_entry link.name) (option_to_list (taken_chain entry h) ++ taken_chains h)) not_over in
    let P : Option (List ChainLink) → Type 0 =
    λ o. list_any (has_entry link.name) (option_to_list o ++ taken_chains h) ≡ false in
    let (not_here, not_before) =
    or_parts (has_entry link.name chain) (list_any (has_entry link.name) (taken_chains h))
    (subst P tells not_taken) in
    let open1 : is_over link.name h ≡ false =
    or_from (is_settled link.name h || is_regained link.name h) (list_any (has_entry link.name) (taken_chains h))
    not_answered not_before in
    let parting_is : parting h ≡ Some link = last_is_parting h link last open1 in
    let Q : Option ChainLink → Type 0 = λ p. continues (place_with (known h) p h) chain ≡ true in
    let has : has_entry link.name chain ≡ true =
    continues_has h (known h) link chain (parted link last) (subst Q parting_is goes) in
    cc

second_is_true : (a b c : Bool) → b ≡ true → ((a || b) || c) ≡ true
second_is_true true b c h = refl
second_is_true false b c h = ap (λ x. x || c) h

-- ---- each record

-- the chain that a Settled of the parting entry tells
pub settled_is_told : (bill entry : Checksum) (h : List Record) (settles : IsParting h entry) → TellsKnown h
    → settled_chain entry h ≡ Some (settles.known ++ settles.link ∷ [])
settled_is_told bill entry h settles before =
    let where1 : WhereParting h settles.known settles.link =
    stands h (Parting settles.known settles.link) settles.parting in
    ap (λ n. settled_chain n h) (sym settles.names) ∙ before.at_parting settles.link where1.parting_is
    ∙ ap (option_map (λ c. c ++ settles.link ∷ [])) where1.known_is

pub told_again : (me : PlatformCode) (r : Record) (h : List Record)
    → MayFollow me h h r → TellsKnown h → TellsKnown (r ∷ h)
told_again me (Signed bill document transaction) h signs before =
    let nothing = absent_knows_nothing h signs.absent in
    record {
      newest_is = ap (λ k. Some (longer [] k)) nothing;
      at_parting = λ link is. absurd (before.parted link (parting_is_last h link is).0 nothing);
      parted = λ link last no. cc;
    }
told_again me (Acted bill transaction) h acts before =
    record { newest_is = before.newest_is; at_parting = before.at_parting; parted = before.parted }
told_again me (Attached bill piece bytes) h attaches before =
    record { newest_is = before.newest_is; at_parting = before.at_parting; parted = before.parted }
told_again me (Parted bill link manifest manifest_text) h parts before =
    let held : WhereHeld h parts.known parts.since = stands h (Held parts.known parts.since) parts.held in
    let chain_of : Option (List ChainLink) = option_map (λ chain. chain ++ link ∷ []) (known h) in
    record {
      newest_is = before.newest_is;
      at_parting = λ other is.
          let last = (parting_is_last (Parted bill link manifest manifest_text ∷ h) other is).0 in
          let same : link ≡ other = cc in
          let P : ChainLink → Type 0 =
          λ l. cond (checksum_eq link.name l.name) chain_of (settled_chain l.name h)
          ≡ option_map (λ chain. chain ++ l ∷ []) (known h) in
          subst P same
          (ap (λ b. cond b chain_of (settled_chain link.name h)) ((checksum_eq-Decides link.name link.name).1 refl));
      parted = λ other last no. let some = held.known_is in cc;
    }
told_again me (Settled bill entry) h settles before =
    let where1 : WhereParting h settles.known settles.link =
    stands h (Parting settles.known settles.link) settles.parting in
    let link = settles.link in
    let chain = settles.known ++ link ∷ [] in
    let last = (parting_is_last h link where1.parting_is).0 in
    let tells : settled_chain entry h ≡ Some chain = settled_is_told bill entry h settles before in
    let grows : length settles.known ≤ length chain = omega (arith, length-append settles.known (link ∷ [])) in
    let keeps : longer chain (longest (told h)) ≡ chain =
    ap (longer chain) where1.known_is ∙ longer_is chain settles.known grows in
    let over : is_over link.name (Settled bill entry ∷ h) ≡ true =
    ap (λ b. (b || is_settled link.name h) || is_regained link.name h
    || list_any (has_entry link.name) (taken_chains h))
    ((checksum_eq-Decides entry link.name).1 (sym settles.names)) in
    record {
      newest_is = newest_is_longest (settled_chain entry h) (told h) chain tells keeps;
      at_parting = λ other is.
          let none : parting (Settled bill entry ∷ h) ≡ None =
          over_is_not_parting (Settled bill entry ∷ h) link last over in
          cc;
      parted = λ other is. told_is_known (settled_chain entry h) (told h) chain tells;
    }
told_again me (Regained bill entry) h regains before =
    let where1 : WhereParting h regains.known regains.link =
    stands h (Parting regains.known regains.link) regains.parting in
    let link = regains.link in
    let last = (parting_is_last h link where1.parting_is).0 in
    let over : is_over link.name (Regained bill entry ∷ h) ≡ true =
    second_is_true (is_settled link.name h) (checksum_eq entry link.name || is_regained link.name h)
    (list_any (has_entry link.name) (taken_chains h))
    (ap (λ b. b || is_regained link.name h) ((checksum_eq-Decides entry link.name).1 (sym regains.names))) in
    record {
      newest_is = before.newest_is;
      at_parting = λ other is.
          let none : parting (Regained bill entry ∷ h) ≡ None =
          over_is_not_parting (Regained bill entry ∷ h) link last over in
          cc;
      parted = before.parted;
    }
told_again me (Begun bill chain manifest body) h begins before =
    record { newest_is = before.newest_is; at_parting = before.at_parting; parted = before.parted }
told_again me (Stored bill entry checksum bytes) h stores before =
    record { newest_is = before.newest_is; at_parting = before.at_parting; parted = before.parted }
told_again me (Taken bill entry) h takes before =
    let chain = takes.begun.chain in
    let tells : taken_chain entry h ≡ Some chain = ap (option_map (λ came. came.chain)) takes.begun_is in
    let goes = takes.receives.continues_place in
    let keeps : longer chain (longest (told h)) ≡ chain = continues_longer h (known h) (parting h) chain goes in
    record {
      newest_is = newest_is_longest (taken_chain entry h) (told h) chain tells keeps;
      at_parting = λ link is. absurd (no_more_parting entry h chain link bill tells goes before.parted is);
      parted = λ link is. told_is_known (taken_chain entry h) (told h) chain tells;
    }
told_again me (Declined bill entry code reason evidence) h declines before =
    record { newest_is = before.newest_is; at_parting = before.at_parting; parted = before.parted }

-- so it is in each sound history
pub tells_known : (me : PlatformCode) (h : List Record) → IsSoundHistory me h → TellsKnown h
tells_known me [] sound = record {
  newest_is = refl;
  at_parting = λ link is. cc;
  parted = λ link last. cc;
}
tells_known me (r ∷ h) sound = told_again me r h sound.0 (tells_known me h sound.1)

-- ---- what each record tells of the known chain

-- the chain of a Taken is the known one
pub taken_tells : (me : PlatformCode) (bill entry : Checksum) (h : List Record)
    → IsSoundHistory me (Taken bill entry ∷ h) → known (Taken bill entry ∷ h) ≡ taken_chain entry h
taken_tells me bill entry h sound =
    let begun = sound.0.begun_is in
    let tells : taken_chain entry h ≡ Some sound.0.begun.chain = ap (option_map (λ came. came.chain)) begun in
    (tells_known me (Taken bill entry ∷ h) sound).newest_is
    ∙ ap (λ (o : Option (List ChainLink)). newest (option_to_list o ++ told h)) tells ∙ sym tells

-- and so is that of a Settled
pub settled_tells : (me : PlatformCode) (bill entry : Checksum) (h : List Record)
    → IsSoundHistory me (Settled bill entry ∷ h) → known (Settled bill entry ∷ h) ≡ settled_chain entry h
settled_tells me bill entry h sound =
    let tells = settled_is_told bill entry h sound.0 (tells_known me h sound.1) in
    (tells_known me (Settled bill entry ∷ h) sound).newest_is
    ∙ ap (λ (o : Option (List ChainLink)). newest (option_to_list o ++ told h)) tells ∙ sym tells
