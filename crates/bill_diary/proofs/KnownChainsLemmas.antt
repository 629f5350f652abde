-- What a pass from the oldest record keeps is what the records tell.
use Rattle.std.proofs.Common.{◌≡◌, Bool, true, false, List, [], ◌∷◌, ◌++◌, Option, Some, None, cond, map, reverse, refl, ap, sym, ◌∙◌, Bor}
use Rattle.std.specs.Prelude.{find, option_and_then, option_copied, option_map}
use Rattle.std.specs.Option.{option_to_list}
use Rattle.ebl_base.specs.Checksum.{checksum_eq}
use Rattle.ebl_base.specs.declared.checksum.Checksum.{Checksum}
use Rattle.ebl_base.specs.declared.chain.ChainLink.{ChainLink}
use Rattle.envelope_manifest.specs.declared.manifest.Manifest.{Manifest}
use Rattle.bill_chain.specs.Chain.{ends_in}
use Rattle.bill_diary.specs.declared.record.Record.{Record}
use Rattle.bill_diary.specs.declared.record.Record.TheVariants.{Signed, Acted, Attached, Parted, Settled, Regained, Begun, Stored, Taken, Declined}
use Rattle.bill_diary.specs.declared.known_chains.PartedEntry.{PartedEntry}
use Rattle.bill_diary.specs.declared.known_chains.KnownChains.{KnownChains}
use Rattle.bill_diary.specs.Known.{Received, known, told, longest, settled_chain, taken_chain, last_begun}
use Rattle.bill_diary.specs.KnownChains.{begun_chains, parted_entries, settled_among, known_with, IsToldBy}

-- ---- the chain of a Taken

found_behind_on : {A : Type 0} (p : A → Bool) (x : Bor A) (xs : List (Bor A)) (test : Bool)
    → option_copied (find (λ (y : Bor A). p y.now) xs) ≡ find p (map (λ (y : Bor A). y.now) xs)
    → option_copied (cond test (Some x) (find (λ (y : Bor A). p y.now) xs))
    ≡ cond test (Some x.now) (find p (map (λ (y : Bor A). y.now) xs))
found_behind_on p x xs true same = refl
found_behind_on p x xs false same = same

-- what is found among references is found behind them
found_behind : {A : Type 0} (p : A → Bool) (xs : List (Bor A))
    → option_copied (find (λ (y : Bor A). p y.now) xs) ≡ find p (map (λ (y : Bor A). y.now) xs)
found_behind p [] = refl
found_behind p (x ∷ xs) = found_behind_on p x xs (p x.now) (found_behind p xs)

begun_on : (test : Bool) (chain : List ChainLink) (manifest : Manifest) (rest : Option Received)
    (found : Option (List ChainLink)) → found ≡ option_map (λ came. came.chain) rest
    → cond test (Some chain) found
    ≡ option_map (λ (came : Received). came.chain) (cond test (Some (record { chain = chain; manifest = manifest })) rest)
begun_on true chain manifest rest found same = refl
begun_on false chain manifest rest found same = same

-- the chain of a Taken is found among those that came
pub taken-begun : (entry : Checksum) (h : List Record) → find (ends_in entry) (begun_chains h) ≡ taken_chain entry h
taken-begun entry [] = refl
taken-begun entry (Begun bill chain manifest body ∷ h) =
    begun_on (ends_in entry chain) chain manifest (last_begun entry h) (find (ends_in entry) (begun_chains h))
    (taken-begun entry h)
taken-begun entry (Signed bill document t ∷ h) = taken-begun entry h
taken-begun entry (Acted bill t ∷ h) = taken-begun entry h
taken-begun entry (Attached bill piece bytes ∷ h) = taken-begun entry h
taken-begun entry (Parted bill link manifest manifest_text ∷ h) = taken-begun entry h
taken-begun entry (Settled bill other ∷ h) = taken-begun entry h
taken-begun entry (Regained bill other ∷ h) = taken-begun entry h
taken-begun entry (Stored bill other checksum bytes ∷ h) = taken-begun entry h
taken-begun entry (Taken bill other ∷ h) = taken-begun entry h
taken-begun entry (Declined bill other code reason evidence ∷ h) = taken-begun entry h

-- ---- the chain of a Settled

departure_on : (test : Bool) (first : PartedEntry) (rest : Option PartedEntry) (settled : Option (List ChainLink))
    → option_and_then (λ (d : PartedEntry). d.chain) rest ≡ settled
    → option_and_then (λ (d : PartedEntry). d.chain) (cond test (Some first) rest) ≡ cond test first.chain settled
departure_on true first rest settled same = refl
departure_on false first rest settled same = same

-- it is found among the entries that were parted
pub settled-parted_entries : (entry : Checksum) (h : List Record)
    → option_and_then (λ d. d.chain) (find (λ d. checksum_eq d.entry entry) (parted_entries h)) ≡ settled_chain entry h
settled-parted_entries entry [] = refl
settled-parted_entries entry (Parted bill link manifest manifest_text ∷ h) =
    departure_on (checksum_eq link.name entry)
    (record { entry = link.name; chain = option_map (λ chain. chain ++ link ∷ []) (known h) })
    (find (λ d. checksum_eq d.entry entry) (parted_entries h)) (settled_chain entry h) (settled-parted_entries entry h)
settled-parted_entries entry (Signed bill document t ∷ h) = settled-parted_entries entry h
settled-parted_entries entry (Acted bill t ∷ h) = settled-parted_entries entry h
settled-parted_entries entry (Attached bill piece bytes ∷ h) = settled-parted_entries entry h
settled-parted_entries entry (Settled bill other ∷ h) = settled-parted_entries entry h
settled-parted_entries entry (Regained bill other ∷ h) = settled-parted_entries entry h
settled-parted_entries entry (Begun bill chain manifest body ∷ h) = settled-parted_entries entry h
settled-parted_entries entry (Stored bill other checksum bytes ∷ h) = settled-parted_entries entry h
settled-parted_entries entry (Taken bill other ∷ h) = settled-parted_entries entry h
settled-parted_entries entry (Declined bill other code reason evidence ∷ h) = settled-parted_entries entry h

-- ---- one record more

-- the known chain where one more is recorded, if any is
pub known-told : (more : Option (List ChainLink)) (chains : List (List ChainLink))
    → longest (option_to_list more ++ chains) ≡ known_with more (longest chains)
known-told None chains = refl
known-told (Some chain) chains = refl

-- a Taken of a chain that came
pub taken_more : (bill entry : Checksum) (h : List Record) (before after : KnownChains) (more : Option (List ChainLink))
    → IsToldBy h before
    → option_copied (find (λ c. ends_in entry c.now) (reverse before.begun.items)) ≡ more
    → after.known ≡ known_with more before.known → after.begun ≡ before.begun → after.parted ≡ before.parted
    → IsToldBy (Taken bill entry ∷ h) after
taken_more bill entry h before after more is found known_is begun_is parted_is =
    let tells : taken_chain entry h ≡ more =
    sym (taken-begun entry h) ∙ ap (find (ends_in entry)) (sym is.begun_is)
    ∙ sym (found_behind (ends_in entry) (reverse before.begun.items)) ∙ found in
    record {
      known_is = known_is ∙ ap (known_with more) is.known_is ∙ ap (λ m. known_with m (known h)) (sym tells)
          ∙ sym (known-told (taken_chain entry h) (told h));
      begun_is = ap (λ b. map (λ c. c.now) (reverse b.items)) begun_is ∙ is.begun_is;
      parted_is = ap (λ p. reverse p.items) parted_is ∙ is.parted_is;
    }

-- a Settled
pub settled_more : (bill entry : Checksum) (h : List Record) (before after : KnownChains) (more : Option (List ChainLink))
    → IsToldBy h before
    → settled_among entry before.parted.items ≡ more
    → after.known ≡ known_with more before.known → after.begun ≡ before.begun → after.parted ≡ before.parted
    → IsToldBy (Settled bill entry ∷ h) after
settled_more bill entry h before after more is found known_is begun_is parted_is =
    let tells : settled_chain entry h ≡ more =
    sym (settled-parted_entries entry h)
    ∙ ap (λ ds. option_and_then (λ d. d.chain) (find (λ d. checksum_eq d.entry entry) ds)) (sym is.parted_is)
    ∙ found in
    record {
      known_is = known_is ∙ ap (known_with more) is.known_is ∙ ap (λ m. known_with m (known h)) (sym tells)
          ∙ sym (known-told (settled_chain entry h) (told h));
      begun_is = ap (λ b. map (λ c. c.now) (reverse b.items)) begun_is ∙ is.begun_is;
      parted_is = ap (λ p. reverse p.items) parted_is ∙ is.parted_is;
    }
