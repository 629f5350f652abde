-- What is kept of a bill says what its records say.
use Rattle.std.proofs.Common.{◌≡◌, ℕ, Bool, true, false, ◌||◌, cond, List, [], ◌∷◌, ◌++◌, Option, Some, None, refl, sym, ap, subst, ◌∙◌}
use Rattle.std.specs.Prelude.{not, filter, option_and_then, option_map}
use Rattle.std.specs.List.{list_any}
use Rattle.std.specs.Option.{option_map_or, option_to_list}
use Rattle.std.proofs.lemmas.List.Folds.{list_any-append}
use Rattle.std.proofs.lemmas.Map.Views.{any-filter_same}
use Rattle.ebl_base.specs.Checksum.{checksum_eq}
use Rattle.ebl_base.specs.Reference.{reference_of}
use Rattle.ebl_base.specs.declared.checksum.Checksum.{Checksum}
use Rattle.ebl_base.specs.declared.chain.ChainLink.{ChainLink}
use Rattle.ebl_base.proofs.ChecksumLemmas.{checksum_eq-Decides}
use Rattle.envelope_manifest.specs.declared.manifest.Manifest.{Manifest}
use Rattle.bill_chain.specs.Chain.{ends_in, has_entry, last_of, names_of}
use Rattle.bill_diary.specs.declared.frame.Frame.{Frame}
use Rattle.bill_diary.specs.declared.record.Record.{Record}
use Rattle.bill_diary.specs.declared.record.Record.TheVariants.{Signed, Acted, Attached, Parted, Settled, Regained, Begun, Stored, Taken, Declined}
use Rattle.bill_diary.specs.History.{history, newest_first}
use Rattle.bill_diary.specs.Known.{known, last_begun, longest, settled_chain, taken_chain, told}
use Rattle.bill_diary.specs.Place.{is_over, last_parted, parting, taken_chains}
use Rattle.bill_diary.specs.Sound.{has_reference, last_with_reference}
use Rattle.bill_diary.proofs.ReferenceLemmas.{last_of_both}
use Rattle.title_register.specs.Frames.{has, last_number, record_numbered}
use Rattle.title_register.specs.Past.{arrived, is_among, is_fresh, taken_names, with_names}
use Rattle.title_register.proofs.LookUpLemmas.{begun_numbered}
use Rattle.title_register.proofs.RegisterLemmas.{begun_taken}

-- ---- entries that came

or-turned : (a b : Bool) → (a || b) ≡ (b || a)
or-turned true true = refl
or-turned true false = refl
or-turned false true = refl
or-turned false false = refl

-- a name that is among others stays among them where those that are there already are left out
found_on : (names others : List Checksum) (name : Checksum) (b : Bool) → is_among names name ≡ b
    → (b || is_among (filter (λ n. not (is_among names n)) others) name) ≡ (is_among others name || b)
found_on names others name true there = or-turned true (is_among others name)
found_on names others name false there =
    any-filter_same (λ n. checksum_eq n name) (λ n. not (is_among names n)) true
    (λ k same. ap not (ap (is_among names) ((checksum_eq-Decides k name).0 same) ∙ there)) others
    ∙ or-turned false (is_among others name)

found_with : (names others : List Checksum) (name : Checksum)
    → is_among (with_names names others) name ≡ (is_among others name || is_among names name)
found_with names others name =
    list_any-append (λ n. checksum_eq n name) names (filter (λ n. not (is_among names n)) others)
    ∙ found_on names others name (is_among names name) refl

named : (chain : List ChainLink) (name : Checksum) → is_among (names_of chain) name ≡ has_entry name chain
named [] name = refl
named (link ∷ chain) name = ap (λ (b : Bool). checksum_eq link.name name || b) (named chain name)

taken_on : (chain : Option (List ChainLink)) (rest : List (List ChainLink)) (names : List Checksum) (name : Checksum)
    → is_among names name ≡ list_any (has_entry name) rest
    → is_among (with_names names (option_map_or names_of chain [])) name
    ≡ list_any (has_entry name) (option_to_list chain ++ rest)
taken_on None rest names name is = found_with names [] name ∙ is
taken_on (Some chain) rest names name is =
    found_with names (names_of chain) name
    ∙ ap (λ (b : Bool). b || is_among names name) (named chain name)
    ∙ ap (λ (b : Bool). has_entry name chain || b) is

-- an entry came where a chain with it was taken
pub arrived_finds : (entry : Checksum) (h : List Record)
    → is_among (arrived h) entry ≡ list_any (has_entry entry) (taken_chains h)
arrived_finds entry [] = refl
arrived_finds entry (Taken bill other ∷ h) =
    taken_on (taken_chain other h) (taken_chains h) (arrived h) entry (arrived_finds entry h)
arrived_finds entry (Signed bill document transaction ∷ h) = arrived_finds entry h
arrived_finds entry (Acted bill transaction ∷ h) = arrived_finds entry h
arrived_finds entry (Attached bill piece bytes ∷ h) = arrived_finds entry h
arrived_finds entry (Parted bill link manifest manifest_text ∷ h) = arrived_finds entry h
arrived_finds entry (Settled bill other ∷ h) = arrived_finds entry h
arrived_finds entry (Regained bill other ∷ h) = arrived_finds entry h
arrived_finds entry (Begun bill chain manifest body ∷ h) = arrived_finds entry h
arrived_finds entry (Stored bill other checksum bytes ∷ h) = arrived_finds entry h
arrived_finds entry (Declined bill other code reason evidence ∷ h) = arrived_finds entry h

-- the names of the chain of a Begun that is taken
pub begun_names : (bill : Checksum) (chain : List ChainLink) (manifest : Manifest) (body : List ℕ) (link : ChainLink)
    → (h : List Record) → last_of chain ≡ Some link
    → taken_names link.name (Begun bill chain manifest body ∷ h) ≡ names_of chain
begun_names bill chain manifest body link h is =
    ap (λ (c : Option (List ChainLink)). option_map_or names_of c []) (begun_taken bill chain manifest body link h is)

none_more : (names : List Checksum) → names ++ [] ≡ names
none_more [] = refl
none_more (name ∷ names) = ap (λ (rest : List Checksum). name ∷ rest) (none_more names)

-- a Taken without a chain brings no name
pub nothing_arrived : (bill entry : Checksum) (h : List Record) → taken_chain entry h ≡ None
    → arrived h ≡ arrived (Taken bill entry ∷ h)
nothing_arrived bill entry h is =
    sym (ap (λ (c : Option (List ChainLink)). with_names (arrived h) (option_map_or names_of c [])) is
    ∙ none_more (arrived h))

pub ruleset arrivals = (begun_names, nothing_arrived)

-- ---- the chain of a Settled

parted_on : (over : Bool) (link last : ChainLink) → cond over None (Some last) ≡ Some link → last ≡ link
parted_on true link last is = cc is
parted_on false link last is = cc is

is_last : (link : ChainLink) (h : List Record) (last : Option ChainLink)
    → option_and_then (λ (l : ChainLink). cond (is_over l.name h) None (Some l)) last ≡ Some link → last ≡ Some link
is_last link h None is = cc is
is_last link h (Some last) is = ap Some (parted_on (is_over last.name h) link last is)

told_on : (link last : ChainLink) (entry : Checksum) (chain : List ChainLink) (h : List Record)
    → Some last ≡ Some link → checksum_eq link.name entry ≡ true → longest (told h) ≡ Some chain
    → cond (checksum_eq last.name entry) (option_map (λ (k : List ChainLink). k ++ last ∷ []) (longest (told h)))
    (settled_chain entry h) ≡ Some (chain ++ link ∷ [])
told_on link last entry chain h same named1 known_is =
    let one : last ≡ link = cc same in
    ap (λ (l : ChainLink). cond (checksum_eq l.name entry)
    (option_map (λ (k : List ChainLink). k ++ l ∷ []) (longest (told h))) (settled_chain entry h)) one
    ∙ ap (λ (b : Bool). cond b (option_map (λ (k : List ChainLink). k ++ link ∷ []) (longest (told h)))
    (settled_chain entry h)) named1
    ∙ ap (λ (o : Option (List ChainLink)). option_map (λ (k : List ChainLink). k ++ link ∷ []) o) known_is

-- a Settled of the last entry that was parted tells the known chain, followed by the entry, while that is fresh
fresh_tells : (entry : Checksum) (h : List Record) (link : ChainLink) (chain : List ChainLink)
    → last_parted h ≡ Some link → known h ≡ Some chain → is_fresh h ≡ true → checksum_eq link.name entry ≡ true
    → settled_chain entry h ≡ Some (chain ++ link ∷ [])
fresh_tells entry [] link chain last known_is fresh named1 = cc fresh
fresh_tells entry (Parted bill last manifest text ∷ h) link chain is known_is fresh named1 =
    told_on link last entry chain h is named1 known_is
fresh_tells entry (Signed bill document transaction ∷ h) link chain last known_is fresh named1 = cc fresh
fresh_tells entry (Settled bill other ∷ h) link chain last known_is fresh named1 = cc fresh
fresh_tells entry (Taken bill other ∷ h) link chain last known_is fresh named1 = cc fresh
fresh_tells entry (Acted bill transaction ∷ h) link chain last known_is fresh named1 =
    fresh_tells entry h link chain last known_is fresh named1
fresh_tells entry (Attached bill piece bytes ∷ h) link chain last known_is fresh named1 =
    fresh_tells entry h link chain last known_is fresh named1
fresh_tells entry (Regained bill other ∷ h) link chain last known_is fresh named1 =
    fresh_tells entry h link chain last known_is fresh named1
fresh_tells entry (Begun bill came manifest body ∷ h) link chain last known_is fresh named1 =
    fresh_tells entry h link chain last known_is fresh named1
fresh_tells entry (Stored bill other checksum bytes ∷ h) link chain last known_is fresh named1 =
    fresh_tells entry h link chain last known_is fresh named1
fresh_tells entry (Declined bill other code reason evidence ∷ h) link chain last known_is fresh named1 =
    fresh_tells entry h link chain last known_is fresh named1

pub parting_tells : (entry : Checksum) (h : List Record) (link : ChainLink) (chain : List ChainLink)
    → parting h ≡ Some link → known h ≡ Some chain → is_fresh h ≡ true → checksum_eq link.name entry ≡ true
    → settled_chain entry h ≡ Some (chain ++ link ∷ [])
parting_tells entry h link chain parting_is known_is fresh named1 =
    fresh_tells entry h link chain (is_last link h (last_parted h) parting_is) known_is fresh named1

-- ---- what came, by a number

ends_on : (last : Option ChainLink) (entry : Checksum)
    → option_map_or (λ (link : ChainLink). checksum_eq link.name entry) last false ≡ true
    → (link : ChainLink) × (last ≡ Some link) × (link.name ≡ entry)
ends_on None entry ends = cc ends
ends_on (Some link) entry ends = (link, refl, (checksum_eq-Decides link.name entry).0 ends)

-- what the last Begun with the reference of a bill and an entry brought, where it is of these
pub received_by : (bill entry : Checksum) (diary : List Frame) (b : Checksum) (chain : List ChainLink)
    (manifest : Manifest) (body : List ℕ)
    → record_numbered diary (last_number (has (has_reference (reference_of bill entry))) diary)
    ≡ Some (Begun b chain manifest body)
    → b ≡ bill → ends_in entry chain ≡ true
    → last_begun entry (history bill diary) ≡ Some (record { chain = chain; manifest = manifest })
received_by bill entry diary b chain manifest body found same ends =
    let last = ends_on (last_of chain) entry ends in
    let link = last.0 in
    let name_is : link.name ≡ entry = last.2 in
    let is : last_with_reference (reference_of bill link.name) (newest_first diary) ≡ Some (Begun bill chain manifest body)
    = ap (λ (n : Checksum). last_with_reference (reference_of bill n) (newest_first diary)) name_is
    ∙ sym (begun_numbered (reference_of bill entry) diary) ∙ found
    ∙ ap (λ (x : Checksum). Some (Begun x chain manifest body)) same in
    subst (λ (n : Checksum). last_begun n (history bill diary) ≡ Some (record { chain = chain; manifest = manifest }))
    name_is (last_of_both (newest_first diary) bill chain manifest body link last.1 is)
