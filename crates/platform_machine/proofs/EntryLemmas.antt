-- The chains that a sound history tells have at most 64 entries.
use Rattle.std.proofs.Common.{◌≡◌, ◌≤◌, ◌<◌, Bool, true, false, cond, List, [], ◌∷◌, ◌++◌, Option, Some, None, length, refl, sym, subst, arith}
use Rattle.std.specs.Prelude.{nat_lt, option_map}
use Rattle.std.specs.Option.{option_to_list}
use Rattle.std.proofs.lemmas.List.{length-append}
use Rattle.ebl_base.specs.Checksum.{checksum_eq}
use Rattle.ebl_base.specs.declared.checksum.Checksum.{Checksum}
use Rattle.ebl_base.specs.declared.chain.ChainLink.{ChainLink}
use Rattle.ebl_base.specs.declared.platform_code.PlatformCode.{PlatformCode}
use Rattle.bill_chain.specs.Chain.{ends_in}
use Rattle.bill_diary.specs.declared.record.Record.{Record}
use Rattle.bill_diary.specs.declared.record.Record.TheVariants.{Signed, Acted, Attached, Parted, Settled, Regained, Begun, Stored, Taken, Declined}
use Rattle.bill_diary.specs.declared.bill_place.BillPlace.TheVariants.{Held, Gone}
use Rattle.bill_diary.specs.declared.frame.Frame.{Frame}
use Rattle.bill_diary.specs.declared.frame.Frame.TheVariants.{One}
use Rattle.bill_diary.specs.History.{bill_of, history, of_bill}
use Rattle.bill_diary.specs.Known.{Received, known, told, longer, longest, last_begun, taken_chain, settled_chain}
use Rattle.bill_diary.specs.Place.{parting, is_left, since, place_with, place_of}
use Rattle.bill_diary.specs.Sound.{IsSound, IsSoundHistory}
use Rattle.bill_diary.proofs.HistoryLemmas.{history_of_sound, one_frame}
use Rattle.bill_diary.proofs.PlaceLemmas.{stands, WhereHeld}
use Rattle.platform_machine.specs.Step.{entries_at}

abbrev IsShort : List ChainLink → Type 0
IsShort chain = length chain ≤ 64

abbrev IfShort : Option (List ChainLink) → Type 0
IfShort None = Unit {0}
IfShort (Some chain) = IsShort chain

abbrev AreShort : List (List ChainLink) → Type 0
AreShort [] = Unit {0}
AreShort (chain ∷ chains) = IsShort chain × AreShort chains

-- ---- lists of chains

short_front : (o : Option (List ChainLink)) (chains : List (List ChainLink)) → IfShort o → AreShort chains
    → AreShort (option_to_list o ++ chains)
short_front None chains first rest = rest
short_front (Some chain) chains first rest = (first, rest)

longer_short : (chain : List ChainLink) (o : Option (List ChainLink)) → IsShort chain → IfShort o
    → IsShort (longer chain o)
longer_short chain None is other = is
longer_short chain (Some more) is other = on_test (nat_lt (length chain) (length more))
  where
    on_test : (b : Bool) → IsShort (cond b more chain)
    on_test true = other
    on_test false = is

longest_short : (chains : List (List ChainLink)) → AreShort chains → IfShort (longest chains)
longest_short [] are = tt
longest_short (chain ∷ chains) are = longer_short chain (longest chains) are.0 (longest_short chains are.1)

-- ---- histories

begun_short : (me : PlatformCode) (h : List Record) → IsSoundHistory me h → (entry : Checksum)
    → IfShort (taken_chain entry h)
begun_short me [] sound entry = tt
begun_short me (Begun b c m t ∷ h) sound entry = on_test (ends_in entry c) (begun_short me h sound.1 entry)
  where
    on_test : (b : Bool) → IfShort (taken_chain entry h)
        → IfShort (option_map (λ (came : Received). came.chain)
        (cond b (Some (record { chain = c; manifest = m })) (last_begun entry h)))
    on_test true rest = sound.0.room
    on_test false rest = rest
begun_short me (r ∷ h) sound entry = begun_short me h sound.1 entry

-- the known chain, followed by the entry of a Parted
parted_short : (me : PlatformCode) (b : Checksum) (link : ChainLink) (h : List Record)
    → (held : (chain : List ChainLink) × (known h ≡ Some chain) × (length chain < 64))
    → (o : Option (List ChainLink)) → known h ≡ o
    → IfShort (option_map (λ (k : List ChainLink). k ++ link ∷ []) o)
parted_short me b link h held None is = tt
parted_short me b link h held (Some chain) is =
    let same : Some held.0 ≡ Some chain = cc in
    let one : held.0 ≡ chain = cc in
    let few : length chain < 64 = subst (λ (c : List ChainLink). length c < 64) one held.2 in
    omega (arith, few, length-append chain (link ∷ []))

-- the chains that are told, and those that a Settled tells
told_short : (me : PlatformCode) (h : List Record) → IsSoundHistory me h
    → AreShort (told h) × ((entry : Checksum) → IfShort (settled_chain entry h))
told_short me [] sound = (tt, λ entry. tt)
told_short me (Signed b x t ∷ h) sound = let rest = told_short me h sound.1 in ((omega arith, rest.0), rest.1)
told_short me (Taken b e ∷ h) sound =
    let rest = told_short me h sound.1 in
    (short_front (taken_chain e h) (told h) (begun_short me h sound.1 e) rest.0, rest.1)
told_short me (Settled b e ∷ h) sound =
    let rest = told_short me h sound.1 in (short_front (settled_chain e h) (told h) (rest.1 e) rest.0, rest.1)
told_short me (Parted b link m t ∷ h) sound = on_rest (told_short me h sound.1)
  where
    held : WhereHeld h sound.0.known sound.0.since
    held = stands h (Held sound.0.known sound.0.since) sound.0.held

    on_rest : AreShort (told h) × ((entry : Checksum) → IfShort (settled_chain entry h))
        → AreShort (told h) × ((entry : Checksum) → IfShort (settled_chain entry (Parted b link m t ∷ h)))
    on_rest rest = (rest.0, λ entry. on_test entry (checksum_eq link.name entry))
      where
        on_test : (entry : Checksum) (b : Bool)
            → IfShort (cond b (option_map (λ (k : List ChainLink). k ++ link ∷ []) (known h)) (settled_chain entry h))
        on_test entry true =
            parted_short me b link h (sound.0.known, held.known_is, sound.0.room) (known h) refl
        on_test entry false = rest.1 entry
told_short me (Acted b t ∷ h) sound = told_short me h sound.1
told_short me (Attached b q t ∷ h) sound = told_short me h sound.1
told_short me (Regained b e ∷ h) sound = told_short me h sound.1
told_short me (Begun b x m t ∷ h) sound = told_short me h sound.1
told_short me (Stored b e x t ∷ h) sound = told_short me h sound.1
told_short me (Declined b e x q v ∷ h) sound = told_short me h sound.1

-- a record more tells no longer chain, whatever it is
more_short : (me : PlatformCode) (r : Record) (h : List Record) → IsSoundHistory me h → AreShort (told (r ∷ h))
more_short me (Signed b x t) h sound = (omega arith, (told_short me h sound).0)
more_short me (Taken b e) h sound =
    short_front (taken_chain e h) (told h) (begun_short me h sound e) (told_short me h sound).0
more_short me (Settled b e) h sound =
    let rest = told_short me h sound in short_front (settled_chain e h) (told h) (rest.1 e) rest.0
more_short me (Parted b l m t) h sound = (told_short me h sound).0
more_short me (Acted b t) h sound = (told_short me h sound).0
more_short me (Attached b q t) h sound = (told_short me h sound).0
more_short me (Regained b e) h sound = (told_short me h sound).0
more_short me (Begun b x m t) h sound = (told_short me h sound).0
more_short me (Stored b e x t) h sound = (told_short me h sound).0
more_short me (Declined b e x q v) h sound = (told_short me h sound).0

-- ---- places

place_short : (h : List Record) (k : Option (List ChainLink)) (p : Option ChainLink) → IfShort k
    → entries_at (place_with k p h) ≤ 64
place_short h None p is = omega arith
place_short h (Some chain) (Some link) is = is
place_short h (Some chain) None is = on_test (is_left chain h)
  where
    on_test : (b : Bool) → entries_at (cond b (Gone chain) (Held chain (since h))) ≤ 64
    on_test true = is
    on_test false = is

pub few_entries : (me : PlatformCode) (h : List Record) → IsSoundHistory me h → entries_at (place_of h) ≤ 64
few_entries me h sound = place_short h (known h) (parting h) (longest_short (told h) (told_short me h sound).0)

pub few_entries_with : (me : PlatformCode) (r : Record) (h : List Record) → IsSoundHistory me h
    → entries_at (place_of (r ∷ h)) ≤ 64
few_entries_with me r h sound =
    place_short (r ∷ h) (known (r ∷ h)) (parting (r ∷ h)) (longest_short (told (r ∷ h)) (more_short me r h sound))

-- of a diary, and of one with a record more
pub few_in : (me : PlatformCode) (diary : List Frame) (bill : Checksum) → IsSound me diary
    → entries_at (place_of (history bill diary)) ≤ 64
few_in me diary bill sound = few_entries me (history bill diary) (history_of_sound me diary bill sound)

pub few_with : (me : PlatformCode) (diary : List Frame) (bill : Checksum) (r : Record) → IsSound me diary
    → entries_at (place_of (history bill (diary ++ One r ∷ []))) ≤ 64
few_with me diary bill r sound =
    subst (λ (records : List Record). entries_at (place_of (of_bill bill records)) ≤ 64) (sym (one_frame diary (One r)))
    (on_test (checksum_eq (bill_of r) bill))
  where
    on_test : (b : Bool)
        → entries_at (place_of (cond b (r ∷ history bill diary) (history bill diary))) ≤ 64
    on_test true = few_entries_with me r (history bill diary) (history_of_sound me diary bill sound)
    on_test false = few_in me diary bill sound
