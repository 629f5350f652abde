-- The links of each chain that a sound history tells are their texts.
use Rattle.std.proofs.Common.{◌≡◌, Bool, true, false, cond, List, [], ◌∷◌, ◌++◌, Option, Some, None, subst, length}
use Rattle.std.specs.Prelude.{nat_lt, option_map, option_and_then}
use Rattle.std.specs.Option.{option_to_list}
use Rattle.ebl_base.specs.Checksum.{checksum_eq}
use Rattle.ebl_base.specs.declared.checksum.Checksum.{Checksum}
use Rattle.ebl_base.specs.declared.chain.ChainLink.{ChainLink}
use Rattle.ebl_base.specs.declared.platform_code.PlatformCode.{PlatformCode}
use Rattle.bill_chain.specs.Chain.{ends_in}
use Rattle.bill_diary.specs.declared.record.Record.{Record}
use Rattle.bill_diary.specs.declared.record.Record.TheVariants.{Signed, Acted, Attached, Parted, Settled, Regained, Begun, Stored, Taken, Declined}
use Rattle.bill_diary.specs.declared.bill_place.BillPlace.TheVariants.{Held, Gone}
use Rattle.bill_diary.specs.Known.{Received, known, told, longer, longest, last_begun, taken_chain, settled_chain}
use Rattle.bill_diary.specs.Place.{parting, last_parted, is_over, is_left, since, place_with, place_of, chain_at}
use Rattle.bill_diary.specs.Receiving.{Declination, last_declined}
use Rattle.bill_diary.specs.Sound.{AreSound, IsSoundHistory}
use Rattle.bill_diary.specs.Texts.{LinkIsItsText, LinksAreTheirTexts, AreCompact}

-- ---- lists of chains

abbrev pub Each : List (List ChainLink) → Type 0
Each [] = Unit {0}
Each (chain ∷ chains) = LinksAreTheirTexts chain × Each chains

abbrev pub IfTexts : Option (List ChainLink) → Type 0
IfTexts None = Unit {0}
IfTexts (Some chain) = LinksAreTheirTexts chain

abbrev pub IfLink : Option ChainLink → Type 0
IfLink None = Unit {0}
IfLink (Some link) = LinkIsItsText link

links_push : (chain : List ChainLink) (link : ChainLink) → LinksAreTheirTexts chain → LinkIsItsText link
    → LinksAreTheirTexts (chain ++ link ∷ [])
links_push [] link are is = (is, tt)
links_push (x ∷ chain) link are is = (are.0, links_push chain link are.1 is)

pushed : (o : Option (List ChainLink)) (link : ChainLink) → IfTexts o → LinkIsItsText link
    → IfTexts (option_map (λ (known : List ChainLink). known ++ link ∷ []) o)
pushed None link are is = tt
pushed (Some chain) link are is = links_push chain link are is

each_front : (o : Option (List ChainLink)) (chains : List (List ChainLink)) → IfTexts o → Each chains
    → Each (option_to_list o ++ chains)
each_front None chains first rest = rest
each_front (Some chain) chains first rest = (first, rest)

longer_is : (chain : List ChainLink) (o : Option (List ChainLink)) → LinksAreTheirTexts chain → IfTexts o
    → LinksAreTheirTexts (longer chain o)
longer_is chain None are other = are
longer_is chain (Some more) are other = on_test (nat_lt (length chain) (length more))
  where
    on_test : (b : Bool) → LinksAreTheirTexts (cond b more chain)
    on_test true = other
    on_test false = are

longest_is : (chains : List (List ChainLink)) → Each chains → IfTexts (longest chains)
longest_is [] each = tt
longest_is (chain ∷ chains) each = longer_is chain (longest chains) each.0 (longest_is chains each.1)

-- ---- histories

begun_is : (me : PlatformCode) (h : List Record) → IsSoundHistory me h → (entry : Checksum) → IfTexts (taken_chain entry h)
begun_is me [] sound entry = tt
begun_is me (Begun b c m t ∷ h) sound entry = on_test (ends_in entry c) (begun_is me h sound.1 entry)
  where
    on_test : (b : Bool) → IfTexts (taken_chain entry h)
        → IfTexts (option_map (λ (came : Received). came.chain) (cond b (Some (record { chain = c; manifest = m })) (last_begun entry h)))
    on_test true rest = sound.0.links_are
    on_test false rest = rest
begun_is me (r ∷ h) sound entry = begun_is me h sound.1 entry

-- the chains that are told, and those of a Settled
told_are : (me : PlatformCode) (h : List Record) → IsSoundHistory me h
    → Each (told h) × ((entry : Checksum) → IfTexts (settled_chain entry h))
told_are me [] sound = (tt, λ entry. tt)
told_are me (Signed b x t ∷ h) sound = let rest = told_are me h sound.1 in ((tt, rest.0), rest.1)
told_are me (Taken b e ∷ h) sound =
    let rest = told_are me h sound.1 in
    (each_front (taken_chain e h) (told h) (begun_is me h sound.1 e) rest.0, rest.1)
told_are me (Settled b e ∷ h) sound =
    let rest = told_are me h sound.1 in (each_front (settled_chain e h) (told h) (rest.1 e) rest.0, rest.1)
told_are me (Parted b link m t ∷ h) sound = on_rest (told_are me h sound.1)
  where
    on_rest : Each (told h) × ((entry : Checksum) → IfTexts (settled_chain entry h))
        → Each (told h) × ((entry : Checksum) → IfTexts (settled_chain entry (Parted b link m t ∷ h)))
    on_rest rest = (rest.0, λ entry. on_test entry (checksum_eq link.name entry))
      where
        on_test : (entry : Checksum) (b : Bool) → IfTexts (cond b (option_map (λ (k : List ChainLink). k ++ link ∷ []) (known h)) (settled_chain entry h))
        on_test entry true = pushed (known h) link (longest_is (told h) rest.0) sound.0.link_is
        on_test entry false = rest.1 entry
told_are me (Acted b t ∷ h) sound = told_are me h sound.1
told_are me (Attached b q t ∷ h) sound = told_are me h sound.1
told_are me (Regained b e ∷ h) sound = told_are me h sound.1
told_are me (Begun b x m t ∷ h) sound = told_are me h sound.1
told_are me (Stored b e x t ∷ h) sound = told_are me h sound.1
told_are me (Declined b e x q v ∷ h) sound = told_are me h sound.1

parted_is : (me : PlatformCode) (h : List Record) → IsSoundHistory me h → IfLink (last_parted h)
parted_is me [] sound = tt
parted_is me (Parted b link m t ∷ h) sound = sound.0.link_is
parted_is me (r ∷ h) sound = parted_is me h sound.1

parting_is : (h : List Record) (o : Option ChainLink) → IfLink o
    → IfLink (option_and_then (λ (link : ChainLink). cond (is_over link.name h) None (Some link)) o)
parting_is h None is = tt
parting_is h (Some link) is = on_test (is_over link.name h)
  where
    on_test : (b : Bool) → IfLink (cond b None (Some link))
    on_test true = tt
    on_test false = is

place_with_texts : (h : List Record) (k : Option (List ChainLink)) (p : Option ChainLink) → IfTexts k → IfLink p
    → LinksAreTheirTexts (chain_at (place_with k p h))
place_with_texts h None p known_is is = tt
place_with_texts h (Some chain) (Some link) known_is is = links_push chain link known_is is
place_with_texts h (Some chain) None known_is is = on_test (is_left chain h)
  where
    on_test : (b : Bool) → LinksAreTheirTexts (chain_at (cond b (Gone chain) (Held chain (since h))))
    on_test true = known_is
    on_test false = known_is

-- the chain that is known at the place of a bill, with the entry that is parting
pub chain_at_texts : (me : PlatformCode) (h : List Record) → IsSoundHistory me h
    → LinksAreTheirTexts (chain_at (place_of h))
chain_at_texts me h sound =
    place_with_texts h (known h) (parting h) (longest_is (told h) (told_are me h sound).0)
    (parting_is h (last_parted h) (parted_is me h sound))

-- ---- what was declined

-- the evidence of what was declined is compact
pub declined_is_compact : (me : PlatformCode) (entry : Checksum) (records : List Record) → AreSound me records
    → (declined : Declination) → last_declined entry records ≡ Some declined → AreCompact declined.evidence
declined_is_compact me entry [] sound declined is = cc is
declined_is_compact me entry (Declined b e c r v ∷ records) sound declined is =
    on_test (checksum_eq e entry) is (declined_is_compact me entry records sound.2 declined)
  where
    on_test : (here : Bool)
        → cond here (Some (record { code = c; reason = r; evidence = v })) (last_declined entry records) ≡ Some declined
        → (last_declined entry records ≡ Some declined → AreCompact declined.evidence) → AreCompact declined.evidence
    on_test true same further =
        let one : record { code = c; reason = r; evidence = v } ≡ declined = cc in
        subst (λ (d : Declination). AreCompact d.evidence) one sound.0.evidence_is
    on_test false same further = further same
declined_is_compact me entry (Signed b x t ∷ records) sound declined is =
    declined_is_compact me entry records sound.2 declined is
declined_is_compact me entry (Acted b t ∷ records) sound declined is =
    declined_is_compact me entry records sound.2 declined is
declined_is_compact me entry (Attached b q t ∷ records) sound declined is =
    declined_is_compact me entry records sound.2 declined is
declined_is_compact me entry (Parted b l m t ∷ records) sound declined is =
    declined_is_compact me entry records sound.2 declined is
declined_is_compact me entry (Settled b e ∷ records) sound declined is =
    declined_is_compact me entry records sound.2 declined is
declined_is_compact me entry (Regained b e ∷ records) sound declined is =
    declined_is_compact me entry records sound.2 declined is
declined_is_compact me entry (Begun b c m t ∷ records) sound declined is =
    declined_is_compact me entry records sound.2 declined is
declined_is_compact me entry (Stored b e c t ∷ records) sound declined is =
    declined_is_compact me entry records sound.2 declined is
declined_is_compact me entry (Taken b e ∷ records) sound declined is =
    declined_is_compact me entry records sound.2 declined is
