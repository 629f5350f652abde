-- The chains that were taken: each is linked, of known links, and ends here.
use Rattle.std.proofs.Common.{◌≡◌, Bool, true, false, List, [], ◌∷◌, ◌++◌, refl, ap, subst, inl, inr}
use Rattle.std.specs.Prelude.{Option, Some, option_map, if◌then◌else◌}
use Rattle.std.specs.Option.{option_to_list}
use Rattle.ebl_base.specs.declared.checksum.Checksum.{Checksum}
use Rattle.ebl_base.specs.declared.chain.ChainLink.{ChainLink}
use Rattle.ebl_base.specs.declared.platform_code.PlatformCode.{PlatformCode}
use Rattle.bill_chain.specs.Chain.{ends_in, destination}
use Rattle.bill_diary.specs.declared.record.Record.{Record}
use Rattle.bill_diary.specs.declared.record.Record.TheVariants.{Parted, Begun, Taken}
use Rattle.bill_diary.specs.Known.{Received, last_begun, told}
use Rattle.bill_diary.specs.Place.{taken_chains}
use Rattle.bill_diary.specs.Sound.{IsSoundHistory, MayTake}
use Rattle.closed_family.specs.Chains.{IsAmong, AreAmong}
use Rattle.closed_family.specs.Histories.{links_of}
use Rattle.closed_family.proofs.Linked.{IsLinked, good_is_linked, among_front, among_rest}

-- what came with a Begun of an entry
pub record CameWell (links : List ChainLink) (entry : Checksum) (chain : List ChainLink) : Type 0 where
  pub linked : IsLinked chain
  pub among : AreAmong chain links
  pub ends : ends_in entry chain ≡ true

pub begun_came : (links : List ChainLink) (me : PlatformCode) (entry : Checksum) (h : List Record) (came : Received)
    → IsSoundHistory me h → AreAmong (links_of h) links
    → last_begun entry h ≡ Some came
    → CameWell links entry came.chain
begun_came links me entry [] came sound among h = cc
begun_came links me entry (Begun bill chain manifest body ∷ h) came sound among e =
    by_end (ends_in entry chain) refl e
    (begun_came links me entry h came sound.1 (among_rest chain (links_of h) links among))
  where
    by_end : (b : Bool) → ends_in entry chain ≡ b
        → (if b then Some (record { chain = chain; manifest = manifest }) else last_begun entry h) ≡ Some came
        → (last_begun entry h ≡ Some came → CameWell links entry came.chain)
        → CameWell links entry came.chain
    by_end true ends same further =
        let here : record { chain = chain; manifest = manifest } ≡ came = cc in
        subst (λ (c : Received). CameWell links entry c.chain) here
        (record {
          linked = good_is_linked bill chain sound.0.good;
          among = among_front chain (links_of h) links among;
          ends = ends;
        })
    by_end false ends same further = further same
begun_came links me entry (Parted bill link manifest text ∷ h) came sound among e =
    begun_came links me entry h came sound.1 among.1 e
begun_came links me entry (r ∷ h) came sound among e = begun_came links me entry h came sound.1 among e

-- a chain that was taken here
pub record IsReceived (links : List ChainLink) (me : PlatformCode) (chain : List ChainLink) : Type 0 where
  pub linked : IsLinked chain
  pub among : AreAmong chain links
  pub here : destination chain ≡ Some me

-- the chain of a Taken stands first among the chains taken, and among those told
pub taken_first : (bill entry : Checksum) (h : List Record) (came : Received) → last_begun entry h ≡ Some came
    → taken_chains (Taken bill entry ∷ h) ≡ came.chain ∷ taken_chains h
taken_first bill entry h came begun =
    ap (λ (o : Option Received). option_to_list (option_map (λ (c : Received). c.chain) o) ++ taken_chains h) begun

pub told_first : (bill entry : Checksum) (h : List Record) (came : Received) → last_begun entry h ≡ Some came
    → told (Taken bill entry ∷ h) ≡ came.chain ∷ told h
told_first bill entry h came begun =
    ap (λ (o : Option Received). option_to_list (option_map (λ (c : Received). c.chain) o) ++ told h) begun

-- each chain that was taken
pub received : (links : List ChainLink) (me : PlatformCode) (h : List Record)
    → IsSoundHistory me h → AreAmong (links_of h) links
    → (c : List ChainLink) → IsAmong c (taken_chains h) → IsReceived links me c
received links me [] sound among c h = absurd h
received links me (Taken bill entry ∷ h) sound among c e =
    let may : MayTake me h h entry = sound.0 in
    on_first (subst (IsAmong c) (taken_first bill entry h may.begun may.begun_is) e)
    (received links me h sound.1 among c)
  where
    on_first : IsAmong c (sound.0.begun.chain ∷ taken_chains h)
        → (IsAmong c (taken_chains h) → IsReceived links me c)
        → IsReceived links me c
    on_first (inl same) further =
        let well = begun_came links me entry h sound.0.begun sound.1 among sound.0.begun_is in
        subst (IsReceived links me) same
        (record { linked = well.linked; among = well.among; here = sound.0.receives.destination_is })
    on_first (inr before) further = further before
received links me (Begun bill chain manifest body ∷ h) sound among c e =
    received links me h sound.1 (among_rest chain (links_of h) links among) c e
received links me (Parted bill link manifest text ∷ h) sound among c e = received links me h sound.1 among.1 c e
received links me (r ∷ h) sound among c e = received links me h sound.1 among c e
