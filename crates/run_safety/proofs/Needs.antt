-- What records need stays while histories grow; and where each record has it, histories are corroborated.
use Rattle.std.proofs.Common.{◌≡◌, ◌⊎◌, inl, inr, Bool, true, false, cond, List, [], ◌∷◌, ◌++◌, Option, Some, None, refl, sym, subst}
use Rattle.std.specs.Prelude.{IfSome, option_map}
use Rattle.std.specs.List.{list_any}
use Rattle.std.specs.Option.{option_to_list}
use Rattle.ebl_base.specs.declared.checksum.Checksum.{Checksum}
use Rattle.ebl_base.specs.declared.chain.ChainLink.{ChainLink}
use Rattle.ebl_base.specs.declared.platform_code.PlatformCode.{PlatformCode}
use Rattle.bill_chain.specs.Chain.{ends_in}
use Rattle.bill_diary.specs.declared.record.Record.{Record}
use Rattle.bill_diary.specs.declared.record.Record.TheVariants.{Signed, Acted, Attached, Parted, Settled, Regained, Begun, Stored, Taken, Declined}
use Rattle.bill_diary.specs.Known.{Received, last_begun, taken_chain}
use Rattle.bill_diary.specs.Place.{taken_chains}
use Rattle.bill_diary.specs.Receiving.{takes, declines, is_taken, is_declined}
use Rattle.closed_family.specs.Chains.{IsAmong}
use Rattle.closed_family.specs.Histories.{parts_entry}
use Rattle.closed_family.specs.Closed.{Histories, AreParted, HasParted, EveryEntryWasParted, IsCorroborated, destination_of}
use Rattle.closed_family.proofs.Names.{or_right}
use Rattle.closed_family.proofs.Records.{among_either}
use Rattle.closed_family.proofs.Grounded.{parted_by_name}
use Rattle.run_safety.specs.Steady.{NeedOf, AreMet}

-- ---- growing histories

-- each history goes on
abbrev pub Grow : Histories → Histories → Type 0
Grow at later = (p : PlatformCode) → (more : List Record) × (later p ≡ more ++ at p)

any_more : (test : Record → Bool) (more h : List Record) → list_any test h ≡ true → list_any test (more ++ h) ≡ true
any_more test [] h is = is
any_more test (r ∷ more) h is = or_right (test r) (list_any test (more ++ h)) (any_more test more h is)

any_later : (test : Record → Bool) (at later : Histories) → Grow at later → (p : PlatformCode)
    → list_any test (at p) ≡ true → list_any test (later p) ≡ true
any_later test at later grow p is =
    subst (λ (h : List Record). list_any test h ≡ true) (sym (grow p).1) (any_more test (grow p).0 (at p) is)

pub has_parted_more : (link : ChainLink) (more h : List Record) → HasParted link h → HasParted link (more ++ h)
has_parted_more link [] h has = has
has_parted_more link (Parted bill parted manifest text ∷ more) h has = inr (has_parted_more link more h has)
has_parted_more link (r ∷ more) h has = has_parted_more link more h has

pub every_parted_later : (at later : Histories) → Grow at later → (chain : List ChainLink)
    → EveryEntryWasParted at chain → EveryEntryWasParted later chain
every_parted_later at later grow [] g = tt
every_parted_later at later grow (link ∷ chain) g = (
  subst (HasParted link) (sym (grow link.entry.platform).1)
      (has_parted_more link (grow link.entry.platform).0 (at link.entry.platform) g.0),
  every_parted_later at later grow chain g.1,
)

if_some-each : {X : Type 0} (P Q : X → Type 0) (o : Option X) → ((x : X) → P x → Q x) → IfSome o P → IfSome o Q
if_some-each P Q None each p = tt
if_some-each P Q (Some x) each p = each x p

pub need_later : (at later : Histories) → Grow at later → (h : List Record) (r : Record)
    → NeedOf at h r → NeedOf later h r
need_later at later grow h (Begun bill chain manifest body) need = every_parted_later at later grow chain need
need_later at later grow h (Settled bill entry) need =
    if_some-each (λ (to : PlatformCode). is_taken entry (at to) ≡ true)
    (λ (to : PlatformCode). is_taken entry (later to) ≡ true) (destination_of entry h)
    (λ to is. any_later (takes entry) at later grow to is) need
need_later at later grow h (Regained bill entry) need =
    if_some-each (λ (to : PlatformCode). is_declined entry (at to) ≡ true)
    (λ (to : PlatformCode). is_declined entry (later to) ≡ true) (destination_of entry h)
    (λ to is. any_later (declines entry) at later grow to is) need
need_later at later grow h (Declined bill entry code reason evidence) need =
    (need.0, (need.1.0, any_later (parts_entry entry) at later grow need.1.0 need.1.1))
need_later at later grow h (Signed bill document t) need = tt
need_later at later grow h (Acted bill t) need = tt
need_later at later grow h (Attached bill piece bytes) need = tt
need_later at later grow h (Parted bill link manifest text) need = tt
need_later at later grow h (Stored bill entry checksum bytes) need = tt
need_later at later grow h (Taken bill entry) need = tt

pub met_later : (at later : Histories) → Grow at later → (h : List Record) → AreMet at h → AreMet later h
met_later at later grow [] met = tt
met_later at later grow (r ∷ h) met = (need_later at later grow h r met.0, met_later at later grow h met.1)

-- ---- what is met

pub every_is_parted : (at : Histories) (chain : List ChainLink) → EveryEntryWasParted at chain → AreParted at chain
every_is_parted at [] g = tt
every_is_parted at (link ∷ chain) g =
    (parted_by_name link (at link.entry.platform) g.0, every_is_parted at chain g.1)

-- each entry of the chain that came with the last Begun of an entry was parted
begun_parted : (at : Histories) (entry : Checksum) (h : List Record) (came : Received)
    → AreMet at h → last_begun entry h ≡ Some came → EveryEntryWasParted at came.chain
begun_parted at entry [] came met e = cc e
begun_parted at entry (Begun bill chain manifest body ∷ h) came met e =
    by_end (ends_in entry chain) e (begun_parted at entry h came met.1)
  where
    by_end : (b : Bool)
        → cond b (Some (record { chain = chain; manifest = manifest })) (last_begun entry h) ≡ Some came
        → (last_begun entry h ≡ Some came → EveryEntryWasParted at came.chain)
        → EveryEntryWasParted at came.chain
    by_end true same further =
        let here : record { chain = chain; manifest = manifest } ≡ came = cc same in
        subst (λ (c : Received). EveryEntryWasParted at c.chain) here met.0
    by_end false same further = further same
begun_parted at entry (r ∷ h) came met e = begun_parted at entry h came met.1 e

of_last_begun : (at : Histories) (entry : Checksum) (h : List Record) → AreMet at h
    → IfSome (taken_chain entry h) (EveryEntryWasParted at)
of_last_begun at entry h met = on (last_begun entry h) refl
  where
    on : (o : Option Received) → last_begun entry h ≡ o
        → IfSome (option_map (λ (c : Received). c.chain) o) (EveryEntryWasParted at)
    on None is = tt
    on (Some came) is = begun_parted at entry h came met is

pub met_corroborated : (at : Histories) (h : List Record) → AreMet at h → IsCorroborated at h
met_corroborated at [] met = tt
met_corroborated at (Taken bill entry ∷ h) met = (
  if_some-each (EveryEntryWasParted at) (AreParted at) (taken_chain entry h) (every_is_parted at)
      (of_last_begun at entry h met.1),
  met_corroborated at h met.1,
)
met_corroborated at (Settled bill entry ∷ h) met = (met.0, met_corroborated at h met.1)
met_corroborated at (Regained bill entry ∷ h) met = (met.0, met_corroborated at h met.1)
met_corroborated at (r ∷ h) met = met_corroborated at h met.1

-- each entry of a chain that was taken was parted
pub taken_parted : (at : Histories) (h : List Record) → AreMet at h
    → (c : List ChainLink) → IsAmong c (taken_chains h) → EveryEntryWasParted at c
taken_parted at [] met c among = absurd among
taken_parted at (Taken bill entry ∷ h) met c among =
    on_place (among_either c (option_to_list (taken_chain entry h)) (taken_chains h) among)
    (taken_parted at h met.1 c)
  where
    on_chain : (o : Option (List ChainLink)) → IfSome o (EveryEntryWasParted at) → IsAmong c (option_to_list o)
        → EveryEntryWasParted at c
    on_chain None g among = absurd among
    on_chain (Some d) g (inl same) = subst (EveryEntryWasParted at) same g
    on_chain (Some d) g (inr no_more) = absurd no_more

    on_place : IsAmong c (option_to_list (taken_chain entry h)) ⊎ IsAmong c (taken_chains h)
        → (IsAmong c (taken_chains h) → EveryEntryWasParted at c) → EveryEntryWasParted at c
    on_place (inl here) further = on_chain (taken_chain entry h) (of_last_begun at entry h met.1) here
    on_place (inr old) further = further old
taken_parted at (r ∷ h) met c among = taken_parted at h met.1 c among

-- a record of a history had what it needs, by some records before it
pub met_among : (at : Histories) (h : List Record) (r : Record) → AreMet at h → IsAmong r h
    → (before : List Record) × NeedOf at before r
met_among at [] r met among = absurd among
met_among at (x ∷ h) r met (inl same) = (h, subst (NeedOf at h) same met.0)
met_among at (x ∷ h) r met (inr old) = met_among at h r met.1 old
