-- What corroborates a record in another platform's history.
use Rattle.std.proofs.Common.{◌≡◌, true, List, [], ◌∷◌, ◌++◌, refl, ap, subst, ◌∙◌, inl, inr}
use Rattle.std.specs.Prelude.{◌⊎◌, Option, Some, option_map, option_and_then, IfSome}
use Rattle.ebl_base.specs.Checksum.{checksum_eq}
use Rattle.ebl_base.specs.declared.chain.ChainLink.{ChainLink}
use Rattle.ebl_base.specs.declared.checksum.Checksum.{Checksum}
use Rattle.ebl_base.specs.declared.platform_code.PlatformCode.{PlatformCode}
use Rattle.bill_chain.specs.Chain.{destination}
use Rattle.bill_diary.specs.declared.record.Record.{Record}
use Rattle.bill_diary.specs.declared.record.Record.TheVariants.{Parted, Settled, Regained, Begun, Taken}
use Rattle.bill_diary.specs.Known.{Received, settled_chain}
use Rattle.bill_diary.specs.Place.{taken_chains, is_settled, is_regained}
use Rattle.bill_diary.specs.Receiving.{is_taken, is_declined}
use Rattle.bill_diary.specs.Sound.{MayPart, IsParting, IsSoundHistory}
use Rattle.closed_family.specs.Chains.{IsAmong, AreAmong, NamesDetermineLinks}
use Rattle.closed_family.specs.Histories.{PartedOn, links_of, is_parted}
use Rattle.closed_family.specs.Closed.{Histories, AreParted, destination_of, IsCorroborated}
use Rattle.closed_family.proofs.Names.{checksum_eq-same, or_cases}
use Rattle.closed_family.proofs.Linked.{among_rest}
use Rattle.closed_family.proofs.Standing.{SomeParted, stands_held, stands_parting}
use Rattle.closed_family.proofs.Received.{taken_first}
use Rattle.closed_family.proofs.History.{stands_so}

-- each entry of a taken chain was parted
pub chain_parted : (at : Histories) (me : PlatformCode) (h : List Record)
    → IsSoundHistory me h → IsCorroborated at h
    → (c : List ChainLink) → IsAmong c (taken_chains h) → AreParted at c
chain_parted at me [] sound backed c among = absurd among
chain_parted at me (Taken bill entry ∷ h) sound backed c among =
    on_first (subst (IsAmong c) (taken_first bill entry h sound.0.begun sound.0.begun_is) among)
    (chain_parted at me h sound.1 backed.1 c)
  where
    on_first : IsAmong c (sound.0.begun.chain ∷ taken_chains h)
        → (IsAmong c (taken_chains h) → AreParted at c) → AreParted at c
    on_first (inl same) further =
        subst (AreParted at) same
        (subst (λ (o : Option Received). IfSome (option_map (λ (came : Received). came.chain) o) (AreParted at))
        sound.0.begun_is backed.0)
    on_first (inr old) further = further old
chain_parted at me (Settled bill entry ∷ h) sound backed c among = chain_parted at me h sound.1 backed.1 c among
chain_parted at me (Regained bill entry ∷ h) sound backed c among = chain_parted at me h sound.1 backed.1 c among
chain_parted at me (r ∷ h) sound backed c among = chain_parted at me h sound.1 backed c among

-- an entry of this name parted on a chain, and this is so where it moves to
pub record HasWitness (name : Checksum) (Parts : List ChainLink → ChainLink → Type 0)
    (IsSo : PlatformCode → Type 0) : Type 0 where
  pub before : List ChainLink
  pub entry : ChainLink
  pub named : entry.name ≡ name
  pub parted : Parts before entry
  pub to : PlatformCode
  pub goes : destination (before ++ entry ∷ []) ≡ Some to
  pub there : IsSo to

more_parted : (name : Checksum) (Parts More : List ChainLink → ChainLink → Type 0) (IsSo : PlatformCode → Type 0)
    → ((J : List ChainLink) (e : ChainLink) → Parts J e → More J e)
    → HasWitness name Parts IsSo → HasWitness name More IsSo
more_parted name Parts More IsSo more w = record {
  before = w.before;
  entry = w.entry;
  named = w.named;
  parted = more w.before w.entry w.parted;
  to = w.to;
  goes = w.goes;
  there = w.there;
}

-- what is said of the destination of an entry that is parting
witness_here : (links : List ChainLink) (me : PlatformCode) (h : List Record) (entry : Checksum)
    (IsSo : PlatformCode → Type 0)
    → NamesDetermineLinks links → IsSoundHistory me h → AreAmong (links_of h) links
    → IsParting h entry
    → IfSome (destination_of entry h) IsSo
    → HasWitness entry (λ (J : List ChainLink) (e : ChainLink). PartedOn J e h) IsSo
witness_here links me h entry IsSo named sound among may so =
    let there = stands_parting links me h may.known may.link (stands_so links me named h sound among) may.parting in
    let s = there.1.0 in
    let left = there.0.left may.known s.entry s.parted in
    let names : s.entry.name ≡ entry = ap (λ (x : ChainLink). x.name) there.1.1 ∙ may.names in
    let told : settled_chain entry h ≡ Some (may.known ++ s.entry ∷ [])
    = subst (λ (n : Checksum). settled_chain n h ≡ Some (may.known ++ s.entry ∷ [])) names s.told in
    let goes : destination_of entry h ≡ Some left.to = ap (option_and_then destination) told ∙ left.goes in
    record {
      before = may.known;
      entry = s.entry;
      named = names;
      parted = s.parted;
      to = left.to;
      goes = left.goes;
      there = subst (λ (o : Option PlatformCode). IfSome o IsSo) goes so;
    }

-- a settled entry was taken where it moves to
pub settled_was_taken : (links : List ChainLink) (at : Histories) (me : PlatformCode) (h : List Record)
    → NamesDetermineLinks links → IsSoundHistory me h → AreAmong (links_of h) links → IsCorroborated at h
    → (n : Checksum) → is_settled n h ≡ true
    → HasWitness n (λ (J : List ChainLink) (e : ChainLink). PartedOn J e h)
    (λ (to : PlatformCode). is_taken n (at to) ≡ true)
settled_was_taken links at me [] named sound among backed n s = cc
settled_was_taken links at me (Settled bill entry ∷ h) named sound among backed n s =
    on_first (or_cases (checksum_eq entry n) (is_settled n h) s)
    (settled_was_taken links at me h named sound.1 among backed.1 n)
  where
    Found : Type 0
    Found = HasWitness n (λ (J : List ChainLink) (e : ChainLink). PartedOn J e h)
        (λ (to : PlatformCode). is_taken n (at to) ≡ true)

    on_first : (checksum_eq entry n ≡ true) ⊎ (is_settled n h ≡ true) → (is_settled n h ≡ true → Found) → Found
    on_first (inl here) further =
        subst (λ (x : Checksum). HasWitness x (λ (J : List ChainLink) (e : ChainLink). PartedOn J e h)
        (λ (to : PlatformCode). is_taken x (at to) ≡ true))
        (checksum_eq-same entry n here)
        (witness_here links me h entry
        (λ (to : PlatformCode). is_taken entry (at to) ≡ true) named sound.1 among sound.0 backed.0)
    on_first (inr old) further = further old
settled_was_taken links at me (Parted bill link manifest text ∷ h) named sound among backed n s =
    more_parted n (λ (J : List ChainLink) (e : ChainLink). PartedOn J e h)
    (λ (J : List ChainLink) (e : ChainLink). PartedOn J e (Parted bill link manifest text ∷ h))
    (λ (to : PlatformCode). is_taken n (at to) ≡ true)
    (λ J e p. inr p) (settled_was_taken links at me h named sound.1 among.1 backed n s)
settled_was_taken links at me (Begun bill chain manifest body ∷ h) named sound among backed n s =
    settled_was_taken links at me h named sound.1 (among_rest chain (links_of h) links among) backed n s
settled_was_taken links at me (Taken bill entry ∷ h) named sound among backed n s =
    settled_was_taken links at me h named sound.1 among backed.1 n s
settled_was_taken links at me (Regained bill entry ∷ h) named sound among backed n s =
    settled_was_taken links at me h named sound.1 among backed.1 n s
settled_was_taken links at me (r ∷ h) named sound among backed n s =
    settled_was_taken links at me h named sound.1 among backed n s

-- a regained entry was declined where it moves to
pub regained_was_declined : (links : List ChainLink) (at : Histories) (me : PlatformCode) (h : List Record)
    → NamesDetermineLinks links → IsSoundHistory me h → AreAmong (links_of h) links → IsCorroborated at h
    → (n : Checksum) → is_regained n h ≡ true
    → HasWitness n (λ (J : List ChainLink) (e : ChainLink). PartedOn J e h)
    (λ (to : PlatformCode). is_declined n (at to) ≡ true)
regained_was_declined links at me [] named sound among backed n s = cc
regained_was_declined links at me (Regained bill entry ∷ h) named sound among backed n s =
    on_first (or_cases (checksum_eq entry n) (is_regained n h) s)
    (regained_was_declined links at me h named sound.1 among backed.1 n)
  where
    Found : Type 0
    Found = HasWitness n (λ (J : List ChainLink) (e : ChainLink). PartedOn J e h)
        (λ (to : PlatformCode). is_declined n (at to) ≡ true)

    on_first : (checksum_eq entry n ≡ true) ⊎ (is_regained n h ≡ true) → (is_regained n h ≡ true → Found) → Found
    on_first (inl here) further =
        subst (λ (x : Checksum). HasWitness x (λ (J : List ChainLink) (e : ChainLink). PartedOn J e h)
        (λ (to : PlatformCode). is_declined x (at to) ≡ true))
        (checksum_eq-same entry n here)
        (witness_here links me h entry
        (λ (to : PlatformCode). is_declined entry (at to) ≡ true) named sound.1 among sound.0 backed.0)
    on_first (inr old) further = further old
regained_was_declined links at me (Parted bill link manifest text ∷ h) named sound among backed n s =
    more_parted n (λ (J : List ChainLink) (e : ChainLink). PartedOn J e h)
    (λ (J : List ChainLink) (e : ChainLink). PartedOn J e (Parted bill link manifest text ∷ h))
    (λ (to : PlatformCode). is_declined n (at to) ≡ true)
    (λ J e p. inr p) (regained_was_declined links at me h named sound.1 among.1 backed n s)
regained_was_declined links at me (Begun bill chain manifest body ∷ h) named sound among backed n s =
    regained_was_declined links at me h named sound.1 (among_rest chain (links_of h) links among) backed n s
regained_was_declined links at me (Taken bill entry ∷ h) named sound among backed n s =
    regained_was_declined links at me h named sound.1 among backed.1 n s
regained_was_declined links at me (Settled bill entry ∷ h) named sound among backed n s =
    regained_was_declined links at me h named sound.1 among backed.1 n s
regained_was_declined links at me (r ∷ h) named sound among backed n s =
    regained_was_declined links at me h named sound.1 among backed n s

-- an entry of this name that was parted was so on a known chain
pub parted_on : (links : List ChainLink) (me : PlatformCode) (h : List Record)
    → NamesDetermineLinks links → IsSoundHistory me h → AreAmong (links_of h) links
    → (n : Checksum) → is_parted n h ≡ true
    → SomeParted n (λ (J : List ChainLink) (e : ChainLink). PartedOn J e h)
parted_on links me [] named sound among n p = cc
parted_on links me (Parted bill link manifest text ∷ h) named sound among n p =
    on_first (or_cases (checksum_eq link.name n) (is_parted n h) p) (parted_on links me h named sound.1 among.1 n)
  where
    on_first : (checksum_eq link.name n ≡ true) ⊎ (is_parted n h ≡ true)
        → (is_parted n h ≡ true → SomeParted n (λ (J : List ChainLink) (e : ChainLink). PartedOn J e h))
        → SomeParted n (λ (J : List ChainLink) (e : ChainLink). PartedOn J e (Parted bill link manifest text ∷ h))
    on_first (inl here) further =
        let may : MayPart me h bill link manifest text = sound.0 in
        let there = stands_held links me h may.known may.since (stands_so links me named h sound.1 among.1) may.held in
        record {
          before = may.known;
          entry = link;
          named = checksum_eq-same link.name n here;
          parted = inl (refl, there.0.known_is);
        }
    on_first (inr old) further =
        let s = further old in
        record { before = s.before; entry = s.entry; named = s.named; parted = inr s.parted }
parted_on links me (Begun bill chain manifest body ∷ h) named sound among n p =
    parted_on links me h named sound.1 (among_rest chain (links_of h) links among) n p
parted_on links me (r ∷ h) named sound among n p = parted_on links me h named sound.1 among n p
