-- A chain whose links were parted on their platforms continues the place of the bill where it ends.
use Rattle.std.proofs.Common.{◌≡◌, true, false, List, [], ◌∷◌, sym, ap, subst, ◌∙◌, inl, inr}
use Rattle.std.specs.Prelude.{◌⊎◌, Some, map}
use Rattle.ebl_base.specs.Checksum.{checksum_eq}
use Rattle.ebl_base.specs.declared.chain.ChainLink.{ChainLink}
use Rattle.ebl_base.specs.declared.checksum.Checksum.{Checksum}
use Rattle.ebl_base.specs.declared.platform_code.PlatformCode.{PlatformCode}
use Rattle.bill_chain.specs.Chain.{last_of, destination, IsChainOfBill}
use Rattle.bill_diary.specs.declared.record.Record.{Record}
use Rattle.bill_diary.specs.declared.record.Record.TheVariants.{Parted, Begun}
use Rattle.bill_diary.specs.Place.{place_of}
use Rattle.bill_diary.specs.Receiving.{is_taken, is_declined, continues}
use Rattle.closed_family.specs.declared.family.Member.{Member}
use Rattle.closed_family.specs.Chains.{IsAmong, AreAmong}
use Rattle.closed_family.specs.Histories.{links_of, is_parted}
use Rattle.closed_family.specs.Closed.{Histories, AreParted, HasParted, EveryEntryWasParted}
use Rattle.closed_family.specs.Safe.{IsAccepted}
use Rattle.closed_family.specs.Family.{histories_of, HasDistinctNames, IsSoundFamily, IsClosedFamily}
use Rattle.closed_family.proofs.Names.{checksum_eq-of, or_left, or_right}
use Rattle.closed_family.proofs.Chains.{HasLast, from_the_end, last_of-push, empty_prefix}
use Rattle.closed_family.proofs.Linked.{good_is_linked, among_each}
use Rattle.closed_family.proofs.Records.{among_more}
use Rattle.closed_family.proofs.Line.{AreClosed, IsGrounded, grounded_down, front_accepted}
use Rattle.closed_family.proofs.End.{HasTop, has_top, grounded_continues}
use Rattle.closed_family.proofs.Families.{links_in, are_closed, taken_listed}

-- a link that was parted is one of the history's
pub parted_is_ours : (link : ChainLink) (h : List Record) → HasParted link h → IsAmong link (links_of h)
parted_is_ours link [] p = absurd p
parted_is_ours link (Parted bill parted manifest text ∷ h) (inl same) = inl same
parted_is_ours link (Parted bill parted manifest text ∷ h) (inr old) = inr (parted_is_ours link h old)
parted_is_ours link (Begun bill chain manifest body ∷ h) p = among_more link chain (links_of h)
    (parted_is_ours link h p)
parted_is_ours link (r ∷ h) p = parted_is_ours link h p

-- and its entry was parted there
pub parted_by_name : (link : ChainLink) (h : List Record) → HasParted link h → is_parted link.name h ≡ true
parted_by_name link [] p = absurd p
parted_by_name link (Parted bill parted manifest text ∷ h) (inl same) =
    or_left (checksum_eq parted.name link.name) (is_parted link.name h)
    (checksum_eq-of parted.name link.name (ap (λ (l : ChainLink). l.name) same))
parted_by_name link (Parted bill parted manifest text ∷ h) (inr old) =
    or_right (checksum_eq parted.name link.name) (is_parted link.name h) (parted_by_name link h old)
parted_by_name link (r ∷ h) p = parted_by_name link h p

ours : (at : Histories) (links : List ChainLink) → ((p : PlatformCode) → AreAmong (links_of (at p)) links)
    → (chain : List ChainLink) → EveryEntryWasParted at chain → AreAmong chain links
ours at links among [] g = tt
ours at links among (link ∷ chain) g = (
  among_each (links_of (at link.entry.platform)) links link (among link.entry.platform)
      (parted_is_ours link (at link.entry.platform) g.0),
  ours at links among chain g.1,
)

parted : (at : Histories) (chain : List ChainLink) → EveryEntryWasParted at chain → AreParted at chain
parted at [] g = tt
parted at (link ∷ chain) g = (parted_by_name link (at link.entry.platform) g.0, parted at chain g.1)

pub chain_continues : (family : List Member)
    → IsSoundFamily family → IsClosedFamily family → HasDistinctNames family
    → (bill : Checksum) (chain : List ChainLink) (last : ChainLink) (to : PlatformCode)
    → IsChainOfBill bill chain → EveryEntryWasParted (histories_of bill family) chain
    → last_of chain ≡ Some last → destination chain ≡ Some to
    → is_taken last.name (histories_of bill family to) ≡ false
    → is_declined last.name (histories_of bill family to) ≡ false
    → continues (place_of (histories_of bill family to)) chain ≡ true
chain_continues family sound closed distinct bill chain last to good g last_is ends not_taken not_declined =
    on_end (from_the_end chain)
  where
    at : Histories
    at = histories_of bill family

    links : List ChainLink
    links = links_in bill family

    c : AreClosed (links_in bill family) (histories_of bill family)
    c = are_closed family sound distinct bill closed

    not_none : chain ≡ [] → ⊥
    not_none none =
        let two = sym last_is ∙ ap last_of none in
        cc two

    grounded : IsGrounded (links_in bill family) (histories_of bill family) chain
    grounded = record {
      ours = record { linked = good_is_linked bill chain good; among = ours at links c.among chain g };
      parted = parted at chain g;
    }

    top : IsAccepted (histories_of bill family) [] → HasTop (links_in bill family) (histories_of bill family) c
    top (inl (none, (p, signed))) =
        has_top links at c (map (λ (m : Member). m.platform) family) (taken_listed family sound distinct bill) p signed
    top (inr (p, there, among)) = cc there

    on_end : (chain ≡ []) ⊎ HasLast chain → continues (place_of (histories_of bill family to)) chain ≡ true
    on_end (inl none) = absurd (not_none none)
    on_end (inr l) =
        let two = sym last_is ∙ ap last_of l.parts ∙ last_of-push l.front l.last in
        let same : last ≡ l.last = cc two in
        let whole = subst (IsGrounded links at) l.parts grounded in
        let down = grounded_down links at c l.front l.last whole in
        let t = top (front_accepted links at c l.front [] down.accepted (empty_prefix l.front)) in
        let so = grounded_continues links at c t.line t.top l.front l.last to whole
        (ap destination (sym l.parts) ∙ ends)
        (subst (λ (x : ChainLink). is_taken x.name (at to) ≡ false) same not_taken)
        (subst (λ (x : ChainLink). is_declined x.name (at to) ≡ false) same not_declined) in
        subst (λ (x : List ChainLink). continues (place_of (at to)) x ≡ true) (sym l.parts) so
