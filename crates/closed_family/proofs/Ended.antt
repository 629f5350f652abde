-- After an accepted surrender: the end of the bill's line stays the carrier's platform, and nobody may act.
use Rattle.std.proofs.Common.{◌≡◌, true, false, List, ◌++◌, sym, ap, subst, ◌∙◌}
use Rattle.std.specs.Prelude.{not}
use Rattle.ebl_base.specs.declared.transaction.Transaction.{Transaction}
use Rattle.ebl_base.specs.declared.chain.ChainLink.{ChainLink}
use Rattle.ebl_base.specs.declared.checksum.Checksum.{Checksum}
use Rattle.ebl_base.specs.declared.party.Party.{Party}
use Rattle.ebl_base.specs.declared.platform_code.PlatformCode.{PlatformCode}
use Rattle.title_fold.specs.declared.title.Title.{Title}
use Rattle.title_fold.specs.declared.title.Title.TheVariants.{Ended}
use Rattle.title_fold.specs.Title.{possessor}
use Rattle.title_fold.specs.Fold.{Folded}
use Rattle.bill_chain.specs.Chain.{transactions_of}
use Rattle.bill_diary.specs.declared.record.Record.{Record}
use Rattle.bill_diary.specs.declared.bill_place.BillPlace.TheVariants.{Held}
use Rattle.bill_diary.specs.Place.{place_of, may_act_at, may_act_by, is_ended, since}
use Rattle.bill_diary.specs.Sound.{IsSoundHistory}
use Rattle.closed_family.specs.declared.family.Member.{Member}
use Rattle.closed_family.specs.Chains.{AreAmong}
use Rattle.closed_family.specs.Histories.{links_of}
use Rattle.closed_family.specs.Closed.{Histories}
use Rattle.closed_family.specs.Safe.{IsSafe, IsHeld}
use Rattle.closed_family.specs.Family.{histories_of, IsSignedIn, HasDistinctNames, IsSoundFamily, IsClosedFamily}
use Rattle.closed_family.specs.Later.{GoesOnTo, IsLaterThan, IsEndedAt}
use Rattle.closed_family.proofs.Names.{false_unless, not_both}
use Rattle.closed_family.proofs.Standing.{IsOn, StandsBy, StandsHeld, stands_held}
use Rattle.closed_family.proofs.Line.{AreClosed, stands_at}
use Rattle.closed_family.proofs.Growth.{ended_on}
use Rattle.closed_family.proofs.Families.{links_in, are_closed, is_safe}

-- a bill that is ended somewhere stays so in every later family
pub ended_later : (before after : List Member)
    → IsSoundFamily after → IsClosedFamily after → HasDistinctNames after
    → IsLaterThan before after
    → (bill : Checksum) (p : PlatformCode) (carrier : Party)
    → IsEndedAt (place_of (histories_of bill before p)) carrier
    → IsEndedAt (place_of (histories_of bill after p)) carrier
ended_later before after sound closed distinct later bill p carrier ended =
    record {
      known = ended.known;
      since = ended.since;
      held = ap place_of on.history_is ∙ held;
      kind = ended.kind;
      title = ended.title;
    }
  where
    links : List ChainLink
    links = links_in bill after

    c : AreClosed (links_in bill after) (histories_of bill after)
    c = are_closed after sound distinct bill closed

    on : GoesOnTo before after bill p
    on = later bill p

    held : place_of (on.more ++ histories_of bill before p) ≡ Held ended.known ended.since
    held = ended_on links p on.more (histories_of bill before p) c.named
        (subst (IsSoundHistory p) on.history_is (c.sound p))
        (subst (λ (h : List Record). AreAmong (links_of h) links) on.history_is (c.among p))
        ended.known ended.since ended.held (ap is_ended ended.title)

-- where a bill is ended, its carrier is, that is the end of its line, and nobody may act
pub ended_end : (family : List Member)
    → IsSoundFamily family → IsClosedFamily family → HasDistinctNames family
    → (bill : Checksum) → IsSignedIn family bill
    → (p : PlatformCode) (carrier : Party)
    → IsEndedAt (place_of (histories_of bill family p)) carrier
    → (carrier.platform ≡ p) × ((q : PlatformCode) → may_act_by (histories_of bill family q) ≡ false)
ended_end family sound closed distinct bill signed p carrier ended = (on_carrier, nobody)
  where
    at : Histories
    at = histories_of bill family

    c : AreClosed (links_in bill family) (histories_of bill family)
    c = are_closed family sound distinct bill closed

    safe : IsSafe (histories_of bill family)
    safe = is_safe family sound distinct bill closed signed

    there : StandsBy (links_in bill family) p (histories_of bill family p) ended.known
        × StandsHeld p (histories_of bill family p) ended.known × (since (histories_of bill family p) ≡ ended.since)
    there = stands_held (links_in bill family) p (histories_of bill family p) ended.known ended.since
        (stands_at (links_in bill family) (histories_of bill family) c p) ended.held

    on_carrier : carrier.platform ≡ p
    on_carrier =
        let on : IsOn p (transactions_of ended.known ++ ended.since)
        = subst (λ (made : List Transaction). IsOn p (transactions_of ended.known ++ made)) there.2 there.1.titled in
        let two = sym ended.title ∙ on.folds in
        let same : Ended ended.kind carrier ≡ on.title = cc two in
        ap (λ (t : Title). (possessor t).platform) same ∙ on.on

    here : p ≡ safe.end
    here = safe.held_there_alone p (subst IsHeld (sym ended.held) tt)

    not_here : may_act_by (histories_of bill family p) ≡ false
    not_here =
        ap may_act_at ended.held
        ∙ ap (λ (folded : Folded). not (is_ended folded)) ended.title

    nobody : (q : PlatformCode) → may_act_by (histories_of bill family q) ≡ false
    nobody q = false_unless (may_act_by (histories_of bill family q)) acts
      where
        acts : may_act_by (histories_of bill family q) ≡ true → ⊥
        acts yes_it_does =
            let same : p ≡ q = here ∙ sym (safe.acts_there_alone q yes_it_does) in
            not_both yes_it_does
            (subst (λ (x : PlatformCode). may_act_by (histories_of bill family x) ≡ false) same not_here)
