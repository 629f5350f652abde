-- A bill that is held on a platform, as an ended one is, was signed.
use Rattle.std.proofs.Common.{◌≡◌, inl, inr, List, []}
use Rattle.ebl_base.specs.declared.chain.ChainLink.{ChainLink}
use Rattle.ebl_base.specs.declared.checksum.Checksum.{Checksum}
use Rattle.ebl_base.specs.declared.platform_code.PlatformCode.{PlatformCode}
use Rattle.ebl_base.specs.declared.transaction.Transaction.{Transaction}
use Rattle.bill_diary.specs.declared.bill_place.BillPlace.TheVariants.{Held}
use Rattle.bill_diary.specs.Place.{place_of}
use Rattle.closed_family.specs.declared.family.Member.{Member}
use Rattle.closed_family.specs.Family.{HasDistinctNames, IsClosedFamily, IsSignedIn, IsSoundFamily, histories_of}
use Rattle.closed_family.specs.Safe.{IsAccepted}
use Rattle.closed_family.proofs.Chains.{empty_prefix}
use Rattle.closed_family.proofs.Families.{are_closed, links_in}
use Rattle.closed_family.proofs.Line.{AreClosed, front_accepted, known_accepted, stands_at}
use Rattle.closed_family.proofs.Standing.{stands_held}

pub held_signed : (family : List Member) → IsSoundFamily family → IsClosedFamily family → HasDistinctNames family
    → (bill : Checksum) (p : PlatformCode) (known : List ChainLink) (since : List Transaction)
    → place_of (histories_of bill family p) ≡ Held known since → IsSignedIn family bill
held_signed family sound closed distinct bill p known since held =
    on_empty
    (front_accepted (links_in bill family) (histories_of bill family) c known []
    (known_accepted (links_in bill family) (histories_of bill family) c p known
    (stands_held (links_in bill family) p (histories_of bill family p) known since
    (stands_at (links_in bill family) (histories_of bill family) c p) held).0)
    (empty_prefix known))
  where
    c : AreClosed (links_in bill family) (histories_of bill family)
    c = are_closed family sound distinct bill closed

    -- the empty chain was accepted where the bill was signed
    on_empty : IsAccepted (histories_of bill family) [] → IsSignedIn family bill
    on_empty (inl (none, signed)) = signed
    on_empty (inr (q, ends, among)) = cc ends
