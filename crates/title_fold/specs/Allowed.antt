-- The transactions that are allowed, as a table of what stands before and after.
use Rattle.std.specs.Prelude.{◌≡◌, ◌≢◌, Option, Some, None}
use Rattle.ebl_base.specs.declared.kind.Kind.{Kind}
use Rattle.ebl_base.specs.declared.kind.Kind.TheVariants.{Sign, Issue, Endorse, Transfer, SurrenderForDelivery, SurrenderForAmendment, SurrenderAccepted, SurrenderRefused}
use Rattle.ebl_base.specs.declared.party.Party.{Party}
use Rattle.ebl_base.specs.declared.transaction.Transaction.{Transaction}
use Rattle.title_fold.specs.declared.title.Title.{Title}
use Rattle.title_fold.specs.declared.title.Title.TheVariants.{Signed, Live, Asked, Ended}

-- a kind by this actor and for this recipient is allowed on a title, with this title after it
abbrev pub Allows : Option Title → Kind → Party → Option Party → Title → Type 0
Allows None Sign actor None after = after ≡ Signed actor
Allows (Some (Signed c)) Issue actor (Some to) after = (actor ≡ c) × (after ≡ Live c to to)
Allows (Some (Live c p h)) Endorse actor (Some to) after =
    (actor ≡ p) × (actor ≡ h) × (to ≢ actor) × (after ≡ Live c p to)
Allows (Some (Live c p h)) Transfer actor (Some to) after = (actor ≡ p) × (to ≢ actor) × (after ≡ Live c to h)
Allows (Some (Live c p h)) SurrenderForDelivery actor None after =
    (actor ≡ p) × (actor ≡ h) × (after ≡ Asked SurrenderForDelivery c actor)
Allows (Some (Live c p h)) SurrenderForAmendment actor None after =
    (actor ≡ p) × (actor ≡ h) × (after ≡ Asked SurrenderForAmendment c actor)
Allows (Some (Asked kind c by)) SurrenderAccepted actor None after = (actor ≡ c) × (after ≡ Ended kind c)
Allows (Some (Asked kind c by)) SurrenderRefused actor None after = (actor ≡ c) × (after ≡ Live c by by)
Allows before kind actor recipient after = ⊥

-- the transaction is allowed on this title, and this is the title after it
abbrev pub IsAllowed : Option Title → Transaction → Title → Type 0
IsAllowed before t after = Allows before t.kind t.actor t.recipient after
