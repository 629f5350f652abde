-- The texts of the kinds of transactions.
use Rattle.std.specs.Prelude.{ℕ, List, [], ◌∷◌, Option, codes, find}
use Rattle.std.specs.Str.{bytes_eq}
use Rattle.ebl_base.specs.declared.kind.Kind.{Kind}
use Rattle.ebl_base.specs.declared.kind.Kind.TheVariants.{Sign, Issue, Endorse, Transfer, SurrenderForDelivery, SurrenderForAmendment, SurrenderAccepted, SurrenderRefused}

-- the text of a kind
abbrev pub kind_text : Kind → List ℕ
kind_text Sign = codes "SIGN"
kind_text Issue = codes "ISSUE"
kind_text Endorse = codes "ENDORSE"
kind_text Transfer = codes "TRANSFER"
kind_text SurrenderForDelivery = codes "SURRENDER_FOR_DELIVERY"
kind_text SurrenderForAmendment = codes "SURRENDER_FOR_AMENDMENT"
kind_text SurrenderAccepted = codes "SURRENDER_ACCEPTED"
kind_text SurrenderRefused = codes "SURRENDER_REFUSED"

-- all kinds
abbrev pub kinds : List Kind
kinds =
    Sign ∷ Issue ∷ Endorse ∷ Transfer ∷ SurrenderForDelivery ∷ SurrenderForAmendment ∷ SurrenderAccepted
    ∷ SurrenderRefused ∷ []

-- the kind with this text
abbrev pub kind_of : List ℕ → Option Kind
kind_of text = find (λ kind. bytes_eq (kind_text kind) text) kinds
