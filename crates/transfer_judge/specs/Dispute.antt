-- The evidence of a dispute: the entries at which the chain that is known here and the one that was shown part.
use Rattle.std.specs.Prelude.{ℕ, List, Option, Some, None, option_map, slice_get, if◌then◌else◌}
use Rattle.std.specs.Option.{option_or}
use Rattle.ebl_base.specs.declared.chain.ChainLink.{ChainLink}
use Rattle.ebl_base.specs.declared.evidence.Evidence.{Evidence}
use Rattle.ebl_base.specs.declared.signed_text.SignedText.{SignedText}
use Rattle.bill_chain.specs.Chain.{common_front, last_of}
use Rattle.bill_diary.specs.declared.bill_place.BillPlace.{BillPlace}
use Rattle.bill_diary.specs.Place.{chain_at}
use Rattle.bill_diary.specs.Receiving.{continues}

-- the text of a chain's entry at an index; of the last one where there is none; none where the chain is empty
abbrev pub text_at : ℕ → List ChainLink → Option SignedText
text_at index chain = option_map (λ link. link.text) (option_or (slice_get chain index) (last_of chain))

-- the texts of both chains at the first index where they have entries of different names, or one of them has none
abbrev pub evidence_of : List ChainLink → List ChainLink → Evidence
evidence_of own shown = record {
  own = text_at (common_front own shown) own;
  theirs = text_at (common_front own shown) shown;
}

-- what disputes a chain that doesn't continue the place
abbrev pub dispute_of : BillPlace → List ChainLink → Option Evidence
dispute_of place shown = if continues place shown then None else Some (evidence_of (chain_at place) shown)
