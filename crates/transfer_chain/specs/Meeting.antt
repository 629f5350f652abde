-- How two lists meet: which of them begins with the other, or where they part.
use Rattle.std.specs.Prelude.{◌≡◌, ◌≢◌, ℕ, List, ◌∷◌, ◌++◌, length}
use Rattle.transfer_chain.specs.declared.compare.Meeting.{Meeting}
use Rattle.transfer_chain.specs.declared.compare.Meeting.TheVariants.{Equal, FirstIsPrefix, SecondIsPrefix, Parts}

-- the first list is a front of the second, and shorter
abbrev pub IsFront : {T : Type 0} → List T → List T → Type 0
IsFront {T} a b = (x : T) × (rest : List T) × (b ≡ a ++ x ∷ rest)

-- the lists have this many items in common in front, and differ in the next
pub record PartAt {T : Type 0} (a b : List T) (at : ℕ) : Type 0 where
  pub front : List T
  pub x : T
  pub xs : List T
  pub y : T
  pub ys : List T
  pub first : a ≡ front ++ x ∷ xs
  pub second : b ≡ front ++ y ∷ ys
  pub place : length front ≡ at
  pub differ : x ≢ y

-- each of the four excludes the others
abbrev pub Meet : {T : Type 0} → List T → List T → Meeting → Type 0
Meet a b Equal = a ≡ b
Meet a b FirstIsPrefix = IsFront a b
Meet a b SecondIsPrefix = IsFront b a
Meet a b (Parts place) = PartAt a b place
