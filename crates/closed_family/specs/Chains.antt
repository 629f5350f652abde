-- Chains one after another, and links among others.
use Rattle.std.specs.Prelude.{◌≡◌, ◌⊎◌, List, [], ◌∷◌, ◌++◌}
use Rattle.ebl_base.specs.declared.chain.ChainLink.{ChainLink}

-- one of the items of a list
abbrev pub IsAmong : {X : Type 0} → X → List X → Type 0
IsAmong x [] = ⊥
IsAmong x (y ∷ ys) = (y ≡ x) ⊎ IsAmong x ys

-- a chain begins with another one, or is that
pub record IsPrefix (front chain : List ChainLink) : Type 0 where
  pub rest : List ChainLink
  pub parts : chain ≡ front ++ rest

-- each link of a chain is one of some links
abbrev pub AreAmong : List ChainLink → List ChainLink → Type 0
AreAmong [] links = Unit {0}
AreAmong (link ∷ chain) links = IsAmong link links × AreAmong chain links

-- links that have one name are one
pub record NamesDetermineLinks (links : List ChainLink) : Type 0 where
  pub same : (a b : ChainLink) → IsAmong a links → IsAmong b links → a.name ≡ b.name → a ≡ b
