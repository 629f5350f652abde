-- Chains: what stands in front of another, and that the name of its last entry fixes a chain.
use Rattle.std.proofs.Common.{◌≡◌, ◌+◌, ◌≤◌, List, [], ◌∷◌, ◌++◌, length, refl, sym, ap, subst, ◌∙◌, inl, inr, arith, length-append}
use Rattle.std.specs.Prelude.{◌⊎◌, Some, option_map}
use Rattle.std.proofs.lemmas.List.{append_assoc}
use Rattle.ebl_base.specs.declared.chain.ChainLink.{ChainLink}
use Rattle.bill_chain.specs.Chain.{last_of, last_name}
use Rattle.closed_family.specs.Chains.{IsPrefix}

-- ---- lists from their end

-- a list is empty, or has a last item
pub record HasLast (list : List ChainLink) : Type 0 where
  pub front : List ChainLink
  pub last : ChainLink
  pub parts : list ≡ front ++ last ∷ []

pub from_the_end : (list : List ChainLink) → (list ≡ []) ⊎ HasLast list
from_the_end [] = inl refl
from_the_end (x ∷ xs) = on_rest (from_the_end xs)
  where
    on_rest : (xs ≡ []) ⊎ HasLast xs → (x ∷ xs ≡ []) ⊎ HasLast (x ∷ xs)
    on_rest (inl e) = inr (record { front = []; last = x; parts = ap (λ ys. x ∷ ys) e })
    on_rest (inr l) = inr (record { front = x ∷ l.front; last = l.last; parts = ap (λ ys. x ∷ ys) l.parts })

-- the last item of a list that ends so
pub last_of-push : (front : List ChainLink) (e : ChainLink) → last_of (front ++ e ∷ []) ≡ Some e
last_of-push [] e = refl
last_of-push (x ∷ xs) e = rw (last_of-push xs e)

pub last_name-push : (front : List ChainLink) (e : ChainLink) → last_name (front ++ e ∷ []) ≡ Some e.name
last_name-push front e = ap (option_map (λ (link : ChainLink). link.name)) (last_of-push front e)

-- a list with a last item isn't empty
pub not_empty : (front : List ChainLink) (e : ChainLink) → front ++ e ∷ [] ≡ [] → ⊥
not_empty [] e h = cc
not_empty (x ∷ xs) e h = cc

-- the parts of equal lists are equal
pub push_injective : (a b : List ChainLink) (e f : ChainLink) → a ++ e ∷ [] ≡ b ++ f ∷ [] → (a ≡ b) × (e ≡ f)
push_injective [] [] e f h = (refl, cc)
push_injective [] (y ∷ ys) e f h = absurd (not_empty ys f (tails h))
  where
    tails : e ∷ [] ≡ y ∷ (ys ++ f ∷ []) → ys ++ f ∷ [] ≡ []
    tails h = cc
push_injective (x ∷ xs) [] e f h = absurd (not_empty xs e (tails h))
  where
    tails : x ∷ (xs ++ e ∷ []) ≡ f ∷ [] → xs ++ e ∷ [] ≡ []
    tails h = cc
push_injective (x ∷ xs) (y ∷ ys) e f h =
    let tails : xs ++ e ∷ [] ≡ ys ++ f ∷ [] = cc in
    let heads : x ≡ y = cc in
    let both = push_injective xs ys e f tails in
    let fronts = both.0 in
    (cc, both.1)

-- ---- prefixes

pub append-none : (c : List ChainLink) → c ++ [] ≡ c
append-none [] = refl
append-none (x ∷ xs) = ap (λ ys. x ∷ ys) (append-none xs)

pub prefix_itself : (c : List ChainLink) → IsPrefix c c
prefix_itself c = record { rest = []; parts = sym (append-none c) }

pub prefix_of : (a b : List ChainLink) → a ≡ b → IsPrefix a b
prefix_of a b e = subst (λ (x : List ChainLink). IsPrefix a x) e (prefix_itself a)

pub empty_prefix : (c : List ChainLink) → IsPrefix [] c
empty_prefix c = record { rest = c; parts = refl }

pub prefix_trans : (a b c : List ChainLink) → IsPrefix a b → IsPrefix b c → IsPrefix a c
prefix_trans a b c p q = record {
  rest = p.rest ++ q.rest;
  parts = q.parts ∙ ap (λ (x : List ChainLink). x ++ q.rest) p.parts ∙ append_assoc a p.rest q.rest;
}

pub push_prefix : (a : List ChainLink) (e : ChainLink) → IsPrefix a (a ++ e ∷ [])
push_prefix a e = record { rest = e ∷ []; parts = refl }

pub prefix_length : (a b : List ChainLink) → IsPrefix a b → length a ≤ length b
prefix_length a b p = let e = ap length p.parts ∙ length-append a p.rest in omega arith

pub push_length : (a : List ChainLink) (e : ChainLink) → length (a ++ e ∷ []) ≡ length a + 1
push_length a e = length-append a (e ∷ [])

no_rest : (rest : List ChainLink) → length rest ≡ 0 → rest ≡ []
no_rest [] h = refl
no_rest (x ∷ xs) h = absurd (omega arith)

-- a prefix that is as long is the whole
pub prefix_whole : (a b : List ChainLink) → IsPrefix a b → length b ≤ length a → a ≡ b
prefix_whole a b p h =
    let e = ap length p.parts ∙ length-append a p.rest in
    let none = no_rest p.rest (omega arith) in
    sym (p.parts ∙ ap (λ (x : List ChainLink). a ++ x) none ∙ append-none a)

-- two that are prefixes of each other are one
pub prefix_both : (a b : List ChainLink) → IsPrefix a b → IsPrefix b a → a ≡ b
prefix_both a b p q = prefix_whole a b p (prefix_length b a q)

-- a prefix is the whole, or one more entry of the whole follows it
pub record GoesOn (a b : List ChainLink) : Type 0 where
  pub next : ChainLink
  pub further : IsPrefix (a ++ next ∷ []) b

pub prefix_or_more : (a b : List ChainLink) → IsPrefix a b → (a ≡ b) ⊎ GoesOn a b
prefix_or_more a b p = on_rest p.rest p.parts
  where
    on_rest : (rest : List ChainLink) → b ≡ a ++ rest → (a ≡ b) ⊎ GoesOn a b
    on_rest [] e = inl (prefix_whole a b p (le_of (ap length (e ∙ append-none a))))
      where
        le_of : length b ≡ length a → length b ≤ length a
        le_of e = omega arith
    on_rest (x ∷ xs) e =
        inr (record { next = x; further = record { rest = xs; parts = e ∙ sym (append_assoc a (x ∷ []) xs) } })

-- a prefix of a list with a last item is that list, or a prefix of its front
pub prefix_of_push : (a b : List ChainLink) (e : ChainLink)
    → IsPrefix a (b ++ e ∷ [])
    → (a ≡ b ++ e ∷ []) ⊎ IsPrefix a b
prefix_of_push a b e p = on_rest (from_the_end p.rest)
  where
    on_rest : (p.rest ≡ []) ⊎ HasLast p.rest → (a ≡ b ++ e ∷ []) ⊎ IsPrefix a b
    on_rest (inl none) = inl (sym (p.parts ∙ ap (λ (x : List ChainLink). a ++ x) none ∙ append-none a))
    on_rest (inr l) =
        let same : b ++ e ∷ [] ≡ (a ++ l.front) ++ l.last ∷ []
        = p.parts ∙ ap (λ (x : List ChainLink). a ++ x) l.parts ∙ sym (append_assoc a l.front (l.last ∷ [])) in
        inr (record { rest = l.front; parts = (push_injective b (a ++ l.front) e l.last same).0 })
