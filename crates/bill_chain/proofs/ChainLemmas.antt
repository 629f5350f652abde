-- Chains: the last link, the names of their entries, and how one goes on beyond another.
use Rattle.std.proofs.Common.{◌≡◌, ◌-◌, ◌<◌, Bool, true, false, ◌&&◌, ◌||◌, List, [], ◌∷◌, ◌++◌, Option, Some, None, length, drop, refl, ap, sym, ◌∙◌, arith}
use Rattle.std.specs.Prelude.{slice_get}
use Rattle.std.specs.List.{list_any}
use Rattle.std.specs.Option.{option_or}
use Rattle.std.proofs.lemmas.Bool.Decides.{nat_tests}
use Rattle.std.proofs.lemmas.List.Folds.{list_any-append}
use Rattle.std.proofs.lemmas.Slice.Eq.{starts_is}
use Rattle.ebl_base.specs.Checksum.{checksum_eq}
use Rattle.ebl_base.specs.declared.checksum.Checksum.{Checksum}
use Rattle.ebl_base.specs.declared.chain.ChainLink.{ChainLink}
use Rattle.ebl_base.proofs.ChecksumLemmas.{checksum_eq-Decides}
use Rattle.bill_chain.specs.Chain.{last_of, names_of, has_entry, goes_beyond}

-- ---- the last link

keeps_last : (last : Option ChainLink) (next first : ChainLink)
    → option_or (option_or last (Some next)) (Some first) ≡ option_or last (Some next)
keeps_last None next first = refl
keeps_last (Some link) next first = refl

last_at : (first : ChainLink) (links : List ChainLink)
    → slice_get (first ∷ links) (length links) ≡ last_of (first ∷ links)
last_at first [] = refl
last_at first (next ∷ links) = last_at next links ∙ sym (keeps_last (last_of links) next first)

-- the last link is the one at the last place
pub last_of-get : (chain : List ChainLink) → slice_get chain (length chain - 1) ≡ last_of chain
last_of-get [] = refl
last_of-get (first ∷ links) =
    let place : length (first ∷ links) - 1 ≡ length links = omega arith in
    ap (slice_get (first ∷ links)) place ∙ last_at first links

-- the last link of a chain and one link more is this one
pub last_of-push : (chain : List ChainLink) (link : ChainLink) → last_of (chain ++ link ∷ []) ≡ Some link
last_of-push [] link = refl
last_of-push (first ∷ links) link = ap (λ last. option_or last (Some first)) (last_of-push links link)

-- ---- names

-- a name is that of an entry where it is among the names
pub has_entry-names : (name : Checksum) (chain : List ChainLink)
    → has_entry name chain ≡ list_any (λ n. checksum_eq n name) (names_of chain)
has_entry-names name [] = refl
has_entry-names name (link ∷ links) = ap (λ b. checksum_eq link.name name || b) (has_entry-names name links)

or_true : (a b : Bool) → b ≡ true → (a || b) ≡ true
or_true true b h = refl
or_true false b h = h

-- an entry is there where it stands behind a front
pub has_entry-behind : (name : Checksum) (front rest : List ChainLink)
    → has_entry name rest ≡ true → has_entry name (front ++ rest) ≡ true
has_entry-behind name front rest h =
    list_any-append (λ link. checksum_eq link.name name) front rest ∙ or_true (has_entry name front) (has_entry name rest) h

-- a chain has the entry that stands last
pub has_entry-last : (front : List ChainLink) (link : ChainLink) → has_entry link.name (front ++ link ∷ []) ≡ true
has_entry-last front link =
    has_entry-behind link.name front (link ∷ [])
    (ap (λ b. b || false) ((checksum_eq-Decides link.name link.name).1 refl))

-- ---- going on beyond another chain

-- the names of a chain that goes on begin with those of the other one, and the chain is longer
pub record GoesBeyond (before chain : List ChainLink) : Type 0 where
  pub rest : List Checksum
  pub names : names_of chain ≡ names_of before ++ rest
  pub longer : length before < length chain

and_true : (a b : Bool) → (a && b) ≡ true → (a ≡ true) × (b ≡ true)
and_true true b h = (refl, h)
and_true false b h = absurd (let no : false ≡ true = h in cc)

pub goes_beyond-parts : (before chain : List ChainLink) → goes_beyond before chain ≡ true → GoesBeyond before chain
goes_beyond-parts before chain h =
    let (starts, long) = and_true _ _ h in
    record {
      rest = drop (length (names_of before)) (names_of chain);
      names = (starts_is checksum_eq-Decides (names_of chain) (names_of before) _ refl).0 starts;
      longer = grind (arith, nat_tests, long);
    }

-- it has each entry of the other one
pub goes_beyond-has : (before chain : List ChainLink) (name : Checksum)
    → goes_beyond before chain ≡ true → has_entry name before ≡ true → has_entry name chain ≡ true
goes_beyond-has before chain name h there =
    let beyond = goes_beyond-parts before chain h in
    let is_name : Checksum → Bool = λ n. checksum_eq n name in
    has_entry-names name chain
    ∙ ap (list_any is_name) beyond.names
    ∙ list_any-append is_name (names_of before) beyond.rest
    ∙ ap (λ b. b || list_any is_name beyond.rest) (sym (has_entry-names name before) ∙ there)
