-- Chains of entries: each entry is made by the platform to which those before it moved possession, and moves it on.
use Rattle.std.specs.Prelude.{◌≡◌, ℕ, true, false, Option, Some, None, Result, Ok, Err, List, [], ◌∷◌, ◌++◌, length, Bool, ◌&&◌, nat_lt, option_map, map, slice_get}
use Rattle.std.specs.List.{common_prefix_len, flat_map, list_any, starts_with}
use Rattle.std.specs.Option.{option_or, option_map_or}
use Rattle.ebl_base.specs.Checksum.{checksum_eq}
use Rattle.ebl_base.specs.declared.checksum.Checksum.{Checksum}
use Rattle.ebl_base.specs.declared.party.Party.{Party}
use Rattle.ebl_base.specs.declared.platform_code.PlatformCode.{PlatformCode}
use Rattle.ebl_base.specs.declared.transaction.Transaction.{Transaction}
use Rattle.ebl_base.specs.declared.entry.Entry.{Entry}
use Rattle.ebl_base.specs.declared.chain.ChainLink.{ChainLink}
use Rattle.title_fold.specs.declared.refusal.FoldRefusal.{FoldRefusal}
use Rattle.title_fold.specs.declared.title.Title.{Title}
use Rattle.title_fold.specs.Title.{possessor}
use Rattle.title_fold.specs.Step.{step_title}
use Rattle.title_fold.specs.Fold.{Folded, fold}
use Rattle.title_fold.specs.Movement.{moves}

-- ---- entries and their names

-- the last link of a chain
abbrev pub last_of : List ChainLink → Option ChainLink
last_of [] = None
last_of (link ∷ links) = option_or (last_of links) (Some link)

-- the names of a chain's entries
abbrev pub names_of : List ChainLink → List Checksum
names_of chain = map (λ link. link.name) chain

-- the name of a chain's last entry
abbrev pub last_name : List ChainLink → Option Checksum
last_name chain = option_map (λ link. link.name) (last_of chain)

-- whether a chain has an entry of this name
abbrev pub has_entry : Checksum → List ChainLink → Bool
has_entry name chain = list_any (λ link. checksum_eq link.name name) chain

-- whether this is the name of a chain's last entry
abbrev pub ends_in : Checksum → List ChainLink → Bool
ends_in name chain = option_map_or (λ link. checksum_eq link.name name) (last_of chain) false

-- whether a chain goes on beyond another one, by the names of their entries
abbrev pub goes_beyond : List ChainLink → List ChainLink → Bool
goes_beyond before chain =
    starts_with checksum_eq (names_of chain) (names_of before) && nat_lt (length before) (length chain)

-- how many entries two chains have in common, by their names from the first on
abbrev pub common_front : List ChainLink → List ChainLink → ℕ
common_front a b = common_prefix_len checksum_eq (names_of a) (names_of b)

-- ---- the title after a chain

-- the transactions of a chain, from its first entry on
abbrev pub transactions_of : List ChainLink → List Transaction
transactions_of chain = flat_map (λ link. link.entry.transactions) chain

-- the title after a chain: the fold of all its transactions
abbrev pub title_after_chain : List ChainLink → Folded
title_after_chain chain = fold (transactions_of chain)

-- a fold without the place of the transaction that is refused
abbrev pub without_place : Folded → Result (Option Title) FoldRefusal
without_place (Ok title) = Ok title
without_place (Err at) = Err at.rule

-- the possessor, if there is a title
abbrev pub possessor_with : Folded → Option Party
possessor_with (Ok title) = option_map possessor title
possessor_with (Err at) = None

-- the possessor after a chain, and nobody if it is empty or a transaction of it is refused
abbrev pub possessor_after : List ChainLink → Option Party
possessor_after chain = possessor_with (title_after_chain chain)

-- the possessor's platform, if there is a title
abbrev pub platform_with : Folded → Option PlatformCode
platform_with (Ok title) = option_map (λ t. (possessor t).platform) title
platform_with (Err at) = None

-- where a chain moves possession: the possessor's platform after it, and nowhere if it is empty
abbrev pub destination : List ChainLink → Option PlatformCode
destination chain = platform_with (title_after_chain chain)

-- ---- chains of a bill

-- the transactions are allowed on a title, none of them moves, and this is the title after them
abbrev pub Stays : Option Title → List Transaction → Option Title → Type 0
Stays before [] after = after ≡ before
Stays before (t ∷ ts) after =
    (title : Title) × (step_title before t ≡ Ok title) × (moves before title ≡ false) × Stays (Some title) ts after

-- the transactions are allowed on a title; the last of them moves, and no other does
pub record MovesAtItsEnd (before : Option Title) (transactions : List Transaction) : Type 0 where
  pub front : List Transaction
  pub last : Transaction
  pub parts : transactions ≡ front ++ last ∷ []
  pub between : Option Title
  pub stays : Stays before front between
  pub after : Title
  pub allowed : step_title between last ≡ Ok after
  pub moved : moves between after ≡ true

-- the platform whose turn it is: that of the possessor after a chain, and at first that of the first actor
abbrev pub platform_at_turn : List ChainLink → Entry → Option PlatformCode
platform_at_turn [] entry = option_map (λ t. t.actor.platform) (slice_get entry.transactions 0)
platform_at_turn (link ∷ links) entry = destination (link ∷ links)

-- an entry may follow a chain of a bill: it names the bill and the chain's last entry, is of the platform whose turn
-- it is, and moves possession by its last transaction alone
pub record FollowsChain (bill : Checksum) (chain : List ChainLink) (entry : Entry) : Type 0 where
  pub bill_is : entry.bill ≡ bill
  pub previous : entry.previous ≡ last_name chain
  pub platform : platform_at_turn chain entry ≡ Some entry.platform
  pub before : Option Title
  pub title : title_after_chain chain ≡ Ok before
  pub moves : MovesAtItsEnd before entry.transactions

-- each entry may follow those before it, which begin with this chain
abbrev pub FollowEachOther : Checksum → List ChainLink → List ChainLink → Type 0
FollowEachOther bill before [] = Unit {0}
FollowEachOther bill before (link ∷ links) =
    FollowsChain bill before link.entry × FollowEachOther bill (before ++ link ∷ []) links

-- a chain of a bill, whatever its texts and its carrier: each entry may follow those before it
abbrev pub IsChainOfBill : Checksum → List ChainLink → Type 0
IsChainOfBill bill chain = FollowEachOther bill [] chain
