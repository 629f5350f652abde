-- What a chain shows without its signatures: its texts, and that it was checked.
use Rattle.std.specs.Prelude.{◌≡◌, ◌≤◌, List, Option, Ok, All, length, map}
use Rattle.ebl_base.specs.declared.chain.ChainLink.{ChainLink}
use Rattle.ebl_base.specs.declared.signed_text.SignedText.{SignedText}
use Rattle.title_fold.specs.declared.title.Title.{Title}
use Rattle.bill_chain.specs.Chain.{title_after_chain}

-- the texts, in their order
abbrev pub texts_of : List ChainLink → List SignedText
texts_of chain = map (λ (link : ChainLink). link.text) chain

-- every entry has a transaction
abbrev pub HaveTransactions : List ChainLink → Type 0
HaveTransactions chain = All (λ (link : ChainLink). 1 ≤ length link.entry.transactions) chain

-- a chain as a check leaves it: its transactions, in order, fold from none, and every entry has one
pub record IsChecked (chain : List ChainLink) : Type 0 where
  pub folds : (title : Option Title) × (title_after_chain chain ≡ Ok title)
  pub some : HaveTransactions chain
