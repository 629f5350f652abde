-- A checked chain leads somewhere, unless it is empty.
use Rattle.std.proofs.Common.{◌≡◌, ◌≤◌, List, [], ◌∷◌, Option, Some, None, Ok, length, refl, sym, ap, ◌∙◌, subst, arith}
use Rattle.std.specs.Prelude.{IsNone, ◌↔◌}
use Rattle.std.proofs.lemmas.List.{length-append}
use Rattle.std.proofs.lemmas.List.Elements.{All-head}
use Rattle.ebl_base.specs.declared.chain.ChainLink.{ChainLink}
use Rattle.ebl_base.specs.declared.platform_code.PlatformCode.{PlatformCode}
use Rattle.ebl_base.specs.declared.transaction.Transaction.{Transaction}
use Rattle.title_fold.specs.declared.title.Title.{Title}
use Rattle.bill_chain.specs.Chain.{transactions_of, platform_with, destination}
use Rattle.title_fold.specs.Fold.{fold}
use Rattle.title_fold.specs.Title.{possessor}
use Rattle.transfer_chain.specs.Checked.{IsChecked}
use Rattle.transfer_chain.proofs.PassLemmas.{some_title}

leads : (ts : List Transaction) (title : Option Title) → 1 ≤ length ts → fold ts ≡ Ok title
    → platform_with (fold ts) ≡ None → ⊥
leads ts title some folds none =
    let stands = some_title ts None title 0 some folds in
    let there : platform_with (fold ts) ≡ Some (possessor stands.0).platform = ap platform_with (folds ∙ ap Ok stands.1) in
    let no : None ≡ Some (possessor stands.0).platform = sym none ∙ there in
    cc

more_than_none : (link : ChainLink) (chain : List ChainLink) → 1 ≤ length link.entry.transactions
    → 1 ≤ length (transactions_of (link ∷ chain))
more_than_none link chain some =
    let len = length-append link.entry.transactions (transactions_of chain) in
    omega (arith, len)

nowhere : (chain : List ChainLink) → IsChecked chain → destination chain ≡ None → chain ≡ []
nowhere [] checked none = refl
nowhere (link ∷ chain) checked none =
    absurd (leads (transactions_of (link ∷ chain)) checked.folds.0
    (more_than_none link chain (All-head (λ (l : ChainLink). 1 ≤ length l.entry.transactions) link chain checked.some))
    checked.folds.1 none)

is_none : {T : Type 0} (o : Option T) → IsNone o → o ≡ None
is_none None h = refl
is_none (Some x) h = cc

pub destination-none : (chain : List ChainLink) (found : Option PlatformCode) → IsChecked chain
    → found ≡ destination chain → IsNone found ↔ (chain ≡ [])
destination-none chain found checked is = (
  λ none. nowhere chain checked (sym is ∙ is_none found none),
  λ empty. subst IsNone (sym (is ∙ ap destination empty)) refl,
)
