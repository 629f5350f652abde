-- What the verdict of a sound family says.
use Rattle.std.proofs.Common.{◌≡◌, List, Some, None, refl, sym, ap, subst, ◌∙◌}
use Rattle.std.specs.Prelude.{◌↔◌, Option, MatchOption}
use Rattle.ebl_base.specs.declared.checksum.Checksum.{Checksum}
use Rattle.closed_family.specs.declared.family.Member.{Member}
use Rattle.closed_family.specs.declared.verdict.Verdict.{Verdict}
use Rattle.closed_family.specs.declared.verdict.Verdict.TheVariants.{Consistent, SameName, Lacks}
use Rattle.closed_family.specs.Family.{IsSoundFamily, IsClosedFamily, HasDistinctNames, IsSafeFamily}
use Rattle.closed_family.specs.Lacking.{first_of, lacking}
use Rattle.closed_family.specs.Survey.{IsVerdict}
use Rattle.closed_family.specs.Texts.{Named, AreDistinct, IsSharedFirst, SharesName}
use Rattle.closed_family.proofs.Complete.{closed_is_complete, complete_is_closed, none_of_first}
use Rattle.closed_family.proofs.Takings.{closed_is_safe}
use Rattle.closed_family.proofs.FamilyTexts.{names_of_distinct, shared_of_first}

-- where no name is found that is shared, all texts are distinct
pub distinct_all : (found : Option Checksum) (texts all : List Named) → found ≡ None → texts ≡ all
    → MatchOption found (AreDistinct texts) (IsSharedFirst texts)
    → AreDistinct all
distinct_all None texts all none same distinct = subst AreDistinct same distinct
distinct_all (Some name) texts all none same shared = cc

-- it is Consistent exactly when the family is closed and its texts have distinct names
pub consistent_iff : (family : List Member) → IsSoundFamily family → (v : Verdict) → IsVerdict family v
    → (v ≡ Consistent) ↔ (IsClosedFamily family × HasDistinctNames family)
consistent_iff family sound Consistent is = (
  λ same. (
    complete_is_closed family (none_of_first (lacking family) is.1),
    names_of_distinct family is.0,
  ),
  λ both. refl,
)
consistent_iff family sound (SameName name) is = (
  λ same. cc,
  λ both.
      let shared = shared_of_first family sound name is in
      absurd (shared.differ
      (both.1 shared.one shared.other shared.one_in shared.other_in (shared.one_named ∙ sym shared.other_named))),
)
consistent_iff family sound (Lacks platform what text) is = (
  λ same. cc,
  λ both.
      let nothing = ap first_of (closed_is_complete family sound both.0) in
      let two = sym is.1 ∙ nothing in
      cc,
)

-- the name of a SameName is shared
pub named_shared : (family : List Member) → IsSoundFamily family → (v : Verdict) → IsVerdict family v
    → (name : Checksum) → v ≡ SameName name → SharesName family name
named_shared family sound Consistent is name same = cc
named_shared family sound (SameName other) is name same =
    let names : other ≡ name = cc same in
    subst (SharesName family) names (shared_of_first family sound other is)
named_shared family sound (Lacks platform what text) is name same = cc

-- and where it is Consistent each bill is safe
pub consistent_safe : (family : List Member) → IsSoundFamily family → (v : Verdict) → IsVerdict family v
    → v ≡ Consistent → IsSafeFamily family
consistent_safe family sound v is same =
    let both = (consistent_iff family sound v is).0 same in
    closed_is_safe family sound both.0 both.1
