use Rattle.std.proofs.Common.{◌≡◌, ℕ, ◌+◌, suc, List, [], ◌∷◌, ◌++◌, Option, Some, take, drop, sym, ap, subst, ◌∙◌, drop-cons, Bor}
use Rattle.std.specs.BTreeMap.{get, Updates}
use Rattle.std.proofs.lemmas.List.{take-append-drop, take_more, take_all}
use Rattle.ebl_base.specs.Checksum.{checksum_cmp}
use Rattle.ebl_base.specs.declared.checksum.Checksum.{Checksum}
use Rattle.closed_family.specs.Texts.{Named, AreDistinct, IsSharedFirst}
use Rattle.closed_family.proofs.SharedNames.{IsIndex, distinct_by_index, IsNoOther, no_other_by, other_by, index_more, shared_by_index}
use Rattle.closed_family.proofs.shared.first_shared.Goals as goal

pub returns-then-is_other : goal.returns-then-is_other
returns-then-is_other c =
    let Now : Bor (List ℕ) → List ℕ = λ b. b.now in
    let texts : List Named = c.args.texts.now in
    let i = c.loop-text.text-index in
    let item : Named = c.text-item.result in
    let seen = c.loop-text.seen in
    let earlier = c.in_ok-earlier.earlier in
    let was : earlier ≡ get checksum_cmp seen item.name
    = c.in_ok-earlier.ensures.old ∙ ap (get checksum_cmp seen) c.name-name.ensures in
    let other = other_by Now earlier c.as_slice-bytes.result.now (sym c.is_other.ensures ∙ c.if-is_other.true) in
    let parts : texts ≡ take i texts ++ item ∷ drop (suc i) texts
    = sym (take-append-drop i texts)
    ∙ ap (λ (xs : List Named). take i texts ++ xs)
    (drop-cons texts i item c.loop-text-test.true
    ∙ ap (λ (x : Named). x ∷ drop (suc i) texts) (sym c.text-item.is)) in
    subst (IsSharedFirst texts) (sym c.name-name.ensures)
    (shared_by_index Now (take i texts) (drop (suc i) texts) texts item seen other.value c.loop-text.invariant parts
    (sym was ∙ other.found) (λ same. other.differ (same ∙ sym c.as_slice-bytes.ensures)))

pub loop-text-preserved : goal.loop-text-preserved
loop-text-preserved c =
    let Now : Bor (List ℕ) → List ℕ = λ b. b.now in
    let texts : List Named = c.args.texts.now in
    let i = c.loop-text.text-index in
    let item : Named = c.text-item.result in
    let value = c.as_slice-bytes.result in
    let seen = c.loop-text.seen in
    let new = c.insert.new.self in
    let earlier = c.in_ok-earlier.earlier in
    let updates : Updates checksum_cmp seen new item.name (Some value)
    = subst (λ (name : Checksum). Updates checksum_cmp seen new name (Some value)) c.name-name.ensures
    c.in_ok-earlier.ensures.updates in
    let was : earlier ≡ get checksum_cmp seen item.name
    = c.in_ok-earlier.ensures.old ∙ ap (get checksum_cmp seen) c.name-name.ensures in
    let no_other : IsNoOther Now earlier item.text
    = subst (IsNoOther Now earlier) c.as_slice-bytes.ensures
    (no_other_by Now earlier value.now (sym c.is_other.ensures ∙ c.if-is_other.false)) in
    let more : take (i + 1) texts ≡ take i texts ++ item ∷ []
    = take_more texts i item c.loop-text-test.true
    ∙ ap (λ (x : Named). take i texts ++ x ∷ []) (sym c.text-item.is) in
    subst (λ (xs : List Named). IsIndex Now xs new) (sym more)
    (index_more Now (take i texts) item seen new value c.loop-text.invariant updates c.as_slice-bytes.ensures
    (subst (λ (o : Option (Bor (List ℕ))). IsNoOther Now o item.text) was no_other))

pub returns : goal.returns
returns c =
    let Now : Bor (List ℕ) → List ℕ = λ b. b.now in
    let texts : List Named = c.args.texts.now in
    let i = c.loop-text.text-index in
    subst AreDistinct (take_all i texts c.loop-text-test.false)
    (distinct_by_index Now (take i texts) c.loop-text.seen c.loop-text.invariant)
