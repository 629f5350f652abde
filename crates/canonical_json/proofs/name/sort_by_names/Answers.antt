use Rattle.std.proofs.Common.{not, ◌∙◌, sym, ap, arith}
use Rattle.std.proofs.lemmas.List.Sorted.{ranks_by, answers_always, IsPermutation-trans}
use Rattle.std.specs.Ordering.{is_lt}
use Rattle.canonical_json.specs.View.{member_view, members_view}
use Rattle.canonical_json.specs.Name.{names_rise}
use Rattle.canonical_json.specs.declared.value.Member.{Member}
use Rattle.canonical_json.proofs.Order.{order, put_all-names_rise}
use Rattle.canonical_json.proofs.Sorting.{AreApart-rise, repeats-apart, rise_if_apart, none_repeats, in_order_if_risen, MembersHaveTexts-permutation}
use Rattle.canonical_json.proofs.name.sort_by_names.Goals as goal

pub returns-then-names_rise-clause-apart : goal.returns-then-names_rise-clause-apart
returns-then-names_rise-clause-apart c =
    let rise = ap (λ ms. names_rise (members_view ms)) (sym c.as_slice.ensures.value) ∙ sym c.names_rise.ensures ∙ c.if-names_rise.true in
    ap not (sym (repeats-apart (members_view c.args.members.now.items) (AreApart-rise _ rise)))

pub returns-then-names_rise-clause-ordered : goal.returns-then-names_rise-clause-ordered
returns-then-names_rise-clause-ordered c _ =
    let rise = ap (λ ms. names_rise (members_view ms)) (sym c.as_slice.ensures.value) ∙ sym c.names_rise.ensures ∙ c.if-names_rise.true in
    sym (put_all-names_rise (members_view c.args.members.now.items) rise)

pub returns-then-names_rise-2-clause-apart : goal.returns-then-names_rise-2-clause-apart
returns-then-names_rise-2-clause-apart c =
    let rise = ap (λ ms. names_rise (members_view ms)) (sym c.as_slice-2.ensures.value) ∙ sym c.names_rise-2.ensures ∙ c.if-names_rise-2.true in
    none_repeats c.args.members.now.items c.sort_by.new.self.items c.in_ok-sort_by.ensures.permutation rise

pub returns-then-names_rise-2-clause-ordered : goal.returns-then-names_rise-2-clause-ordered
returns-then-names_rise-2-clause-ordered c _ =
    let rise = ap (λ ms. names_rise (members_view ms)) (sym c.as_slice-2.ensures.value) ∙ sym c.names_rise-2.ensures ∙ c.if-names_rise-2.true in
    in_order_if_risen c.args.members.now.items c.sort_by.new.self.items c.in_ok-sort_by.ensures.permutation rise

pub returns-then-names_rise-2-clause-texts : goal.returns-then-names_rise-2-clause-texts
returns-then-names_rise-2-clause-texts c = MembersHaveTexts-permutation _ _ c.in_ok-sort_by.ensures.permutation c.requires

pub returns-clause-apart : goal.returns-clause-apart
returns-clause-apart c =
    let moved = IsPermutation-trans _ _ _ c.in_ok-sort_by.ensures.permutation c.in_ok-sort_by-2.ensures.permutation in
    let sorted = c.in_ok-sort_by-2.ensures.sorted _ (ranks_by order (λ (m : Member). (member_view m).0)) (answers_always _ _ _ (λ f a r f' k. ap is_lt k.met)) in
    let rise = ap (λ ms. names_rise (members_view ms)) (sym c.as_slice-3.ensures.value) ∙ sym c.names_rise-3.ensures in
    rise_if_apart c.args.members.now.items c.sort_by-2.new.self.items c.requires moved (λ k d h. sorted k d (omega arith) h) c.names_rise-3.result rise

pub returns-clause-ordered : goal.returns-clause-ordered
returns-clause-ordered c is =
    let moved = IsPermutation-trans _ _ _ c.in_ok-sort_by.ensures.permutation c.in_ok-sort_by-2.ensures.permutation in
    let rise = ap (λ ms. names_rise (members_view ms)) (sym c.as_slice-3.ensures.value) ∙ sym c.names_rise-3.ensures in
    in_order_if_risen c.args.members.now.items c.sort_by-2.new.self.items moved (rise ∙ is)

pub returns-clause-texts : goal.returns-clause-texts
returns-clause-texts c =
    MembersHaveTexts-permutation _ _ (IsPermutation-trans _ _ _ c.in_ok-sort_by.ensures.permutation c.in_ok-sort_by-2.ensures.permutation) c.requires
