use Rattle.std.proofs.Common.{Some, option_map, length, arith, sym, ap, ◌∙◌}
use Rattle.canonical_json.specs.View.{view, member_view, members_view}
use Rattle.canonical_json.specs.Taking.{place_of}
use Rattle.canonical_json.proofs.Views.{value_of-member_view}
use Rattle.canonical_json.proofs.TakingLemmas.{place_within, place_found, place_absent}
use Rattle.canonical_json.proofs.taking.take_member.Goals as goal

pub returns-in_err-at-clause-value : goal.returns-in_err-at-clause-value
returns-in_err-at-clause-value c =
    let seen = ap (λ ms. place_of c.args.name.now (members_view ms)) (sym c.as_slice.ensures.value) in
    let absent = place_absent c.args.name.now (members_view c.args.members.now.items) (seen ∙ sym c.place_of.ensures ∙ c.in_err-at.was) in
    ap (option_map view) c.from_residual.ensures ∙ sym absent.value

pub returns-in_err-at-clause-rest : goal.returns-in_err-at-clause-rest
returns-in_err-at-clause-rest c =
    let seen = ap (λ ms. place_of c.args.name.now (members_view ms)) (sym c.as_slice.ensures.value) in
    sym (place_absent c.args.name.now (members_view c.args.members.now.items) (seen ∙ sym c.place_of.ensures ∙ c.in_err-at.was)).rest

pub remove-member-requires : goal.remove-member-requires
remove-member-requires c =
    let seen = ap (λ ms. place_of c.args.name.now (members_view ms)) (sym c.as_slice.ensures.value) in
    let within = place_within c.args.name.now c.args.members.now.items c.in_ok-at.at (seen ∙ sym c.place_of.ensures ∙ c.in_ok-at.was) in
    omega (arith, within, ap length c.as_slice.ensures.value, c.as_slice.ensures.len)

pub returns-clause-value : goal.returns-clause-value
returns-clause-value c =
    let seen = ap (λ ms. place_of c.args.name.now (members_view ms)) (sym c.as_slice.ensures.value) in
    let found = place_found c.args.name.now c.args.members.now.items c.remove-member.result c.in_ok-at.at (seen ∙ sym c.place_of.ensures ∙ c.in_ok-at.was) in
    ap Some (sym (value_of-member_view c.remove-member.result)) ∙ ap (λ m. Some (member_view m).1) c.remove-member.ensures.value ∙ sym found.value

pub returns-clause-rest : goal.returns-clause-rest
returns-clause-rest c =
    let seen = ap (λ ms. place_of c.args.name.now (members_view ms)) (sym c.as_slice.ensures.value) in
    let found = place_found c.args.name.now c.args.members.now.items c.remove-member.result c.in_ok-at.at (seen ∙ sym c.place_of.ensures ∙ c.in_ok-at.was) in
    ap members_view c.remove-member.ensures.items ∙ found.rest
