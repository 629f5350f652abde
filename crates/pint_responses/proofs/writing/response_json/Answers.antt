use Rattle.std.proofs.Common.{map, ap, sym, ◌∙◌}
use Rattle.canonical_json.specs.Value.{object}
use Rattle.canonical_json.specs.View.{member_view}
use Rattle.pint_responses.specs.Writing.{in_front, response_members}
use Rattle.pint_responses.proofs.MemberLemmas.{in_front_all}
use Rattle.pint_responses.proofs.writing.response_json.Goals as goal

pub returns-clause-value : goal.returns-clause-value
returns-clause-value c =
    c.object_json.ensures ∙ ap object (sym (in_front_all (map member_view c.push_verdict.new.members.items))
    ∙ c.in_ok-push_verdict.ensures _
    ∙ c.in_ok-push_subject.ensures.members _
    ∙ ap (λ items. in_front (map member_view items) (response_members c.args.r.now)) c.in_ok-members.ensures.items)
