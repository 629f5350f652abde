use Rattle.canonical_json.specs.View.{view}
use Rattle.pint_responses.proofs.MemberLemmas.{in_front_push}
use Rattle.pint_responses.proofs.writing.push.Goals as goal

pub returns : goal.returns
returns c rest =
    let front = in_front_push c.args.members.now.items c.in_ok-member.member c.args.name.now
    (view c.args.value) rest c.in_ok-member.ensures in
    rw (c.in_ok-push.ensures.items) front
