use Rattle.std.proofs.Common.{List, ap, ◌∙◌}
use Rattle.canonical_json.specs.Value.{object}
use Rattle.canonical_json.specs.View.{Entry, members_of}
use Rattle.rehearsal.specs.Summary.{words}
use Rattle.rehearsal.proofs.summary.replies_json.Goals as goal

pub returns : goal.returns
unfolding words
returns c =
    c.object_json.ensures ∙ ap (λ (es : List Entry). object (members_of es)) c.in_ok-counts.ensures
