use Rattle.std.proofs.Common.{◌≡◌, List, [], ◌∷◌, ◌++◌, ap, map, sym, ◌∙◌, subst, length}
use Rattle.std.specs.Prelude.{IfOk, codes, sum_by}
use Rattle.std.specs.List.{list_any}
use Rattle.std.proofs.lemmas.List.{length-map}
use Rattle.json_forms.specs.Writing.{capped_value}
use Rattle.canonical_json.specs.Value.{flag}
use Rattle.canonical_json.specs.View.{Entry, view}
use Rattle.answer_lines.specs.Lines.{members_line}
use Rattle.bill_lines.specs.declared.standing.Standing.{Standing}
use Rattle.platform_world.specs.State.{world_of}
use Rattle.rehearsal.specs.Summary.{totals_members}
use Rattle.rehearsal.proofs.Counts.{summed}
use Rattle.rehearsal.proofs.summary.summary_line.Goals as goal

pub returns : goal.returns
returns g c =
    let totals : List Entry = totals_members c.args.bills c.entries.result (length c.args.answers.now) in
    let fork : List Entry = (codes "forked", flag c.forks.result) ∷ [] in
    let told : List Entry = (codes "replies", view c.in_ok-replies.replies) ∷ [] in
    subst (λ (es : List Entry). IfOk c.into_line.result (λ line. line ≡ members_line es))
    (c.in_ok-put.ensures
    ∙ ap (λ (es : List Entry). es ++ told)
    (c.in_ok-put_fork.ensures
    ∙ ap (λ (es : List Entry). es ++ fork)
    (c.in_ok-put_totals.ensures ∙ ap (λ (es : List Entry). es ++ totals) c.new-row.ensures))
    ∙ summed c.args.bills (world_of g.M.Machine.seen c.args.world.now) (map (λ a. a.now) c.args.answers.now)
    c.entries.result (length c.args.answers.now) c.forks.result (view c.in_ok-replies.replies)
    c.in_ok-standings.standings.items c.in_ok-standings.ensures
    (c.entries.ensures
    ∙ ap (λ (xs : List Standing). capped_value (sum_by (λ s. s.entries) xs)) c.as_slice.ensures.value)
    (sym (length-map c.args.answers.now (λ a. a.now)))
    (c.forks.ensures ∙ ap (list_any (λ (s : Standing). s.forked)) c.as_slice-2.ensures.value)
    c.in_ok-replies.ensures)
    c.into_line.ensures
