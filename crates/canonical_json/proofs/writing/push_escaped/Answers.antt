use Rattle.std.proofs.Common.{[], ◌∷◌, ◌++◌, ◌+◌, drop, rules, sym, ap, ◌∙◌, append-nil}
use Rattle.std.proofs.lemmas.Result.{on_ok_weaker}
use Rattle.json.specs.Print.{escape}
use Rattle.json.proofs.Printed.Strings.{escape_to_stop, escape_at, escape_end}
use Rattle.json.proofs.Printed.Room.{moved}
use Rattle.canonical_json.proofs.writing.push_escaped.Goals as goal

pub returns-then-stop-text : goal.returns-then-stop-text
returns-then-stop-text c =
    let text = c.args.text.now in
    let stop = c.plain_end-stop.result in
    let mid = moved _ _ _ _ _ _ c.in_ok-push_bytes.ensures (escape_to_stop text c.loop-out.at stop (34 ∷ []) c.plain_end-stop.ensures.value) c.loop-out.invariant.1 in
    on_ok_weaker c.push_byte-then-stop-text.result
    (λ e. sym (append-nil _) ∙ moved _ _ (34 ∷ []) [] _ _ e (escape_end text stop (34 ∷ []) (search rules)) mid)
    c.push_byte-then-stop-text.ensures

pub loop-out-preserved : goal.loop-out-preserved
loop-out-preserved c =
    let text = c.args.text.now in
    let stop = c.plain_end-stop.result in
    let mid = moved _ _ _ _ _ _ c.in_ok-push_bytes.ensures (escape_to_stop text c.loop-out.at stop (34 ∷ []) c.plain_end-stop.ensures.value) c.loop-out.invariant.1 in
    let split = escape_at text stop (34 ∷ []) (search rules) ∙ ap (λ l. l ++ (escape (drop (stop + 1) text) ++ 34 ∷ [])) (sym c.escape_of-len.ensures.value) in (
      search rules,
      moved _ _ _ _ _ _ c.in_ok-push_bytes-2.ensures split mid,
    )
