use Rattle.std.proofs.Common.{ℕ, List, Bor, map, arith}
use Rattle.rehearsal.proofs.Counts.{count_more}
use Rattle.rehearsal.proofs.summary.counts.Goals as goal

pub loop-word-preserved : goal.loop-word-preserved
loop-word-preserved c =
    count_more (map (λ a. a.now) c.args.answers.now) (λ (w : Bor (List ℕ)). w.now) c.args.words.now
    c.loop-word.word-index _ c.times.result _ _ (omega arith) c.loop-word.invariant c.times.ensures
    c.in_ok-put_count.ensures
