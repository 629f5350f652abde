use Rattle.std.proofs.Common.{arith}
use Rattle.upload_state.specs.Started.{started_value}
use Rattle.upload_state.proofs.StartedLemmas.{started_of-started_value, IsLawful-started, HasTexts-started, depth-started}
use Rattle.upload_state.proofs.laws.written_answers_read_back.Goals as goal

pub returns : goal.returns
returns c started h =
    let deep = depth-started started in (
      started_value started,
      c.canonical_reads.ensures (started_value started) (IsLawful-started started) (HasTexts-started started)
          (omega arith),
      started_of-started_value started h,
    )
