-- What an answer reports of its turn.
use Rattle.bill_locks.specs.declared.job.Told.{Told}
use Rattle.platform_office.specs.declared.served.Served.{Served}
use Rattle.platform_office.specs.Served.{is_disk, is_sign}

-- how many frames there were before the turn's own and afterwards, and whether disk or ring failed
abbrev pub told_by : Served → Told
told_by s = record {
  before = s.before;
  after = s.after;
  failed = is_disk s.outcome.reply;
  unsigned = is_sign s.outcome.reply;
}
