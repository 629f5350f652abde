-- What settles a bill that is parting.
use Rattle.std.specs.Prelude.{Bool, true, false}
use Rattle.bill_diary.specs.declared.record.Record.{Record}
use Rattle.bill_diary.specs.declared.record.Record.TheVariants.{Settled, Regained}

-- whether a record does: the bill went where it was sent, or its possessor here has it again
abbrev pub is_settlement : Record → Bool
is_settlement (Settled bill entry) = true
is_settlement (Regained bill entry) = true
is_settlement r = false
