-- How contracts see what a shard wrote down.
use Rattle.journaled_shard.specs.declared.written.Written.{Written}
use Rattle.journaled_shard.specs.Written.{WrittenRecord}

abbrev pub written_view : {D : Type 0} → Written D → WrittenRecord D
written_view w = record { diary = w.register.diary; loose = w.loose; unread = w.unread; journal = w.journal }
