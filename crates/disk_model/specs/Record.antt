-- What the disks in memory show.
use Rattle.std.specs.Prelude.{ℕ, List}
use Rattle.ebl_base.specs.Calls.{CallsRecord}
use Rattle.disk_model.specs.Event.{Event}

-- the bytes at the start, what a read gives now, the events between; and for how many bytes of writes and how many
-- events there is preallocated room
pub record LogRecord : Type 0 where
  pub start : List ℕ
  pub seen : List ℕ
  pub events : List Event
  pub byte_room : ℕ
  pub event_room : ℕ

-- a disk with a list of failing calls: as above without room, its calls, and the numbers of the failing writes whose
-- bytes go in
pub record DiskRecord : Type 0 where
  pub start : List ℕ
  pub seen : List ℕ
  pub events : List Event
  pub calls : CallsRecord
  pub done : List ℕ

-- a disk of fixed capacity: its log, and how often that capacity was too little
pub record RoomRecord : Type 0 where
  pub log : LogRecord
  pub faults : ℕ
