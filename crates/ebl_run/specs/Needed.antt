-- How many racks a command needs.
use Rattle.std.specs.Prelude.{ℕ, List, Option, Some, None}
use Rattle.ebl_base.specs.Segments.{segments_of}
use Rattle.rehearsal.specs.Roster.{made_roster}
use Rattle.ebl_run.specs.declared.command.Command.{Command}
use Rattle.ebl_run.specs.declared.command.Command.TheVariants.{Drive, Canon, Rehearse}
use Rattle.ebl_run.specs.Drive.{racks_for, racks_needed}

-- `drive` those of its script's roster, and a rehearsal those of its own
abbrev pub racks_wanted : Command → List ℕ → ℕ
racks_wanted Drive script = racks_for (segments_of 10 script)
racks_wanted Canon text = 0
racks_wanted (Rehearse seed bills steps) text = racks_needed made_roster

abbrev pub racks_wanted_by : Option Command → List ℕ → ℕ
racks_wanted_by None text = 0
racks_wanted_by (Some command) text = racks_wanted command text
