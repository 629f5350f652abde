-- The calls of an object in memory that is to fail at some of them.
use Rattle.std.specs.Prelude.{ℕ, Bool, List, if◌then◌else◌}
use Rattle.ebl_base.specs.Faults.{risen}

-- which calls are to fail, by their numbers from 0; how many came; how many failed
pub record CallsRecord : Type 0 where
  pub fails : List ℕ
  pub number : ℕ
  pub faults : ℕ

-- after a call
abbrev pub after_call : Bool → CallsRecord → CallsRecord
after_call failed calls =
    record calls { number = risen calls.number; faults = if failed then risen calls.faults else calls.faults }
