-- What a sink in memory shows.
use Rattle.std.specs.Prelude.{ℕ, Bool, List}
use Rattle.ebl_base.specs.Calls.{CallsRecord}

-- the bytes that were written, whether half of a piece goes in at a call that is to fail, and its calls
pub record SinkRecord : Type 0 where
  pub written : List ℕ
  pub tears : Bool
  pub calls : CallsRecord
