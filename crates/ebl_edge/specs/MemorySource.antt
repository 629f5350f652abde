-- What a source in memory shows.
use Rattle.std.specs.Prelude.{ℕ, List}
use Rattle.ebl_base.specs.Calls.{CallsRecord}

-- the bytes that are left, and its calls
pub record SourceRecord : Type 0 where
  pub left : List ℕ
  pub calls : CallsRecord
