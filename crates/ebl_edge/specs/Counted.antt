-- What the adapters over std's readers and writers show.
use Rattle.std.specs.Prelude.{ℕ}

-- a reader or a writer, and how often a call of it failed
pub record Counted (Inner : Type 0) : Type 0 where
  pub inner : Inner
  pub faults : ℕ
