-- A text that is refused has no value, and no text has two.
use Rattle.std.proofs.Common.{◌≡◌, ℕ, List, Ok, Err, Result}
use Rattle.canonical_json.specs.Value.{Value}
use Rattle.canonical_json.specs.Reading.{Reads, IsFault, value_in}
use Rattle.canonical_json.specs.declared.fault.ReadError.{ReadError}
use Rattle.canonical_json.specs.declared.fault.ReadError.TheVariants.{NotJson, Repeated, Fraction, Range}

not_both : (r : Result Value ReadError) (e : ReadError) (v : Value) → r ≡ Err e → r ≡ Ok v → ⊥
not_both r e v p q = cc

pub none_for_no_json : (bytes : List ℕ) → IsFault bytes NotJson → (v : Value) → ¬ Reads bytes v
none_for_no_json bytes fault v reads = not_both (value_in bytes) NotJson v fault reads

pub none_for_repeated : (bytes : List ℕ) → IsFault bytes Repeated → (v : Value) → ¬ Reads bytes v
none_for_repeated bytes fault v reads = not_both (value_in bytes) Repeated v fault reads

pub none_for_fraction : (bytes : List ℕ) → IsFault bytes Fraction → (v : Value) → ¬ Reads bytes v
none_for_fraction bytes fault v reads = not_both (value_in bytes) Fraction v fault reads

pub none_for_range : (bytes : List ℕ) → IsFault bytes Range → (v : Value) → ¬ Reads bytes v
none_for_range bytes fault v reads = not_both (value_in bytes) Range v fault reads
