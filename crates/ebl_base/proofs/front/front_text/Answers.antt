use Rattle.std.proofs.Common.{Result, Ok, Err, refl}
use Rattle.std.specs.Prelude.{MatchResult, IsOk}
use Rattle.std.proofs.lemmas.Str.{IsUtf8-from_ascii}
use Rattle.ebl_base.proofs.front.front_text.Goals as goal

-- what is refused only for bytes that are no text is not refused for a text
ok_for_text : {T E : Type 0} (P : T → Type 0) (U : Type 0) (Q : E → Type 0) (r : Result T E) → MatchResult r P (λ e. (¬ U) × Q e) → U → IsOk r
ok_for_text P U Q (Ok x) cases text = refl
ok_for_text P U Q (Err e) cases text = absurd (cases.0 text)

pub unwrap-requires : goal.unwrap-requires
unwrap-requires c = ok_for_text _ _ _ c.from_utf8.result c.from_utf8.ensures.cases (IsUtf8-from_ascii _ c.requires.ascii)
