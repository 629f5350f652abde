-- The texts of the nine rules.
use Rattle.std.specs.Prelude.{ℕ, List, codes}
use Rattle.title_fold.specs.declared.refusal.FoldRefusal.{FoldRefusal}
use Rattle.title_fold.specs.declared.refusal.FoldRefusal.TheVariants.{F1, F2, F3, F4, F5, F6, F7, F8, F9}

-- the name of a rule
abbrev pub refusal_text : FoldRefusal → List ℕ
refusal_text F1 = codes "F1"
refusal_text F2 = codes "F2"
refusal_text F3 = codes "F3"
refusal_text F4 = codes "F4"
refusal_text F5 = codes "F5"
refusal_text F6 = codes "F6"
refusal_text F7 = codes "F7"
refusal_text F8 = codes "F8"
refusal_text F9 = codes "F9"
