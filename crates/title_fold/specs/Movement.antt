-- A transaction moves a bill where the possessor's platform after it is another than before it.
use Rattle.std.specs.Prelude.{Bool, false, not, Option, Some, None}
use Rattle.ebl_base.specs.PlatformCode.{code_eq}
use Rattle.title_fold.specs.declared.title.Title.{Title}
use Rattle.title_fold.specs.Title.{possessor}

-- whether the step from one title to the next moves; the first, a SIGN, doesn't
abbrev pub moves : Option Title → Title → Bool
moves None after = false
moves (Some before) after = not (code_eq (possessor before).platform (possessor after).platform)
