-- What a survey of a family finds.
use Rattle.std.specs.Prelude.{◌≡◌, List, Some, None}
use Rattle.closed_family.specs.declared.family.Member.{Member}
use Rattle.closed_family.specs.declared.verdict.Verdict.{Verdict}
use Rattle.closed_family.specs.declared.verdict.Verdict.TheVariants.{Consistent, SameName, Lacks}
use Rattle.closed_family.specs.Lacking.{first_of, lacking}
use Rattle.closed_family.specs.Texts.{texts_in, AreDistinct, IsSharedFirst}

-- first the names of the whole family, then the first record that it lacks
abbrev pub IsVerdict : List Member → Verdict → Type 0
IsVerdict family Consistent = AreDistinct (texts_in family) × (first_of (lacking family) ≡ None)
IsVerdict family (SameName name) = IsSharedFirst (texts_in family) name
IsVerdict family (Lacks platform what text) =
    AreDistinct (texts_in family)
    × (first_of (lacking family) ≡ Some (record { platform = platform; what = what; text = text }))
