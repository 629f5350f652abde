-- How a lacking record is named in a report.
use Rattle.std.specs.Prelude.{ℕ, List, codes}
use Rattle.closed_family.specs.declared.verdict.Lack.{Lack}
use Rattle.closed_family.specs.declared.verdict.Lack.TheVariants.{Parted, Taken, Declined}

abbrev pub lack_text : Lack → List ℕ
lack_text Parted = codes "PARTED"
lack_text Taken = codes "TAKEN"
lack_text Declined = codes "DECLINED"
