-- How a bill stands in a world.
use Rattle.ebl_base.specs.declared.checksum.Checksum.{Checksum}
use Rattle.bill_lines.specs.Standing.{standing_by}
use Rattle.bill_lines.specs.declared.standing.Standing.{Standing}
use Rattle.closed_family.specs.Family.{histories_of}
use Rattle.platform_world.specs.World.{WorldRecord, family_of, platforms_of}

-- by its histories on all platforms, as its line says it
abbrev pub standing_in : WorldRecord → Checksum → Standing
standing_in w bill = standing_by (histories_of bill (family_of w)) (platforms_of w)
