-- How a bill stands, as its line says it: the length of its longest accepted chain, whether accepted chains part ways,
-- and who has possession.
use Rattle.std.specs.Prelude.{List, length, option_map}
use Rattle.ebl_base.specs.declared.platform_code.PlatformCode.{PlatformCode}
use Rattle.title_fold.specs.Title.{possessor}
use Rattle.closed_family.specs.Closed.{Histories}
use Rattle.closed_family.specs.Longest.{longest_accepted}
use Rattle.bill_lines.specs.Bills.{is_forked, title_of}
use Rattle.bill_lines.specs.declared.standing.Standing.{Standing}

-- by the bill's histories on these platforms
abbrev pub standing_by : Histories → List PlatformCode → Standing
standing_by at platforms = record {
  entries = length (longest_accepted at platforms);
  forked = is_forked at platforms;
  possessor = option_map possessor (title_of at platforms);
}
