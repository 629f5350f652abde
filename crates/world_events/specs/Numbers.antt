-- Numbers of messages and of bills, as the line of an event shows them.
use Rattle.std.specs.Prelude.{ℕ, ◌+◌, ◌-◌, List, [], ◌∷◌, Option, Some, None, if◌then◌else◌}
use Rattle.std.specs.List.{range_with_len}
use Rattle.ebl_base.specs.Checksum.{checksum_eq}
use Rattle.ebl_base.specs.declared.checksum.Checksum.{Checksum}
use Rattle.platform_requests.specs.declared.reply.Reply.TheVariants.{Done}
use Rattle.answer_lines.specs.declared.answer.Answer.{Answer}
use Rattle.answer_lines.specs.declared.answer.Answer.TheVariants.{Replied}

-- the numbers of what was sent by an event, where this many were sent before and so many afterwards
abbrev pub numbers_sent : ℕ → ℕ → List ℕ
numbers_sent before after = range_with_len (before + 1) (after - before)

-- the number of a bill among those that the script signed, counted from this one
abbrev pub number_from : ℕ → Checksum → List Checksum → Option ℕ
number_from n bill [] = None
number_from n bill (name ∷ names) = if checksum_eq name bill then Some n else number_from (n + 1) bill names

-- the number of the bill that an answer shows, if the script signed it
abbrev pub number_shown : List Checksum → Answer → Option ℕ
number_shown signed (Replied (Done view)) = number_from 1 view.bill signed
number_shown signed answer = None
