-- The line of a bill: one object of canonical JSON, and a line feed.
use Rattle.std.specs.Prelude.{ℕ, Bool, List, [], ◌∷◌, ◌++◌, Option, Some, None, length, codes}
use Rattle.ebl_base.specs.declared.platform_code.PlatformCode.{PlatformCode}
use Rattle.canonical_json.specs.Value.{flag, list, text}
use Rattle.canonical_json.specs.View.{Entry}
use Rattle.json_forms.specs.Writing.{capped_value, party_value, platform_value, each_written}
use Rattle.title_fold.specs.Title.{possessor, title_holder}
use Rattle.title_fold.specs.declared.title.Title.{Title}
use Rattle.reply_forms.specs.Words.{state_text}
use Rattle.closed_family.specs.Closed.{Histories}
use Rattle.closed_family.specs.Longest.{longest_accepted}
use Rattle.answer_lines.specs.Lines.{members_line, optional}
use Rattle.bill_lines.specs.Bills.{acting, end_of, is_forked, title_of}

-- who may act, the bill's number, where its longest accepted chain ends, how many entries that has, and whether
-- accepted chains part ways
abbrev pub front_members : List PlatformCode → ℕ → Option PlatformCode → ℕ → Bool → List Entry
front_members acts number end entries forked =
    (codes "acts", list (each_written platform_value acts)) ∷ (codes "bill", capped_value number)
    ∷ optional (codes "end") platform_value end
    ++ (codes "entries", capped_value entries) ∷ (codes "forked", flag forked) ∷ []

-- who has the bill, if there is a title
abbrev pub title_members : Option Title → List Entry
title_members None = []
title_members (Some title) =
    (codes "holder", party_value (title_holder title)) ∷ (codes "possessor", party_value (possessor title))
    ∷ (codes "state", text (state_text title)) ∷ []

-- the bill of this number, by its histories on these platforms, of which those whose shard isn't loose are settled
abbrev pub bill_members : ℕ → Histories → List PlatformCode → List PlatformCode → List Entry
bill_members number at platforms settled =
    front_members (acting at settled) number (end_of at platforms) (length (longest_accepted at platforms))
    (is_forked at platforms)
    ++ title_members (title_of at platforms)

abbrev pub bill_line : ℕ → Histories → List PlatformCode → List PlatformCode → List ℕ
bill_line number at platforms settled = members_line (bill_members number at platforms settled)
