-- The step of a title: what a transaction makes of it, or the first rule that refuses.
use Rattle.std.specs.Prelude.{Option, Some, None, Result, Ok, Err, unwrap_or}
use Rattle.ebl_base.specs.declared.party.Party.{Party}
use Rattle.ebl_base.specs.declared.transaction.Transaction.{Transaction}
use Rattle.title_fold.specs.declared.title.Title.{Title}
use Rattle.title_fold.specs.declared.title.Title.TheVariants.{Signed}
use Rattle.title_fold.specs.declared.refusal.FoldRefusal.{FoldRefusal}
use Rattle.title_fold.specs.Table.{table}
use Rattle.title_fold.specs.Rules.{first_refusal}

-- the recipient; the actor stands for it in the kinds that have none, whose effects don't look at it
abbrev pub recipient_of : Transaction → Party
recipient_of t = unwrap_or t.recipient t.actor

-- the title after a transaction that no rule refuses; if there was no title that is a SIGN
abbrev pub title_after : Option Title → Transaction → Title
title_after None t = Signed t.actor
title_after (Some title) t = (table t.kind).effect title t.actor (recipient_of t)

-- the title, unless a rule refuses
abbrev pub unless : Option FoldRefusal → Title → Result Title FoldRefusal
unless None title = Ok title
unless (Some rule) title = Err rule

-- the step: the first rule that applies refuses, else the table's row says the title after
abbrev pub step_title : Option Title → Transaction → Result Title FoldRefusal
step_title before t = unless (first_refusal before t) (title_after before t)
