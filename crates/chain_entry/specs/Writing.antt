-- The written form of a transaction and of an entry: the one value without further members, with the names in order.
use Rattle.std.specs.Prelude.{codes}
use Rattle.canonical_json.specs.Value.{Value, text, list, object, no_members, member}
use Rattle.json_forms.specs.Writing.{capped_value, each_written, platform_value, party_value, checksum_value, optional_member}
use Rattle.ebl_base.specs.Kind.{kind_text}
use Rattle.ebl_base.specs.Moment.{moment_number}
use Rattle.ebl_base.specs.declared.kind.Kind.{Kind}
use Rattle.ebl_base.specs.declared.transaction.Transaction.{Transaction}
use Rattle.ebl_base.specs.declared.entry.Entry.{Entry}

-- a kind is its text
abbrev pub kind_value : Kind → Value
kind_value kind = text (kind_text kind)

abbrev pub transaction_value : Transaction → Value
transaction_value t =
    object (member (codes "actor") (party_value t.actor)
    (member (codes "kind") (kind_value t.kind)
    (optional_member (codes "recipient") party_value t.recipient
    (member (codes "time") (capped_value (moment_number t.time)) no_members))))

abbrev pub entry_value : Entry → Value
entry_value entry =
    object (member (codes "attempt") (capped_value entry.attempt)
    (member (codes "bill") (checksum_value entry.bill)
    (member (codes "platform") (platform_value entry.platform)
    (optional_member (codes "previous") checksum_value entry.previous
    (member (codes "transactions") (list (each_written transaction_value entry.transactions)) no_members)))))
