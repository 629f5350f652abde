-- The written form of a command: the one value without further members, with the names in order.
use Rattle.std.specs.Prelude.{codes}
use Rattle.canonical_json.specs.Value.{Value, text, object, no_members, member}
use Rattle.json_forms.specs.Writing.{checksum_value, party_value, optional_member}
use Rattle.json_forms.specs.Bytes.{bytes_value}
use Rattle.chain_entry.specs.Writing.{kind_value}
use Rattle.holder_commands.specs.Command.{CommandRecord, signs, acts, attaches}

abbrev pub command_value : CommandRecord → Value
command_value (signs document) =
    object (member (codes "do") (text (codes "SIGN"))
    (member (codes "document") document no_members))
command_value (acts bill kind recipient) =
    object (member (codes "bill") (checksum_value bill)
    (member (codes "do") (kind_value kind)
    (optional_member (codes "recipient") party_value recipient no_members)))
command_value (attaches bill name media bytes) =
    object (member (codes "bill") (checksum_value bill)
    (member (codes "bytes") (bytes_value bytes)
    (member (codes "do") (text (codes "ATTACH"))
    (member (codes "media") (text media)
    (member (codes "name") (text name) no_members)))))
