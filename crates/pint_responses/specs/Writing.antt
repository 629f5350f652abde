-- The one value that a response is written as, without further members.
use Rattle.std.specs.Prelude.{ℕ, List, [], ◌∷◌, codes, option_and_then}
use Rattle.canonical_json.specs.Value.{Value, flag, text, object, Members, no_members, member}
use Rattle.canonical_json.specs.View.{Entry}
use Rattle.json_forms.specs.Writing.{checksum_value, checksums_value, optional_member, capped_value, signed_value}
use Rattle.ebl_base.specs.Code.{response_code_text}
use Rattle.ebl_base.specs.Reason.{reason_index, reason_text}
use Rattle.ebl_base.specs.declared.code.Code.{Code}
use Rattle.ebl_base.specs.declared.reason.Reason.{Reason}
use Rattle.pint_responses.specs.declared.response.Response.{Response}

-- for private clauses: members in front of others
abbrev pub in_front : List Entry → Members → Members
in_front [] rest = rest
in_front (entry ∷ entries) rest = member entry.0 entry.1 (in_front entries rest)

-- the place of an entry; what no canonical number is, is written as the greatest one
abbrev pub place_value : ℕ → Value
place_value = capped_value

abbrev pub code_value : Code → Value
code_value code = text (response_code_text code)

abbrev pub reason_value : Reason → Value
reason_value reason = text (reason_text reason)

-- the members, in the order of their names
abbrev pub response_members : Response → Members
response_members r =
    optional_member (codes "bill") checksum_value r.bill
    (optional_member (codes "index") place_value (option_and_then reason_index r.reason)
    (optional_member (codes "last") checksum_value r.last
    (member (codes "missing") (checksums_value r.missing)
    (optional_member (codes "own") signed_value r.evidence.own
    (optional_member (codes "reason") reason_value r.reason
    (member (codes "responseCode") (code_value r.code)
    (member (codes "standing") (flag r.standing)
    (optional_member (codes "theirs") signed_value r.evidence.theirs no_members))))))))

-- a response as a value
abbrev pub response_value : Response → Value
response_value r = object (response_members r)
