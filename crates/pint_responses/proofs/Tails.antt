-- The members of a response, from each one on.
use Rattle.std.proofs.Common.{codes}
use Rattle.std.specs.Prelude.{option_and_then}
use Rattle.canonical_json.specs.Value.{flag, Members, no_members, member}
use Rattle.json_forms.specs.Writing.{checksum_value, checksums_value, optional_member, signed_value}
use Rattle.ebl_base.specs.Reason.{reason_index}
use Rattle.pint_responses.specs.Writing.{code_value, place_value, reason_value}
use Rattle.pint_responses.specs.declared.response.Response.{Response}

abbrev pub from_theirs : Response → Members
from_theirs r = optional_member (codes "theirs") signed_value r.evidence.theirs no_members

abbrev pub from_standing : Response → Members
from_standing r = member (codes "standing") (flag r.standing) (from_theirs r)

abbrev pub from_code : Response → Members
from_code r = member (codes "responseCode") (code_value r.code) (from_standing r)

abbrev pub from_reason : Response → Members
from_reason r = optional_member (codes "reason") reason_value r.reason (from_code r)

abbrev pub from_own : Response → Members
from_own r = optional_member (codes "own") signed_value r.evidence.own (from_reason r)

abbrev pub from_missing : Response → Members
from_missing r = member (codes "missing") (checksums_value r.missing) (from_own r)

abbrev pub from_last : Response → Members
from_last r = optional_member (codes "last") checksum_value r.last (from_missing r)

abbrev pub from_index : Response → Members
from_index r = optional_member (codes "index") place_value (option_and_then reason_index r.reason) (from_last r)
