use Rattle.std.proofs.Common.{sym, ◌∙◌}
use Rattle.ebl_base.specs.Signature.{signature_bytes}
use Rattle.signed_envelope.proofs.PartsLemmas.{header_part, three_parts, one_stop, no_signature}
use Rattle.signed_envelope.proofs.compact.split.Goals as goal

pub returns-in_default-cut-clause-not_compact : goal.returns-in_default-cut-clause-not_compact
returns-in_default-cut-clause-not_compact c _ parts is =
    one_stop _ _ parts _ _ c.in-Some.ensures.found.0 c.in-Some.ensures.found.1 c.in_default-cut.ensures.none is

pub returns-in_err-header-clause-not_compact : goal.returns-in_err-header-clause-not_compact
returns-in_err-header-clause-not_compact c e parts is =
    let first = header_part _ _ parts _ _ c.in-Some.ensures.found.0 c.in-Some.ensures.found.1 is in
    let told = rw e at c.from_residual.ensures.1 in
    c.in_err-header.ensures.other (cc told) parts.header is.header first.0

pub returns-in_err-payload-clause-not_compact : goal.returns-in_err-payload-clause-not_compact
returns-in_err-payload-clause-not_compact c e parts is =
    let found = c.in-Some.ensures.found in
    let second = c.in-Some-cut.ensures.found in
    let three = three_parts _ _ parts _ _ _ _ found.0 found.1 second.0 second.1 is in
    let told = rw e at c.from_residual-in_err-payload.ensures.1 in
    c.in_err-payload.ensures.other (cc told) parts.payload is.payload three.1

pub returns-in_err-signature-clause-not_compact : goal.returns-in_err-signature-clause-not_compact
returns-in_err-signature-clause-not_compact c e parts is =
    let found = c.in-Some.ensures.found in
    let second = c.in-Some-cut.ensures.found in
    let three = three_parts _ _ parts _ _ _ _ found.0 found.1 second.0 second.1 is in
    let told = rw e at c.from_residual-in_err-signature.ensures.1 in
    c.in_err-signature.ensures.other (cc told) (signature_bytes parts.signature) is.signature.bytes three.2

pub returns-in-None-clause-not_compact : goal.returns-in-None-clause-not_compact
returns-in-None-clause-not_compact c _ parts is =
    let found = c.in-Some.ensures.found in
    let second = c.in-Some-cut.ensures.found in
    let three = three_parts _ _ parts _ _ _ _ found.0 found.1 second.0 second.1 is in
    let bytes = c.in_ok-signature.ensures.ok in
    let none = rw c.as_slice.ensures at c.in-None.ensures.value in
    no_signature parts c.in_ok-signature.signature bytes.0 (sym bytes.1 ∙ three.2) none is.signature
