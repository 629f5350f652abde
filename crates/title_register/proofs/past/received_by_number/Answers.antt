-- The last Begun with a reference is the last of its bill and entry.
use Rattle.std.proofs.Common.{◌≡◌, true, sym, ap, ◌∙◌}
use Rattle.ebl_base.specs.Checksum.{checksum_eq}
use Rattle.ebl_base.specs.Reference.{reference_of}
use Rattle.ebl_base.specs.declared.reference.Reference.{Reference}
use Rattle.ebl_base.proofs.ChecksumLemmas.{checksum_eq-Decides}
use Rattle.bill_chain.specs.Chain.{ends_in}
use Rattle.bill_diary.specs.Sound.{has_reference}
use Rattle.title_register.specs.declared.frame_key.FrameKey.TheVariants as keys
use Rattle.title_register.specs.Frames.{has, last_number, record_numbered}
use Rattle.title_register.proofs.PastLemmas.{received_by}
use Rattle.title_register.proofs.past.received_by_number.Goals as goal

pub returns-then-ends_in : goal.returns-then-ends_in
returns-then-ends_in c =
    let frames = c.args.frames.now in
    let bill = c.args.bill in
    let entry = c.args.entry in
    let begun = c.in_ok-begun.begun in
    let chain = begun.chain.now in
    let found = c.in_ok-begun.ensures in
    let number_is : c.number-number.result ≡ last_number (has (has_reference (reference_of bill entry))) frames =
    c.number-number.ensures ∙ c.requires (keys.Begun c.reference_of.result)
    ∙ ap (λ (r : Reference). last_number (has (has_reference r)) frames) c.reference_of.ensures.value in
    let named : checksum_eq begun.bill bill ≡ true = cc in
    let ends : ends_in entry chain ≡ true =
    sym (ap (ends_in entry) c.as_slice.ensures) ∙ sym c.ends_in.ensures ∙ c.if-ends_in.true in
    received_by bill entry frames begun.bill chain begun.manifest.now found.0
    (ap (record_numbered frames) (sym number_is) ∙ found.1) ((checksum_eq-Decides begun.bill bill).0 named) ends
