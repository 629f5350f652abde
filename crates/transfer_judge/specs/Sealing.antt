-- What a judgement's answer is to hold so that it can be sealed.
use Rattle.std.specs.Prelude.{◌≤◌, length}
use Rattle.ebl_base.specs.declared.limits.TheConstants.{MAX_DOCUMENTS}
use Rattle.bill_diary.specs.Texts.{AreCompact}
use Rattle.transfer_judge.specs.declared.judgement.Judgement.{Judgement}
use Rattle.transfer_judge.specs.declared.judgement.Judgement.TheVariants.{Declined, Parts, Missing}

-- evidence is compact, and at most 16 documents are missing
abbrev pub CanBeSealed : Judgement → Type 0
CanBeSealed (Declined code reason evidence) = AreCompact evidence
CanBeSealed (Parts evidence) = AreCompact evidence
CanBeSealed (Missing checksums) = length checksums ≤ MAX_DOCUMENTS
CanBeSealed judgement = Unit {0}
