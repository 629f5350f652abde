-- Answers to other platforms: what they are about, how a refusal is said, and when a reply is one, sealed.
use Rattle.std.specs.Prelude.{◌≡◌, ◌≤◌, ℕ, Bool, false, List, [], Option, Some, None, length}
use Rattle.ebl_base.specs.declared.limits.TheConstants.{MAX_SEALED_RESPONSE}
use Rattle.ebl_base.specs.Reason.{code_for}
use Rattle.ebl_base.specs.Reference.{reference_of}
use Rattle.ebl_base.specs.declared.checksum.Checksum.{Checksum}
use Rattle.ebl_base.specs.declared.code.Code.{Code}
use Rattle.ebl_base.specs.declared.code.Code.TheVariants as codes
use Rattle.ebl_base.specs.declared.evidence.Evidence.{Evidence}
use Rattle.ebl_base.specs.declared.platform_code.PlatformCode.{PlatformCode}
use Rattle.ebl_base.specs.declared.reason.Reason.{Reason}
use Rattle.ebl_base.specs.declared.reference.Reference.{Reference}
use Rattle.ebl_base.specs.declared.signature.Signature.{Signature}
use Rattle.signed_envelope.specs.KeyRing.{Keys}
use Rattle.signed_envelope.specs.SignedText.{IsComposed}
use Rattle.envelope_manifest.specs.declared.manifest.Manifest.{Manifest}
use Rattle.pint_responses.specs.Writing.{response_value}
use Rattle.pint_responses.specs.declared.response.Response.{Response}
use Rattle.platform_requests.specs.declared.reply.Reply.{Reply}
use Rattle.platform_requests.specs.declared.reply.Reply.TheVariants.{Answer}
use Rattle.platform_machine.specs.declared.refusal.Refusal.{Refusal}
use Rattle.platform_machine.specs.declared.subject.Subject.{Subject}

-- ---- what an answer is about

-- the bill and the last entry that a manifest names
abbrev pub subject_of : Manifest → Subject
subject_of manifest = record { bill = manifest.bill; last = manifest.last }

-- the reference under which its documents are sent
abbrev pub reference_for : Subject → Reference
reference_for subject = reference_of subject.bill subject.last

-- ---- responses

abbrev pub no_evidence : Evidence
no_evidence = record { own = None; theirs = None }

abbrev pub response_with : Subject → Code → Bool → Option Reason → List Checksum → Evidence → Response
response_with subject code standing reason missing evidence = record {
  code = code;
  bill = Some subject.bill;
  last = Some subject.last;
  standing = standing;
  reason = reason;
  missing = missing;
  evidence = evidence;
}

-- how the refusal of a body is answered: with the code of its reason
abbrev pub refusal_response : Refusal → Response
refusal_response r = record {
  code = code_for r.reason;
  bill = r.bill;
  last = r.last;
  standing = false;
  reason = Some r.reason;
  missing = [];
  evidence = no_evidence;
}

-- how a document that isn't stored is answered
abbrev pub document_response : Subject → Reason → Response
document_response s reason = response_with s codes.InconsistentDocument false (Some reason) [] no_evidence

-- the reply is the response, sealed by this platform; the signature is any that the keys take
pub record IsAnswer (keys : Keys) (me : PlatformCode) (response : Response) (reply : Reply) : Type 0 where
  pub text : List ℕ
  pub reply_is : reply ≡ Answer response (record { 0 = text })
  pub signature : Signature
  pub composed : IsComposed keys text me (response_value response) signature
  pub fits : length text ≤ MAX_SEALED_RESPONSE
