-- The words of replies, and of the reasons why another platform's reply is ignored, in answer lines.
use Rattle.std.specs.Prelude.{ℕ, List, codes}
use Rattle.ebl_base.specs.Code.{response_code_text}
use Rattle.platform_requests.specs.declared.ignore_reason.IgnoreReason.{IgnoreReason}
use Rattle.platform_requests.specs.declared.ignore_reason.IgnoreReason.TheVariants as ignored
use Rattle.platform_requests.specs.declared.reply.Reply.{Reply}
use Rattle.platform_requests.specs.declared.reply.Reply.TheVariants.{Done, Started, Stored, Answer, UnknownReference, NotOurs, Document, NotCarrier, KnownBill, NotHere, NoParty, NotAllowed, Limit, Ignored, NotParting, Sign, Full, Disk, Damaged, NoMemory}

abbrev pub ignore_text : IgnoreReason → List ℕ
ignore_text ignored.NotParting = codes "NOT_PARTING"
ignore_text ignored.Form = codes "FORM"
ignore_text ignored.Reference = codes "REFERENCE"
ignore_text ignored.Signature = codes "SIGNATURE"
ignore_text ignored.OtherEntry = codes "OTHER_ENTRY"
ignore_text ignored.Passing = codes "PASSING"

-- of a signed answer, its code
abbrev pub reply_text : Reply → List ℕ
reply_text (Done view) = codes "DONE"
reply_text (Started reference missing) = codes "STARTED"
reply_text Stored = codes "STORED"
reply_text (Answer response text) = response_code_text response.code
reply_text UnknownReference = codes "UNKNOWN_REFERENCE"
reply_text NotOurs = codes "NOT_OURS"
reply_text (Document fault) = codes "DOCUMENT"
reply_text NotCarrier = codes "NOT_CARRIER"
reply_text KnownBill = codes "KNOWN_BILL"
reply_text (NotHere place) = codes "NOT_HERE"
reply_text (NoParty party) = codes "NO_PARTY"
reply_text (NotAllowed rule) = codes "NOT_ALLOWED"
reply_text (Limit which) = codes "LIMIT"
reply_text (Ignored reason) = codes "IGNORED"
reply_text (NotParting place) = codes "NOT_PARTING"
reply_text Sign = codes "SIGN"
reply_text Full = codes "FULL"
reply_text Disk = codes "DISK"
reply_text (Damaged place) = codes "DAMAGED"
reply_text NoMemory = codes "NO_MEMORY"
