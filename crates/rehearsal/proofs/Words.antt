-- The word of each answer is among those that are counted.
use Rattle.std.proofs.Common.{◌≡◌, ℕ, true, List, refl}
use Rattle.std.specs.List.{list_any}
use Rattle.std.specs.Str.{bytes_eq}
use Rattle.ebl_base.specs.Code.{response_code_text}
use Rattle.ebl_base.specs.declared.code.Code.{Code}
use Rattle.ebl_base.specs.declared.code.Code.TheVariants as kinds
use Rattle.platform_requests.specs.Words.{reply_text}
use Rattle.platform_requests.specs.declared.reply.Reply.{Reply}
use Rattle.platform_requests.specs.declared.reply.Reply.TheVariants as replies
use Rattle.answer_lines.specs.Words.{answer_text}
use Rattle.answer_lines.specs.declared.answer.Answer.{Answer}
use Rattle.answer_lines.specs.declared.answer.Answer.TheVariants.{Replied, Opened, NoBill, NoMessage, Shown}
use Rattle.rehearsal.specs.Summary.{words}

abbrev Counts : List ℕ → Type 0
Counts text = list_any (λ word. bytes_eq text word) words ≡ true

code_counts : (code : Code) → Counts (response_code_text code)
unfolding words
code_counts kinds.Received = refl
code_counts kinds.Duplicate = refl
code_counts kinds.BadSignature = refl
code_counts kinds.BadEnvelope = refl
code_counts kinds.InconsistentDocument = refl
code_counts kinds.MissingDocuments = refl
code_counts kinds.DisputedEnvelope = refl

reply_counts : (reply : Reply) → Counts (reply_text reply)
unfolding words
reply_counts (replies.Done view) = refl
reply_counts (replies.Started reference missing) = refl
reply_counts replies.Stored = refl
reply_counts (replies.Answer response text) = code_counts response.code
reply_counts replies.UnknownReference = refl
reply_counts replies.NotOurs = refl
reply_counts (replies.Document fault) = refl
reply_counts replies.NotCarrier = refl
reply_counts replies.KnownBill = refl
reply_counts (replies.NotHere place) = refl
reply_counts (replies.NoParty party) = refl
reply_counts (replies.NotAllowed rule) = refl
reply_counts (replies.Limit limit) = refl
reply_counts (replies.Ignored reason) = refl
reply_counts (replies.NotParting place) = refl
reply_counts replies.Sign = refl
reply_counts replies.Full = refl
reply_counts replies.Disk = refl
reply_counts (replies.Damaged place) = refl
reply_counts replies.NoMemory = refl

pub answer_counts : (answer : Answer) → list_any (λ word. bytes_eq (answer_text answer) word) words ≡ true
unfolding words
answer_counts (Replied reply) = reply_counts reply
answer_counts Opened = refl
answer_counts NoBill = refl
answer_counts NoMessage = refl
answer_counts (Shown parcel) = refl
