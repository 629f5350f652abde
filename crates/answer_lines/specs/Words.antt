-- The words of answers and of what is sent, in answer lines.
use Rattle.std.specs.Prelude.{ℕ, List, [], codes}
use Rattle.platform_requests.specs.Words.{reply_text}
use Rattle.answer_lines.specs.declared.answer.Answer.{Answer}
use Rattle.answer_lines.specs.declared.answer.Answer.TheVariants.{Replied, Opened, NoBill, NoMessage, Shown}
use Rattle.answer_lines.specs.declared.parcel.Content.{Content}
use Rattle.answer_lines.specs.declared.parcel.Content.TheVariants as contents

abbrev pub content_text : Content → List ℕ
content_text (contents.Start body) = codes "START"
content_text (contents.Put reference checksum bytes) = codes "PUT"
content_text (contents.Finish reference) = codes "FINISH"
content_text (contents.StartReply bytes) = codes "START_REPLY"
content_text (contents.FinishReply bytes) = codes "FINISH_REPLY"

-- the bytes that it brings
abbrev pub content_bytes : Content → List ℕ
content_bytes (contents.Start body) = body
content_bytes (contents.Put reference checksum bytes) = bytes
content_bytes (contents.Finish reference) = []
content_bytes (contents.StartReply bytes) = bytes
content_bytes (contents.FinishReply bytes) = bytes

abbrev pub answer_text : Answer → List ℕ
answer_text (Replied reply) = reply_text reply
answer_text Opened = codes "OPENED"
answer_text NoBill = codes "NO_BILL"
answer_text NoMessage = codes "NO_MESSAGE"
answer_text (Shown parcel) = codes "SHOWN"
