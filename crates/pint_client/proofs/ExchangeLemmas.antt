-- One exchange: what was written, what was read, and what all the bytes say.
use Rattle.std.proofs.Common.{◌≡◌, ℕ, List, [], ◌++◌, refl, ap, sym, ◌∙◌, subst, Option, Some, None, Result, append_assoc, append-nil, inl, inr}
use Rattle.std.specs.Prelude.{◌≢◌, Ok, Err, IfSome}
use Rattle.std.specs.Io.KnownBytes.{Appends, Consumes}
use Rattle.std.proofs.KnownBytes.{Appends-trans, Consumes-nil}
use Rattle.ebl_edge.specs.Sink.{AppendsFirst}
use Rattle.pint_client.specs.declared.client_fault.ClientFault.{ClientFault}
use Rattle.pint_client.specs.declared.client_fault.ClientFault.TheVariants.{Fault, BadReply, NoMemory}
use Rattle.pint_client.specs.declared.incoming.Incoming.{Incoming}
use Rattle.http_heads.specs.declared.scan.Scan.TheVariants.{Blank}
use Rattle.pint_client.specs.Reply.{IsReply}
use Rattle.pint_client.specs.Exchange.{Decides, IsAnswerTo, ReadsReply, Wrote}
use Rattle.httparse.proofs.GrammarLemmas.{ReadsResponse-append}
use Rattle.pint_client.proofs.ReceiveLemmas.{no_reply}

-- ---- what was written

pub wrote_part : (fault : ClientFault) (old new : Option (List ℕ)) (text : List ℕ) → fault ≢ BadReply → AppendsFirst old new text
    → Wrote (Err fault) old new text
wrote_part Fault old new text other part = part
wrote_part BadReply old new text other part = absurd (other refl)
wrote_part NoMemory old new text other part = part

whole_part : (old new : Option (List ℕ)) (text : List ℕ) → Appends old new text → AppendsFirst old new text
whole_part old new text wrote = record { front = text; back = []; parts = append-nil text; wrote = wrote }

wrote_by : (result : Result Incoming ClientFault) (old new : Option (List ℕ)) (text : List ℕ) → Appends old new text → Wrote result old new text
wrote_by (Ok incoming) old new text wrote = wrote
wrote_by (Err Fault) old new text wrote = whole_part old new text wrote
wrote_by (Err BadReply) old new text wrote = wrote
wrote_by (Err NoMemory) old new text wrote = whole_part old new text wrote

-- behind the request nothing more is written
pub wrote_whole : (result : Result Incoming ClientFault) (old mid new : Option (List ℕ)) (text : List ℕ) → Appends old mid text → new ≡ mid
    → Wrote result old new text
wrote_whole result old mid new text wrote kept = wrote_by result old new text (subst (λ x. Appends old x text) (sym kept) wrote)

-- ---- what was read

-- nothing is read before the request is written
pub nothing_read : (fault : ClientFault) (old new : Option (List ℕ)) → fault ≢ BadReply → new ≡ old → ReadsReply (Err fault) old new
nothing_read Fault old new other kept = record { read = []; consumed = subst (λ x. Consumes old x []) (sym kept) (Consumes-nil old); decides = no_reply [] Blank refl }
nothing_read BadReply old new other kept = absurd (other refl)
nothing_read NoMemory old new other kept = record { read = []; consumed = subst (λ x. Consumes old x []) (sym kept) (Consumes-nil old); decides = tt }

pub read_behind : (result : Result Incoming ClientFault) (old mid new : Option (List ℕ)) → mid ≡ old → ReadsReply result mid new → ReadsReply result old new
read_behind result old mid new kept reads = subst (λ x. ReadsReply result x new) kept reads

-- ---- all the bytes

pub reply-more : (came more : List ℕ) (status : ℕ) (body after : List ℕ) → IsReply came status body after → IsReply (came ++ more) status body (after ++ more)
reply-more came more status body after is =
    let reads = ReadsResponse-append came is.head (body ++ after) more is.reads in
    record {
      head = is.head;
      reads = rw (sym (append_assoc body after more)) reads;
      head_size = is.head_size;
      field_count = is.field_count;
      status_is = is.status_is;
      length_is = is.length_is;
      body_size = is.body_size;
    }

answer_by : (result : Result Incoming ClientFault) (read rest : List ℕ) → Decides result read (Some rest) → IsAnswerTo (read ++ rest) result
answer_by (Ok incoming) read rest (after, is, most) = (after ++ rest, reply-more read rest incoming.status incoming.body after is)
answer_by (Err Fault) read rest decides = tt
answer_by (Err BadReply) read rest (inl never) = never rest
answer_by (Err BadReply) read rest (inr (none, at_end)) = rw at_end (rw (append-nil read) none)
answer_by (Err NoMemory) read rest decides = tt

-- what was read decides the answer to all the bytes that were to come
pub answers_all : (result : Result Incoming ClientFault) (left now : Option (List ℕ)) → ReadsReply result left now
    → IfSome left (λ came. IsAnswerTo came result)
answers_all result None now reads = tt
answers_all result (Some came) None reads = absurd reads.consumed
answers_all result (Some came) (Some rest) reads = subst (λ x. IsAnswerTo x result) (sym reads.consumed) (answer_by result reads.read rest reads.decides)

-- ---- two pieces, one after the other

pub both_wrote : (old mid new : Option (List ℕ)) (head body : List ℕ) → Appends old mid head → Appends mid new body → Appends old new (head ++ body)
both_wrote old mid new head body first second = Appends-trans old mid new head body first second

pub head_part : (old new : Option (List ℕ)) (head body : List ℕ) → AppendsFirst old new head → AppendsFirst old new (head ++ body)
head_part old new head body part = record {
  front = part.front;
  back = part.back ++ body;
  parts = sym (append_assoc part.front part.back body) ∙ ap (λ l. l ++ body) part.parts;
  wrote = part.wrote;
}

pub body_part : (old mid new : Option (List ℕ)) (head body : List ℕ) → Appends old mid head → AppendsFirst mid new body → AppendsFirst old new (head ++ body)
body_part old mid new head body first part = record {
  front = head ++ part.front;
  back = part.back;
  parts = append_assoc head part.front part.back ∙ ap (λ l. head ++ l) part.parts;
  wrote = Appends-trans old mid new head part.front first part.wrote;
}
