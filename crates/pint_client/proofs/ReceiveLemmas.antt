-- What was read, and what the answer is.
use Rattle.std.proofs.Common.{◌≡◌, ℕ, zero, suc, ◌+◌, ◌-◌, ◌≤◌, ◌<◌, List, [], ◌∷◌, ◌++◌, refl, ap, sym, ◌∙◌, subst, length, take, drop, Option, Some, Result, arith, inl, inr, append_assoc, append-nil, length-append, length-take, length-take-le, take-append-drop}
use Rattle.std.specs.Prelude.{◌⊎◌, Ok, Err, slice_range}
use Rattle.std.specs.Io.KnownBytes.{Consumes, Keeps, IsAtEnd}
use Rattle.std.proofs.KnownBytes.{Consumes-trans, Consumes-kept}
use Rattle.std.proofs.lemmas.List.{take-append-le, drop-append-le}
use Rattle.std.proofs.lemmas.Slice.{between_is}
use Rattle.std.proofs.lemmas.Bool.{cases_lt}
use Rattle.std.proofs.Math.Seq.{take-append_seam, drop-append_seam}
use Rattle.std.proofs.Math.ListN.{drop_of_length-le}
use Rattle.httparse.specs.Grammar.{ResponseHead, ReadsResponse, print_response}
use Rattle.httparse.proofs.GrammarLemmas.{response_unique}
use Rattle.pint_client.specs.declared.client_fault.ClientFault.{ClientFault}
use Rattle.pint_client.specs.declared.client_fault.ClientFault.TheVariants.{Fault, BadReply, NoMemory}
use Rattle.http_heads.specs.declared.scan.Scan.{Scan}
use Rattle.http_heads.specs.declared.scan.Scan.TheVariants.{Blank}
use Rattle.http_heads.specs.Scan.{scan}
use Rattle.pint_client.specs.Reply.{IsReply, HasNoReply, NeverHasReply, States, stated_length}
use Rattle.pint_client.specs.Exchange.{ReadsReply}
use Rattle.pint_client.specs.Receiving.{HoldsHead, HoldsBody, LacksBytes}
use Rattle.http_heads.proofs.ScanLemmas.{scan-found, scan-goes_on, scan-within}
use Rattle.pint_client.proofs.ScanLemmas.{scan-past}
use Rattle.pint_client.proofs.HeadLemmas.{scan-reads}
use Rattle.pint_client.proofs.ReplyLemmas.{one_some}

-- ---- before the end of a head

no_end : (s : Scan) (n : ℕ) (r : Result ℕ Scan) → r ≡ Err s → r ≡ Ok n → ⊥
no_end s n r err ok = let both : Err s ≡ Ok n = sym err ∙ ok in absurd (cc)

pub no_reply : (read : List ℕ) (s : Scan) → scan 0 Blank read ≡ Err s → HasNoReply read
no_reply read s none status body after is =
    no_end s (length (print_response is.head)) (scan 0 Blank read) none (scan-reads read is.head (body ++ after) is.reads)

never_reply : (read : List ℕ) (s : Scan) → scan 0 Blank read ≡ Err s → 16384 ≤ length read → NeverHasReply read
never_reply read s none many more status body after is =
    let ends = scan-reads (read ++ more) is.head (body ++ after) is.reads in
    let goes = scan-goes_on 0 Blank s read more none in
    let past = scan-past (0 + length read) (length (print_response is.head)) s more (sym goes ∙ ends) in
    let size = is.head_size in
    absurd (omega (arith, past, size, many))

-- the input ended
pub ended : (a b c : Option (List ℕ)) (read piece : List ℕ) (n : ℕ) (s : Scan) → Consumes a b read → n ≡ 0 → 0 < length piece
    → Consumes b c (take n piece) × (n ≡ 0 → 0 < length piece → IsAtEnd c) → scan 0 Blank read ≡ Err s → ReadsReply (Err BadReply) a c
ended a b c read piece n s first nothing room second none =
    let last = Consumes-trans a b c read (take n piece) first second.0 in
    let same : read ++ take n piece ≡ read = ap (λ m. read ++ take m piece) nothing ∙ append-nil read in
    record {
      read = read;
      consumed = subst (Consumes a c) same last;
      decides = inr (no_reply read s none, second.1 nothing room);
    }

-- a read failed
pub failed : (a b c : Option (List ℕ)) (read : List ℕ) (s : Scan) → Consumes a b read → Keeps b c → scan 0 Blank read ≡ Err s
    → ReadsReply (Err Fault) a c
failed a b c read s first second none = record { read = read; consumed = Consumes-kept a b c read first second; decides = no_reply read s none }

-- no head ended within the most bytes of one
pub overlong : (a b : Option (List ℕ)) (read : List ℕ) (s : Scan) → Consumes a b read → scan 0 Blank read ≡ Err s → 16384 ≤ length read
    → ReadsReply (Err BadReply) a b
overlong a b read s consumed none many = record { read = read; consumed = consumed; decides = inl (never_reply read s none many) }

-- ---- behind the end of a head

-- the head is within what was read
pub head_in_front : (len count : ℕ) (buffer : List ℕ) → count ≤ length buffer → scan 0 Blank (take count buffer) ≡ Ok len → len ≤ count
head_in_front len count buffer within found =
    let among = scan-within 0 len Blank (take count buffer) found in
    omega (arith, among, length-take-le count buffer within)

-- the head of a reply is what stands before the end that was found, and what stands behind it is the rest
pub record IsFrontOf (read more : List ℕ) (len : ℕ) (h : ResponseHead) (rest : List ℕ) : Type 0 where
  pub front : take len read ≡ print_response h
  pub behind : drop len read ++ more ≡ rest

head_is_front : (read more : List ℕ) (len : ℕ) (h : ResponseHead) (rest : List ℕ) → scan 0 Blank read ≡ Ok len
    → ReadsResponse (read ++ more) h rest → IsFrontOf read more len h rest
head_is_front read more len h rest found reads =
    let text = print_response h in
    let stays = scan-found 0 len Blank read more found in
    let both : Ok len ≡ Ok (length text) = sym stays ∙ scan-reads (read ++ more) h rest reads in
    let same : len ≡ length text = cc in
    let among : len ≤ 0 + length read = scan-within 0 len Blank read found in
    let within : len ≤ length read = omega (arith, among) in
    record {
      front = sym (take-append-le len read more within) ∙ ap (take len) reads.1 ∙ ap (λ n. take n (text ++ rest)) same ∙ take-append_seam text rest;
      behind = sym (drop-append-le len read more within) ∙ ap (drop len) reads.1 ∙ ap (λ n. drop n (text ++ rest)) same ∙ drop-append_seam text rest;
    }

-- the piece alone reads as the head
piece_reads : (read more : List ℕ) (len : ℕ) (h : ResponseHead) (rest : List ℕ) → ReadsResponse (read ++ more) h rest
    → IsFrontOf read more len h rest → ReadsResponse (take len read) h []
piece_reads read more len h rest reads is = (reads.0, is.front ∙ sym (append-nil (print_response h)))

-- the head isn't one, or states no length that a body may have
pub refused : (read : List ℕ) (len : ℕ) → scan 0 Blank read ≡ Ok len → ((status size : ℕ) → ¬ (States (take len read) status size))
    → NeverHasReply read
refused read len found none more status body after is =
    let at = head_is_front read more len is.head (body ++ after) found is.reads in
    none status (length body) (record {
      head = is.head;
      reads = piece_reads read more len is.head (body ++ after) is.reads at;
      field_count = is.field_count;
      status_is = is.status_is;
      length_is = is.length_is;
      body_size = is.body_size;
    })

-- fewer bytes than the body has
pub lacking : (read piece : List ℕ) (len status size : ℕ) → scan 0 Blank read ≡ Ok len → States (take len read) status size
    → length piece < size - length (drop len read) → HasNoReply (read ++ piece)
lacking read piece len status size found states few other body after is =
    let at = head_is_front read piece len is.head (body ++ after) found is.reads in
    let same = (response_unique (take len read) is.head states.head [] [] (piece_reads read piece len is.head (body ++ after) is.reads at) states.reads).0 in
    let long = one_some (stated_length states.head) (length body) size (ap stated_length (sym same) ∙ is.length_is) states.length_is in
    let count = ap length at.behind in
    absurd (omega (arith, long, few, count, length-append (drop len read) piece, length-append body after))

-- the bytes of a whole reply, where no byte of the body was read behind others, or none was read but it
regroup_by : (text front back piece : List ℕ) → (piece ≡ []) ⊎ (back ≡ []) → (text ++ (front ++ back)) ++ piece ≡ text ++ ((front ++ piece) ++ back)
regroup_by text front back piece (inl is) =
    rw is (append-nil (text ++ (front ++ back)) ∙ ap (λ l. text ++ (l ++ back)) (sym (append-nil front)))
regroup_by text front back piece (inr is) =
    rw is (ap (λ l. (text ++ l) ++ piece) (append-nil front) ∙ append_assoc text front piece ∙ ap (λ l. text ++ l) (sym (append-nil (front ++ piece))))

nothing_by : (piece : List ℕ) → length piece ≤ 0 → piece ≡ []
nothing_by piece none = drop_of_length-le {A = ℕ} piece none

pub record IsWhole (read piece body : List ℕ) (len status size : ℕ) : Type 0 where
  pub found : scan 0 Blank read ≡ Ok len
  pub within : length read ≤ 16384
  pub states : States (take len read) status size
  pub body_is : body ≡ take size (drop len read) ++ piece
  pub size_is : length body ≡ size

pub behind_or_not : (size : ℕ) (behind piece body : List ℕ) → body ≡ take size behind ++ piece → length body ≡ size
    → (piece ≡ []) ⊎ (drop size behind ≡ [])
behind_or_not size behind piece body is count =
    elim (cases_lt size (length behind)) [
      | inl many ↦
          inl (nothing_by piece (omega (arith, many, count, ap length is, length-append (take size behind) piece, length-take-le size behind (omega (arith, many)))))
      | inr few ↦ inr (drop_of_length-le {A = ℕ} behind few)
    ]

pub whole : (read piece body : List ℕ) (len status size : ℕ) → IsWhole read piece body len status size
    → IsReply (read ++ piece) status body (drop size (drop len read))
whole read piece body len status size is =
    let states = is.states in
    let behind = drop len read in
    let head = states.head in
    let text = print_response head in
    let front : take len read ≡ text = states.reads.1 ∙ append-nil text in
    let either = behind_or_not size behind piece body is.body_is is.size_is in
    let parts : read ≡ text ++ (take size behind ++ drop size behind) =
    sym (take-append-drop len read) ∙ ap (λ l. l ++ behind) front ∙ ap (λ l. text ++ l) (sym (take-append-drop size behind)) in
    let bytes : read ++ piece ≡ text ++ (body ++ drop size behind) =
    ap (λ l. l ++ piece) parts ∙ regroup_by text (take size behind) (drop size behind) piece either
    ∙ ap (λ l. text ++ (l ++ drop size behind)) (sym is.body_is) in
    let few = is.within in
    record {
      head = head;
      reads = (states.reads.0, bytes);
      head_size = omega (arith, few, ap length front, length-take len read);
      field_count = states.field_count;
      status_is = states.status_is;
      length_is = states.length_is ∙ ap Some (sym is.size_is);
      body_size = rw is.size_is states.body_size;
    }

-- beyond the reply nothing was read, or only what came with its head
pub bound : (read piece body : List ℕ) (len status size : ℕ) → IsWhole read piece body len status size
    → (length (read ++ piece) ≤ 16384) ⊎ (drop size (drop len read) ≡ [])
bound read piece body len status size is =
    elim (behind_or_not size (drop len read) piece body is.body_is is.size_is) [
      | inl none ↦ inl (let few = is.within in omega (arith, few, ap length none, length-append read piece))
      | inr none ↦ inr none
    ]

-- ---- the answers, over the buffer

take-take-le : (i n : ℕ) (bytes : List ℕ) → i ≤ n → take i (take n bytes) ≡ take i bytes
take-take-le zero n bytes within = refl
take-take-le (suc i) zero bytes within = absurd (omega (arith, within))
take-take-le (suc i) (suc n) [] within = refl
take-take-le (suc i) (suc n) (b ∷ bytes) within = ap (λ l. b ∷ l) (take-take-le i n bytes (omega (arith, within)))

head_within : (buffer : List ℕ) (len count : ℕ) → len ≤ count → take len buffer ≡ take len (take count buffer)
head_within buffer len count within = sym (take-take-le len count buffer within)

pub not_stated : (a b : Option (List ℕ)) (buffer : List ℕ) (len count : ℕ) → HoldsHead buffer len count a b
    → ((status size : ℕ) → ¬ (States (take len buffer) status size)) → ReadsReply (Err BadReply) a b
not_stated a b buffer len count at none = record {
  read = take count buffer;
  consumed = at.consumed;
  decides = inl (refused (take count buffer) len at.ends (rw (sym (head_within buffer len count at.head)) none));
}

whole_by : (a b c : Option (List ℕ)) (buffer body : List ℕ) (len count status size : ℕ) → HoldsHead buffer len count a b → length buffer ≡ 16384
    → States (take len buffer) status size → (read : HoldsBody body (slice_range buffer len count) size b c)
    → IsWhole (take count buffer) read.read body len status size
whole_by a b c buffer body len count status size at room states read =
    let within = at.within in
    record {
      found = at.ends;
      within = omega (arith, within, room, length-take count buffer);
      states = subst (λ l. States l status size) (head_within buffer len count at.head) states;
      body_is = read.body_is ∙ ap (λ l. take size l ++ read.read) (between_is buffer len count);
      size_is = read.size_is;
    }

pub answered : (a b c : Option (List ℕ)) (buffer body : List ℕ) (len count status size : ℕ) → HoldsHead buffer len count a b → length buffer ≡ 16384
    → States (take len buffer) status size → HoldsBody body (slice_range buffer len count) size b c
    → ReadsReply (Ok (record { status = status; body = body })) a c
answered a b c buffer body len count status size at room states read =
    let front = take count buffer in
    let is = whole_by a b c buffer body len count status size at room states read in
    record {
      read = front ++ read.read;
      consumed = Consumes-trans a b c front read.read at.consumed read.consumed;
      decides = (drop size (drop len front), whole front read.read body len status size is, bound front read.read body len status size is);
    }

lacks_by : (buffer piece : List ℕ) (a b : Option (List ℕ)) (len count status size : ℕ) → HoldsHead buffer len count a b
    → States (take len buffer) status size → length piece < size - length (slice_range buffer len count) → HasNoReply (take count buffer ++ piece)
lacks_by buffer piece a b len count status size at states few =
    let behind = between_is buffer len count in
    lacking (take count buffer) piece len status size at.ends (subst (λ l. States l status size) (head_within buffer len count at.head) states)
    (omega (arith, few, ap length behind))

pub lacks : (fault : ClientFault) (a b c : Option (List ℕ)) (buffer : List ℕ) (len count status size : ℕ) → HoldsHead buffer len count a b
    → States (take len buffer) status size → LacksBytes fault (size - length (slice_range buffer len count)) b c
    → ReadsReply (Err fault) a c
lacks Fault a b c buffer len count status size at states lack = record {
  read = take count buffer ++ lack.read;
  consumed = Consumes-trans a b c (take count buffer) lack.read at.consumed lack.consumed;
  decides = lacks_by buffer lack.read a b len count status size at states (lack.few (λ is. absurd (cc)));
}
lacks BadReply a b c buffer len count status size at states lack = record {
  read = take count buffer ++ lack.read;
  consumed = Consumes-trans a b c (take count buffer) lack.read at.consumed lack.consumed;
  decides = inr (lacks_by buffer lack.read a b len count status size at states (lack.few (λ is. absurd (cc))), lack.at_end refl);
}
lacks NoMemory a b c buffer len count status size at states lack = record {
  read = take count buffer ++ lack.read;
  consumed = Consumes-trans a b c (take count buffer) lack.read at.consumed lack.consumed;
  decides = tt;
}
