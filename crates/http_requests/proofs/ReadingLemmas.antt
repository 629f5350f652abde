-- Reads one after another, and what stands at the front of the buffer behind them.
use Rattle.std.proofs.Common.{◌≡◌, ℕ, ◌+◌, ◌-◌, ◌≤◌, ◌<◌, Bool, true, false, List, [], ◌∷◌, ◌++◌, refl, ap, sym, ◌∙◌, subst, length, take, drop, arith, append_assoc, append-nil, length-drop, length-take, length-append, inl, inr}
use Rattle.std.specs.Prelude.{◌≢◌, ◌⊎◌, min, Option, Some, None, Result, Ok, Err, nat_le, slice_range, if◌then◌else◌}
use Rattle.std.specs.Io.KnownBytes.{Consumes, IsAtEnd}
use Rattle.std.proofs.KnownBytes.{Consumes-nil, Consumes-trans}
use Rattle.std.proofs.lemmas.List.{take_all, take-append-le, drop-drop, take-append-drop}
use Rattle.std.proofs.Math.Seq.{take-append-add}
use lib.Dec.{leb}
use Rattle.std.proofs.lemmas.Bool.{le-leb, lt-leb, leb-true, leb-false}
use Rattle.http_heads.specs.declared.scan.Scan.{Scan}
use Rattle.http_heads.specs.declared.scan.Scan.TheVariants.{Blank}
use Rattle.http_heads.specs.declared.plan.Plan.{Plan}
use Rattle.http_heads.specs.declared.plan.Plan.TheVariants.{Await, Refuse}
use Rattle.http_heads.specs.declared.route.Route.{Route}
use Rattle.http_heads.specs.Scan.{scan, head_end}
use Rattle.http_heads.specs.Plan.{IsPlan}
use Rattle.http_requests.specs.Next.{Next, refused, short, formed, next_by, OnHead, IsNext, next_at}
use Rattle.http_heads.proofs.ScanLemmas.{scan-goes_on}
use Rattle.http_requests.proofs.CutLemmas.{head_end-more}
use Rattle.http_requests.specs.Reading.{Fills, Added, Read, IsStop, LacksBytes}
use Rattle.http_heads.specs.declared.status.Status.{Status}
use Rattle.http_heads.specs.declared.status.Status.TheVariants.{BadRequest}
use Rattle.http_requests.specs.declared.front.Front.TheVariants.{Whole}
use Rattle.http_requests.specs.declared.end.LinkEnd.{LinkEnd}
use Rattle.http_requests.specs.declared.end.LinkEnd.TheVariants.{Closed, Cut, ReadFault, WriteFault, Limit, NoMemory}

regroup : (x y z p q : List ℕ) → y ≡ x ++ p → z ≡ y ++ q → z ≡ x ++ (p ++ q)
regroup x y z p q first second = second ∙ ap (λ l. l ++ q) first ∙ append_assoc x p q

pub Fills-trans : (a b c : Option (List ℕ)) (x y z : List ℕ) → Fills a b x y → Fills b c y z → Fills a c x z
Fills-trans a b c x y z f g = record {
  piece = f.piece ++ g.piece;
  consumed = Consumes-trans a b c f.piece g.piece f.consumed g.consumed;
  added = regroup x y z f.piece g.piece f.added g.added;
}

added-after : (e : LinkEnd) (x y z p q : List ℕ) → y ≡ x ++ p → Added e z (y ++ q) → Added e z (x ++ (p ++ q))
added-after Closed x y z p q f g = regroup x y z p q f g
added-after Cut x y z p q f g = regroup x y z p q f g
added-after ReadFault x y z p q f g = regroup x y z p q f g
added-after WriteFault x y z p q f g = regroup x y z p q f g
added-after Limit x y z p q f g = regroup x y z p q f g
added-after NoMemory x y z p q f g = tt

pub Read-after : (e : LinkEnd) (a b c : Option (List ℕ)) (x y z : List ℕ) → Fills a b x y → Read e b c y z → Read e a c x z
Read-after e a b c x y z f g = record {
  piece = f.piece ++ g.piece;
  consumed = Consumes-trans a b c f.piece g.piece f.consumed g.consumed;
  added = added-after e x y z f.piece g.piece f.added g.added;
}

filled : (e : LinkEnd) (now all : List ℕ) → now ≡ all → Added e now all
filled Closed now all h = h
filled Cut now all h = h
filled ReadFault now all h = h
filled WriteFault now all h = h
filled Limit now all h = h
filled NoMemory now all h = tt

pub Read-filled : (e : LinkEnd) (a b : Option (List ℕ)) (x y : List ℕ) → Fills a b x y → Read e a b x y
Read-filled e a b x y f = record { piece = f.piece; consumed = f.consumed; added = filled e y (x ++ f.piece) f.added }

-- take up to a later place
take-further : (seen until : ℕ) (b : List ℕ) → seen ≤ until → seen ≤ length b → take until b ≡ take seen b ++ slice_range b seen until
take-further seen until b order fits =
    let count : length (take seen b) + (until - seen) ≡ until = omega (arith, order, fits, length-take seen b) in
    let split : take (length (take seen b) + (until - seen)) (take seen b ++ drop seen b) ≡ take seen b ++ slice_range b seen until =
    take-append-add (take seen b) (drop seen b) (until - seen) in
    ap (take until) (sym (take-append-drop seen b)) ∙ ap (λ n. take n (take seen b ++ drop seen b)) (sym count) ∙ split

take-min_by : (few : Bool) (n : ℕ) (b : List ℕ) → leb n (length b) ≡ few → take n b ≡ take (min (length b) n) b
take-min_by true n b test =
    let fits = leb-true n (length b) test in
    let same : min (length b) n ≡ n = omega (arith, fits) in
    rw same refl
take-min_by false n b test =
    let past = leb-false n (length b) test in
    let same : min (length b) n ≡ length b = omega (arith, past) in
    rw same (take_all n b (omega (arith, past)) ∙ sym (take_all (length b) b (omega arith)))

take-min : (n : ℕ) (b : List ℕ) → take n b ≡ take (min (length b) n) b
take-min n b = take-min_by (leb n (length b)) n b refl

pub scan-further : (seen until : ℕ) (s : Scan) (b : List ℕ) → seen ≤ until → seen ≤ length b → scan 0 Blank (take seen b) ≡ Err s
    → scan 0 Blank (take until b) ≡ scan seen s (slice_range b seen until)
scan-further seen until s b order fits scanned =
    let count : 0 + length (take seen b) ≡ seen = omega (arith, length-take seen b) in
    rw (take-further seen until b order fits) (rw count at (scan-goes_on 0 Blank s (take seen b) (slice_range b seen until) scanned))

pub head_end-further : (seen : ℕ) (s : Scan) (b : List ℕ) → seen ≤ length b → seen ≤ 16384 → scan 0 Blank (take seen b) ≡ Err s
    → scan seen s (slice_range b seen (min (length b) 16384)) ≡ head_end b
head_end-further seen s b fits few scanned =
    rw (take-min 16384 b) (sym (scan-further seen (min (length b) 16384) s b (omega arith) fits scanned))

pub head_end-all : (b : List ℕ) (s : Scan) → length b < 16384 → head_end b ≡ Err s → scan 0 Blank (take (length b) b) ≡ Err s
head_end-all b s few h =
    let all : take (length b) b ≡ take 16384 b = take_all (length b) b (omega arith) ∙ sym (take_all 16384 b (omega (arith, few))) in
    rw all h

-- without an end of the head there is none, or less than a request
pub short_without_head : (b : List ℕ) (s : Scan) → head_end b ≡ Err s → length b < 16384 → IsNext b short
short_without_head b s ends few = rw (ends) (rw (lt-leb 16384 (length b) few) refl)

-- with a head the body decides
pub short_without_body : (b : List ℕ) (len n : ℕ) (route : Route) (keeps : Bool) → head_end b ≡ Ok len → IsPlan (take len b) (Await route n keeps)
    → len ≤ length b → length b < len + n → IsNext b short
short_without_body b len n route keeps ends plan fits few =
    let less : nat_le n (length (drop len b)) ≡ false = lt-leb n (length (drop len b)) (omega (arith, fits, few, length-drop len b)) in
    rw ends (Await route n keeps, plan, rw less refl)

pub whole_with_body : (b : List ℕ) (len n : ℕ) (route : Route) (keeps : Bool) → head_end b ≡ Ok len → IsPlan (take len b) (Await route n keeps)
    → len + n ≤ length b → IsNext b (next_at b (Whole route len (len + n) keeps))
whole_with_body b len n route keeps ends plan fits =
    let enough : nat_le n (length (drop len b)) ≡ true = le-leb n (length (drop len b)) (omega (arith, fits, length-drop len b)) in
    let count : len + n - len ≡ n = omega arith in
    let behind : drop (len + n) b ≡ drop n (drop len b) = sym (drop-drop n len b) in
    rw ends (Await route n keeps, plan, rw (enough, count, behind) refl)

not_empty : (b : List ℕ) (n : ℕ) → head_end b ≡ Ok n → b ≢ []
not_empty [] n h = grind arith
not_empty (x ∷ b) n h = grind arith

-- the head of a buffer, and what it asks for
pub record IsFound (b : List ℕ) (len : ℕ) (p : Plan) : Type 0 where
  pub ends : head_end b ≡ Ok len
  pub fits : len ≤ length b
  pub plan : IsPlan (take len b) p

-- it stays when more bytes come
pub IsFound-more : (b now piece : List ℕ) (len : ℕ) (p : Plan) → IsFound b len p → now ≡ b ++ piece → IsFound now len p
IsFound-more b now piece len p found added = record {
  ends = rw added (head_end-more len b piece found.ends);
  fits = let f = found.fits in rw added (omega (arith, f, length-append b piece));
  plan = rw added (rw (take-append-le len b piece found.fits) found.plan);
}

lacking : (b now piece : List ℕ) (len n : ℕ) (route : Route) (keeps : Bool) → IsFound b len (Await route n keeps) → now ≡ b ++ piece → length now < len + n
    → (now ≢ []) × IsNext now short
lacking b now piece len n route keeps found added few =
    let f = IsFound-more b now piece len (Await route n keeps) found added in
    (not_empty now len f.ends, short_without_body now len n route keeps f.ends f.plan f.fits few)

-- the body doesn't come
pub stops_in_body : (e : LinkEnd) (a c : Option (List ℕ)) (b now : List ℕ) (len n : ℕ) (route : Route) (keeps : Bool)
    → IsFound b len (Await route n keeps) → Read e a c b now → LacksBytes e (len + n) now c → IsStop e now c
stops_in_body Closed a c b now len n route keeps found read lacks = absurd lacks
stops_in_body Cut a c b now len n route keeps found read lacks =
    let l = lacking b now read.piece len n route keeps found read.added lacks.0 in
    (l.0, l.1, lacks.1)
stops_in_body ReadFault a c b now len n route keeps found read lacks = inr (lacking b now read.piece len n route keeps found read.added lacks)
stops_in_body WriteFault a c b now len n route keeps found read lacks = absurd lacks
stops_in_body Limit a c b now len n route keeps found read lacks = absurd lacks
stops_in_body NoMemory a c b now len n route keeps found read lacks = tt

pub whole_in_buffer : (b now piece : List ℕ) (len n : ℕ) (route : Route) (keeps : Bool) → IsFound b len (Await route n keeps) → now ≡ b ++ piece
    → len + n ≤ length now → IsNext now (next_at now (Whole route len (len + n) keeps))
whole_in_buffer b now piece len n route keeps found added enough =
    let f = IsFound-more b now piece len (Await route n keeps) found added in
    whole_with_body now len n route keeps f.ends f.plan enough

-- the input ends, or a read fails, before a head
pub stops_in_head : (e : LinkEnd) (b : List ℕ) (s : Scan) (left : Option (List ℕ)) → head_end b ≡ Err s → length b < 16384
    → (e ≡ Closed → b ≡ []) → (e ≡ Cut → b ≢ []) → (e ≡ Closed) ⊎ (e ≡ Cut) → IsAtEnd left → IsStop e b left
stops_in_head e b s left ends few closed cut (inl is) at_end = rw is (closed is, at_end)
stops_in_head e b s left ends few closed cut (inr is) at_end = rw is (cut is, short_without_head b s ends few, at_end)

empty_or_short : (b : List ℕ) → IsNext b short → (b ≡ []) ⊎ ((b ≢ []) × IsNext b short)
empty_or_short [] h = inl refl
empty_or_short (x ∷ b) h = inr (grind arith, h)

pub faults_in_head : (e : LinkEnd) (b : List ℕ) (s : Scan) (left : Option (List ℕ)) → head_end b ≡ Err s → length b < 16384
    → (e ≡ ReadFault) ⊎ (e ≡ NoMemory) → IsStop e b left
faults_in_head e b s left ends few (inl is) = rw is (empty_or_short b (short_without_head b s ends few))
faults_in_head e b s left ends few (inr is) = rw is tt

pub lacks_at_fault : (e : LinkEnd) (count : ℕ) (b : List ℕ) (left : Option (List ℕ)) → (e ≡ ReadFault) ⊎ (e ≡ NoMemory) → length b < count → LacksBytes e count b left
lacks_at_fault e count b left (inl is) few = rw is few
lacks_at_fault e count b left (inr is) few = rw is tt

-- what was scanned is the front of what stands there now
pub scanned_more : (b now piece : List ℕ) (s : Scan) (n : ℕ) → n ≡ length b → head_end b ≡ Err s → length b < 16384 → now ≡ b ++ piece
    → scan 0 Blank (take n now) ≡ Err s
scanned_more b now piece s n all ends few added =
    rw (all, added) (rw (take-append-le (length b) b piece (omega arith)) (head_end-all b s few ends))

pub grown : (b now piece : List ℕ) (n : ℕ) → n ≡ length b → now ≡ b ++ piece → n ≤ length now
grown b now piece n all added = rw (all, added) (omega (arith, length-append b piece))
