-- How a session goes on from request to request.
use Rattle.std.proofs.Common.{◌≡◌, ℕ, ◌+◌, ◌≤◌, Bool, true, false, List, [], ◌∷◌, ◌++◌, refl, ap, sym, ◌∙◌, subst, length, map, arith, append_assoc, append-nil, length-append, inl, inr}
use Rattle.std.specs.Prelude.{◌≢◌, Result, Ok, Err, OnOk, IfErr, Option, MatchBool}
use Rattle.std.specs.List.{flat_map}
use Rattle.std.specs.Io.KnownBytes.{Consumes, Appends}
use Rattle.std.proofs.KnownBytes.{Consumes-nil, Consumes-trans, Appends-nil, Appends-trans}
use Rattle.ebl_edge.specs.Sink.{AppendsFirst}
use Rattle.http_requests.specs.Next.{Incoming, whole, refused, formed, IsNext, CutEnd, nothing, within, status, parted, stopped, EndsAt, Cuts}
use Rattle.http_requests.proofs.CutLemmas.{IsNext-more}
use Rattle.platform_requests.specs.Desk.{Call}
use Rattle.ebl_base.specs.declared.moment.Moment.{Moment}
use Rattle.ebl_base.specs.declared.party.Party.{Party}
use Rattle.ebl_edge.specs.Clock.{Gives}
use Rattle.ebl_edge.proofs.ClockLemmas.{Gives-nil, Gives-trans}
use Rattle.reply_forms.specs.declared.body.ReplyBody.TheVariants as bodies
use Rattle.reply_forms.specs.Body.{body_of}
use Rattle.http_heads.specs.declared.status.Status.{Status}
use Rattle.http_heads.specs.declared.status.Status.TheVariants as statuses
use Rattle.http_requests.specs.Asked.{Asks, of_desk, of_party}
use Rattle.pint_http.specs.Reply.{reply_text, known_body, status_of}
use Rattle.pint_http.specs.Session.{Exchange, taken, tested, incoming_of, call_of, moment_of, reply_of, last_reply, Session, calls_of, moments_of, GoesOn, IsEndOf, StandsBehind, LeavesBody, Wrote, Served}
use Rattle.http_requests.specs.Reading.{Fills, Read, IsStop}
use Rattle.pint_http.specs.Answered.{Answered, IsReplyEnd, IsReplyFault}
use Rattle.http_requests.specs.declared.end.LinkEnd.{LinkEnd}
use Rattle.http_requests.specs.declared.end.LinkEnd.TheVariants.{Closed, Cut, ReadFault, WriteFault, Limit, NoMemory}

-- Some exchanges were had, and whatever comes behind the buffer goes on from them.
pub record Progress (left now_left written now_written : Option (List ℕ)) (given now_given : Option (List Moment)) (buffer : List ℕ) (known : Party → Bool) (Run : List Call → Type 0) (count : ℕ) : Type 0 where
  pub read : List ℕ
  pub exchanges : List Exchange
  pub consumed : Consumes left now_left read
  pub goes_on : (more : List ℕ) (asked : List Incoming) (end : CutEnd) → Cuts (buffer ++ more) asked end → Cuts (read ++ more) (map incoming_of exchanges ++ asked) end
  pub behind : (more : List ℕ) → StandsBehind (read ++ more) (map incoming_of exchanges) (buffer ++ more)
  pub wrote : Appends written now_written (flat_map (reply_of known) exchanges)
  pub run : Run (calls_of exchanges)
  pub moments : Gives given (moments_of exchanges) now_given
  pub counted : length exchanges ≡ count

pub progress_at_start : (left written : Option (List ℕ)) (given : Option (List Moment)) (known : Party → Bool) (Run : List Call → Type 0) → Run []
    → Progress left left written written given given [] known Run 0
progress_at_start left written given known Run starts = record {
  read = [];
  exchanges = [];
  consumed = Consumes-nil left;
  goes_on = λ more asked end cuts. cuts;
  behind = λ more. refl;
  wrote = Appends-nil written;
  run = starts;
  moments = Gives-nil given;
  counted = refl;
}

flat_map-end : {A B : Type 0} (f : A → List B) (xs : List A) (x : A) → flat_map f (xs ++ x ∷ []) ≡ flat_map f xs ++ f x
flat_map-end f [] x = append-nil (f x)
flat_map-end f (y ∷ xs) x = ap (λ l. f y ++ l) (flat_map-end f xs x) ∙ sym (append_assoc (f y) (flat_map f xs) (f x))

map-end : (xs : List Exchange) (x : Exchange) (asked : List Incoming) → map incoming_of (xs ++ x ∷ []) ++ asked ≡ map incoming_of xs ++ incoming_of x ∷ asked
map-end [] x asked = refl
map-end (y ∷ xs) x asked = ap (λ l. incoming_of y ∷ l) (map-end xs x asked)

listed : (xs : List Exchange) (x : Exchange) (a : Incoming) → incoming_of x ≡ a → map incoming_of xs ++ a ∷ [] ≡ map incoming_of (xs ++ x ∷ [])
listed xs x a is =
    ap (λ b. map incoming_of xs ++ b ∷ []) (sym is) ∙ sym (map-end xs x []) ∙ append-nil (map incoming_of (xs ++ x ∷ []))

-- one request more
stands_over : (b : List ℕ) (requests : List Incoming) (mid after : List ℕ) (a : Incoming) → StandsBehind b requests mid → IsNext mid (whole a after)
    → StandsBehind b (requests ++ a ∷ []) after
stands_over b [] mid after a same next =
    let P : List ℕ → Type 0 = λ x. IsNext x (whole a after) in
    (after, subst P same next, refl)
stands_over b (r ∷ requests) mid after a (x, first, rest) next = (x, first, stands_over x requests mid after a rest next)

-- a whole request whose reply keeps the link open, and then the rest
pub cuts_over : (b rest more : List ℕ) (a : Incoming) (asked : List Incoming) (end : CutEnd) → IsNext b (whole a rest) → a.keeps ≡ true
    → Cuts (rest ++ more) asked end → Cuts (b ++ more) (a ∷ asked) end
cuts_over b rest more a asked end next keeps cuts =
    let P : Bool → Type 0 = λ k. MatchBool k (Cuts (rest ++ more) asked end) ((asked ≡ []) × (end ≡ parted)) in
    (rest ++ more, IsNext-more b more a rest next, subst P (sym keeps) cuts)

-- a whole request whose reply closes the link is the last
pub cuts_last : (b rest more : List ℕ) (a : Incoming) → IsNext b (whole a rest) → a.keeps ≡ false → Cuts (b ++ more) (a ∷ []) parted
cuts_last b rest more a next closes =
    let P : Bool → Type 0 = λ k. MatchBool k (Cuts (rest ++ more) [] parted) ((◌≡◌ {A = List Incoming} [] []) × (◌≡◌ {A = CutEnd} parted parted)) in
    (rest ++ more, IsNext-more b more a rest next, subst P (sym closes) (refl, refl))

-- the reply was written, and the link stays open
pub progress_over : (left l1 l2 written w1 w2 : Option (List ℕ)) (given g1 g2 : Option (List Moment)) (buffer filled rest : List ℕ) (known : Party → Bool) (Run Step Then : List Call → Type 0) (count : ℕ) (a : Incoming)
    → ((calls more : List Call) → Run calls → Step more → Then (calls ++ more))
    → Progress left l1 written w1 given g1 buffer known Run count
    → Fills l1 l2 buffer filled → IsNext filled (whole a rest) → a.keeps ≡ true
    → Answered Closed a w1 w2 g1 g2 known Step
    → Progress left l2 written w2 given g2 rest known Then (count + 1)
progress_over left l1 l2 written w1 w2 given g1 g2 buffer filled rest known Run Step Then count a join p fill next keeps done = record {
  read = p.read ++ fill.piece;
  exchanges = p.exchanges ++ done.exchange ∷ [];
  consumed = Consumes-trans left l1 l2 p.read fill.piece p.consumed fill.consumed;
  goes_on = λ more asked end cuts.
      let one : Cuts (filled ++ more) (a ∷ asked) end = cuts_over filled rest more a asked end next keeps cuts in
      let behind : filled ++ more ≡ buffer ++ (fill.piece ++ more) = ap (λ l. l ++ more) fill.added ∙ append_assoc buffer fill.piece more in
      let P : List ℕ → Type 0 = λ b. Cuts b (a ∷ asked) end in
      let all = p.goes_on (fill.piece ++ more) (a ∷ asked) end (subst P behind one) in
      let list : map incoming_of p.exchanges ++ a ∷ asked ≡ map incoming_of (p.exchanges ++ done.exchange ∷ []) ++ asked =
      ap (λ x. map incoming_of p.exchanges ++ x ∷ asked) (sym done.is_asked) ∙ sym (map-end p.exchanges done.exchange asked) in
      let Q : List Incoming → Type 0 = λ l. Cuts (p.read ++ (fill.piece ++ more)) l end in
      let R : List ℕ → Type 0 = λ b. Cuts b (map incoming_of (p.exchanges ++ done.exchange ∷ []) ++ asked) end in
      subst R (sym (append_assoc p.read fill.piece more)) (subst Q list all);
  behind = λ more.
      let now : buffer ++ (fill.piece ++ more) ≡ filled ++ more = sym (ap (λ l. l ++ more) fill.added ∙ append_assoc buffer fill.piece more) in
      let asked = map incoming_of p.exchanges in
      let P : List ℕ → Type 0 = StandsBehind (p.read ++ (fill.piece ++ more)) asked in
      let before = subst P now (p.behind (fill.piece ++ more)) in
      let over = stands_over (p.read ++ (fill.piece ++ more)) asked (filled ++ more) (rest ++ more) a before (IsNext-more filled more a rest next) in
      let Q : List Incoming → Type 0 = λ l. StandsBehind (p.read ++ (fill.piece ++ more)) l (rest ++ more) in
      let R : List ℕ → Type 0 = λ b. StandsBehind b (map incoming_of (p.exchanges ++ done.exchange ∷ [])) (rest ++ more) in
      subst R (sym (append_assoc p.read fill.piece more)) (subst Q (listed p.exchanges done.exchange a done.is_asked) over);
  wrote =
      let both = Appends-trans written w1 w2 (flat_map (reply_of known) p.exchanges) (reply_of known done.exchange) p.wrote done.wrote in
      let P : List ℕ → Type 0 = Appends written w2 in
      subst P (sym (flat_map-end (reply_of known) p.exchanges done.exchange)) both;
  run =
      let both = join (calls_of p.exchanges) (call_of done.exchange) p.run done.run in
      subst Then (sym (flat_map-end call_of p.exchanges done.exchange)) both;
  moments =
      let both = Gives-trans given g1 g2 (moments_of p.exchanges) (moment_of done.exchange) p.moments done.moments in
      let P : List Moment → Type 0 = λ ms. Gives given ms g2 in
      subst P (sym (flat_map-end moment_of p.exchanges done.exchange)) both;
  counted = let n = p.counted in omega (arith, n, length-append p.exchanges (done.exchange ∷ []));
}

-- the buffer's whole rest is known, and nothing more is written
pub cuts_here : (left l1 l2 written w1 : Option (List ℕ)) (given g1 : Option (List Moment)) (buffer filled : List ℕ) (known : Party → Bool) (Run : List Call → Type 0) (count : ℕ) (end : CutEnd)
    → (p : Progress left l1 written w1 given g1 buffer known Run count) → (fill : Fills l1 l2 buffer filled) → EndsAt filled end
    → Cuts (p.read ++ fill.piece) (map incoming_of p.exchanges) end
cuts_here left l1 l2 written w1 given g1 buffer filled known Run count end p fill ends =
    let P : List ℕ → Type 0 = λ b. EndsAt b end in
    let Q : List Incoming → Type 0 = λ l. Cuts (p.read ++ fill.piece) l end in
    subst Q (append-nil (map incoming_of p.exchanges)) (p.goes_on fill.piece [] end (subst P fill.added ends))

first_of_all : (a b : Option (List ℕ)) (t : List ℕ) → Appends a b t → AppendsFirst a b t
first_of_all a b t wrote = record { front = t; back = []; parts = append-nil t; wrote = wrote }

wrote_all : (e : LinkEnd) (a b : Option (List ℕ)) (t : List ℕ) → Appends a b t → Wrote e a b t
wrote_all Closed a b t wrote = wrote
wrote_all Cut a b t wrote = wrote
wrote_all ReadFault a b t wrote = wrote
wrote_all WriteFault a b t wrote = first_of_all a b t wrote
wrote_all Limit a b t wrote = wrote
wrote_all NoMemory a b t wrote = first_of_all a b t wrote

first_after : (a b c : Option (List ℕ)) (t u : List ℕ) → Appends a b t → AppendsFirst b c u → AppendsFirst a c (t ++ u)
first_after a b c t u wrote first = record {
  front = t ++ first.front;
  back = first.back;
  parts = append_assoc t first.front first.back ∙ ap (λ l. t ++ l) first.parts;
  wrote = Appends-trans a b c t first.front wrote first.wrote;
}

wrote_after : (e : LinkEnd) (a b c : Option (List ℕ)) (t u : List ℕ) → Appends a b t → Wrote e b c u → Wrote e a c (t ++ u)
wrote_after Closed a b c t u wrote more = Appends-trans a b c t u wrote more
wrote_after Cut a b c t u wrote more = Appends-trans a b c t u wrote more
wrote_after ReadFault a b c t u wrote more = Appends-trans a b c t u wrote more
wrote_after WriteFault a b c t u wrote more = first_after a b c t u wrote more
wrote_after Limit a b c t u wrote more = Appends-trans a b c t u wrote more
wrote_after NoMemory a b c t u wrote more = first_after a b c t u wrote more

-- no reply more
pub served_by : (e : LinkEnd) (end : CutEnd) (left l1 l2 written w1 : Option (List ℕ)) (given g1 : Option (List Moment)) (buffer piece : List ℕ) (known : Party → Bool) (Run : List Call → Type 0) (count : ℕ)
    → (p : Progress left l1 written w1 given g1 buffer known Run count) → Consumes l1 l2 piece → EndsAt (buffer ++ piece) end
    → IsEndOf e (record { exchanges = p.exchanges; end = end }) l2 → LeavesBody (p.read ++ piece) (map incoming_of p.exchanges) end
    → last_reply end ≡ [] → Served e left l2 written w1 given g1 known Run
served_by e end left l1 l2 written w1 given g1 buffer piece known Run count p consumed at ends leaves silent = record {
  read = p.read ++ piece;
  session = record { exchanges = p.exchanges; end = end };
  consumed = Consumes-trans left l1 l2 p.read piece p.consumed consumed;
  cuts =
      let Q : List Incoming → Type 0 = λ l. Cuts (p.read ++ piece) l end in
      subst Q (append-nil (map incoming_of p.exchanges)) (p.goes_on piece [] end at);
  ends = ends;
  leaves = leaves;
  wrote =
      let text = flat_map (reply_of known) p.exchanges in
      let P : List ℕ → Type 0 = Wrote e written w1 in
      subst P (sym (ap (λ l. text ++ l) silent ∙ append-nil text)) (wrote_all e written w1 text p.wrote);
  run = p.run;
  moments = p.moments;
}

-- no whole request came
pub served_at_stop : (e : LinkEnd) (left l1 l2 written w1 : Option (List ℕ)) (given g1 : Option (List Moment)) (buffer now : List ℕ) (known : Party → Bool) (Run : List Call → Type 0) (count : ℕ)
    → Progress left l1 written w1 given g1 buffer known Run count → Read e l1 l2 buffer now → IsStop e now l2
    → Served e left l2 written w1 given g1 known Run
served_at_stop Closed left l1 l2 written w1 given g1 buffer now known Run count p r (empty, at_end) =
    served_by Closed nothing left l1 l2 written w1 given g1 buffer r.piece known Run count p r.consumed (sym r.added ∙ empty) at_end tt refl
served_at_stop Cut left l1 l2 written w1 given g1 buffer now known Run count p r (some, next, at_end) =
    let P : List ℕ → Type 0 = λ b. EndsAt b within in
    served_by Cut within left l1 l2 written w1 given g1 buffer r.piece known Run count p r.consumed (subst P r.added (some, next)) (refl, at_end) tt refl
served_at_stop ReadFault left l1 l2 written w1 given g1 buffer now known Run count p r (inl empty) =
    served_by ReadFault nothing left l1 l2 written w1 given g1 buffer r.piece known Run count p r.consumed (sym r.added ∙ empty) (inl refl) tt refl
served_at_stop ReadFault left l1 l2 written w1 given g1 buffer now known Run count p r (inr stands) =
    let P : List ℕ → Type 0 = λ b. EndsAt b within in
    served_by ReadFault within left l1 l2 written w1 given g1 buffer r.piece known Run count p r.consumed (subst P r.added stands) (inr refl) tt refl
served_at_stop WriteFault left l1 l2 written w1 given g1 buffer now known Run count p r stop = absurd stop
served_at_stop Limit left l1 l2 written w1 given g1 buffer now known Run count p r stop = absurd stop
served_at_stop NoMemory left l1 l2 written w1 given g1 buffer now known Run count p r stop =
    served_by NoMemory stopped left l1 l2 written w1 given g1 buffer r.piece known Run count p r.consumed tt tt tt refl

-- memory ran out before the desk was asked
pub served_no_memory : (left l1 l2 written w1 : Option (List ℕ)) (given g1 : Option (List Moment)) (buffer now : List ℕ) (known : Party → Bool) (Run : List Call → Type 0) (count : ℕ)
    → Progress left l1 written w1 given g1 buffer known Run count → Fills l1 l2 buffer now → Served NoMemory left l2 written w1 given g1 known Run
served_no_memory left l1 l2 written w1 given g1 buffer now known Run count p f =
    served_by NoMemory stopped left l1 l2 written w1 given g1 buffer f.piece known Run count p f.consumed tt tt tt refl

pub served_limit : (left l1 written w1 : Option (List ℕ)) (given g1 : Option (List Moment)) (buffer : List ℕ) (known : Party → Bool) (Run : List Call → Type 0)
    → Progress left l1 written w1 given g1 buffer known Run 1000000 → Served Limit left l1 written w1 given g1 known Run
served_limit left l1 written w1 given g1 buffer known Run p =
    served_by Limit stopped left l1 l1 written w1 given g1 buffer [] known Run 1000000 p (Consumes-nil l1) tt (refl, p.counted) tt refl

reply_end : (e : LinkEnd) (s : Session) (left : Option (List ℕ)) (n : Status) → IsReplyEnd e → s.end ≡ status n → IsEndOf e s left
reply_end Closed s left n is at = rw at tt
reply_end Cut s left n is at = absurd is
reply_end ReadFault s left n is at = absurd is
reply_end WriteFault s left n is at = tt
reply_end Limit s left n is at = absurd is
reply_end NoMemory s left n is at = tt

few_behind : (left l1 l2 written w1 : Option (List ℕ)) (given g1 : Option (List Moment)) (buffer now : List ℕ) (known : Party → Bool) (Run : List Call → Type 0) (count : ℕ) (n : Status)
    → (p : Progress left l1 written w1 given g1 buffer known Run count) → (f : Fills l1 l2 buffer now) → (n ≢ statuses.BadRequest → length now ≤ 16384)
    → LeavesBody (p.read ++ f.piece) (map incoming_of p.exchanges) (status n)
few_behind left l1 l2 written w1 given g1 buffer now known Run count n p f few other =
    let P : List ℕ → Type 0 = StandsBehind (p.read ++ f.piece) (map incoming_of p.exchanges) in
    (now, subst P (sym f.added) (p.behind f.piece), few other)

-- a status is answered
pub served_status : (e : LinkEnd) (left l1 l2 written w1 w2 : Option (List ℕ)) (given g1 : Option (List Moment)) (buffer now : List ℕ) (known : Party → Bool) (Run : List Call → Type 0) (count : ℕ) (n : Status)
    → Progress left l1 written w1 given g1 buffer known Run count → Fills l1 l2 buffer now → IsNext now (refused n)
    → (n ≢ statuses.BadRequest → length now ≤ 16384)
    → IsReplyEnd e → Wrote e w1 w2 (reply_text n bodies.Nothing false) → Served e left l2 written w2 given g1 known Run
served_status e left l1 l2 written w1 w2 given g1 buffer now known Run count n p f next few is wrote = record {
  read = p.read ++ f.piece;
  session = record { exchanges = p.exchanges; end = status n };
  consumed = Consumes-trans left l1 l2 p.read f.piece p.consumed f.consumed;
  cuts = cuts_here left l1 l2 written w1 given g1 buffer now known Run count (status n) p f next;
  ends = reply_end e _ l2 n is refl;
  leaves = few_behind left l1 l2 written w1 given g1 buffer now known Run count n p f few;
  wrote = wrote_after e written w1 w2 (flat_map (reply_of known) p.exchanges) (reply_text n bodies.Nothing false) p.wrote wrote;
  run = p.run;
  moments = p.moments;
}

-- where the last exchange leaves the link
abbrev pub last_end : Bool → CutEnd
last_end true = stopped
last_end false = parted

last_silent : (k : Bool) → last_reply (last_end k) ≡ []
last_silent true = refl
last_silent false = refl

last_leaves : (k : Bool) (read : List ℕ) (requests : List Incoming) → LeavesBody read requests (last_end k)
last_leaves true read requests = tt
last_leaves false read requests = tt

last_cuts : (k : Bool) (b rest more : List ℕ) (a : Incoming) → IsNext b (whole a rest) → a.keeps ≡ k → Cuts (b ++ more) (a ∷ []) (last_end k)
last_cuts true b rest more a next keeps = cuts_over b rest more a [] stopped next keeps tt
last_cuts false b rest more a next closes = cuts_last b rest more a next closes

-- the link may be closed after the last exchange: it says so, or the reply failed
abbrev pub MayEnd : LinkEnd → Bool → Type 0
MayEnd Closed k = k ≡ false
MayEnd Cut k = ⊥
MayEnd ReadFault k = ⊥
MayEnd WriteFault k = Unit {0}
MayEnd Limit k = ⊥
MayEnd NoMemory k = Unit {0}

closing_end : (k : Bool) (s : Session) (left : Option (List ℕ)) → k ≡ false → s.end ≡ last_end k → IsEndOf Closed s left
closing_end true s left closes at = grind arith
closing_end false s left closes at = rw at tt

last_ends : (e : LinkEnd) (k : Bool) (s : Session) (left : Option (List ℕ)) → MayEnd e k → s.end ≡ last_end k → IsEndOf e s left
last_ends Closed k s left may at = closing_end k s left may at
last_ends Cut k s left may at = absurd may
last_ends ReadFault k s left may at = absurd may
last_ends WriteFault k s left may at = tt
last_ends Limit k s left may at = absurd may
last_ends NoMemory k s left may at = tt

-- the last exchange
pub served_last : (e : LinkEnd) (k : Bool) (left l1 l2 written w1 w2 : Option (List ℕ)) (given g1 g2 : Option (List Moment)) (buffer filled rest : List ℕ) (known : Party → Bool) (Run Step Then : List Call → Type 0) (count : ℕ) (a : Incoming)
    → ((calls more : List Call) → Run calls → Step more → Then (calls ++ more))
    → Progress left l1 written w1 given g1 buffer known Run count
    → Fills l1 l2 buffer filled → IsNext filled (whole a rest) → a.keeps ≡ k → MayEnd e k
    → Answered e a w1 w2 g1 g2 known Step
    → Served e left l2 written w2 given g2 known Then
served_last e k left l1 l2 written w1 w2 given g1 g2 buffer filled rest known Run Step Then count a join p fill next keeps may done = record {
  read = p.read ++ fill.piece;
  session = record { exchanges = p.exchanges ++ done.exchange ∷ []; end = last_end k };
  consumed = Consumes-trans left l1 l2 p.read fill.piece p.consumed fill.consumed;
  cuts =
      let one : Cuts (filled ++ []) (a ∷ []) (last_end k) = last_cuts k filled rest [] a next keeps in
      let P : List ℕ → Type 0 = λ b. Cuts b (a ∷ []) (last_end k) in
      let all = p.goes_on fill.piece (a ∷ []) (last_end k) (subst P (append-nil filled ∙ fill.added) one) in
      let list = listed p.exchanges done.exchange a done.is_asked in
      let Q : List Incoming → Type 0 = λ l. Cuts (p.read ++ fill.piece) l (last_end k) in
      subst Q list all;
  ends = last_ends e k _ l2 may refl;
  leaves = last_leaves k _ _;
  wrote =
      let both = wrote_after e written w1 w2 (flat_map (reply_of known) p.exchanges) (reply_of known done.exchange) p.wrote done.wrote in
      let P : List ℕ → Type 0 = Wrote e written w2 in
      let text = flat_map (reply_of known) (p.exchanges ++ done.exchange ∷ []) in
      subst P (sym (ap (λ l. text ++ l) (last_silent k) ∙ append-nil text ∙ flat_map-end (reply_of known) p.exchanges done.exchange)) both;
  run = subst Then (sym (flat_map-end call_of p.exchanges done.exchange)) (join (calls_of p.exchanges) (call_of done.exchange) p.run done.run);
  moments =
      let both = Gives-trans given g1 g2 (moments_of p.exchanges) (moment_of done.exchange) p.moments done.moments in
      let P : List Moment → Type 0 = λ ms. Gives given ms g2 in
      subst P (sym (flat_map-end moment_of p.exchanges done.exchange)) both;
}

-- a test of a party
pub answered_test : (e : LinkEnd) (party : Party) (keeps : Bool) (w1 w2 : Option (List ℕ)) (given : Option (List Moment)) (known : Party → Bool) (Run : List Call → Type 0)
    → Run [] → Wrote e w1 w2 (reply_text statuses.Ok (known_body (known party)) keeps) → Answered e (record { asks = of_party party; keeps = keeps }) w1 w2 given given known Run
answered_test e party keeps w1 w2 given known Run stays wrote = record {
  exchange = tested party keeps;
  is_asked = refl;
  run = stays;
  moments = Gives-nil given;
  wrote = wrote;
}

-- a request of the desk
pub answered_take : (e : LinkEnd) (keeps : Bool) (call : Call) (w1 w2 : Option (List ℕ)) (g1 g2 : Option (List Moment)) (known : Party → Bool) (Run : List Call → Type 0)
    → Run (call ∷ [])
    → Gives g1 (call.now ∷ []) g2 → Wrote e w1 w2 (reply_text (status_of call.outcome.reply) (body_of call.outcome.reply) keeps)
    → Answered e (record { asks = of_desk call.request; keeps = keeps }) w1 w2 g1 g2 known Run
answered_take e keeps call w1 w2 g1 g2 known Run runs moment wrote = record {
  exchange = taken call keeps;
  is_asked = refl;
  run = runs;
  moments = moment;
  wrote = wrote;
}

-- no call
pub goes_on-nil : {K : Type 0} (run : K → List Call → K → Type 0) (desk : K) → GoesOn run desk [] desk
goes_on-nil run desk start before is = subst (λ calls. run start calls desk) (sym (append-nil before)) is

-- one session behind the other
pub goes_on-trans : {K : Type 0} (run : K → List Call → K → Type 0) (a b c : K) (calls more : List Call)
    → GoesOn run a calls b → GoesOn run b more c → GoesOn run a (calls ++ more) c
goes_on-trans run a b c calls more first second start before is =
    subst (λ all. run start all c) (append_assoc before calls more) (second start (before ++ calls) (first start before is))

pub OnOk-to : {A E : Type 0} (r : Result A E) {P Q : Type 0} → (P → Q) → OnOk r P → OnOk r Q
OnOk-to (Ok a) f h = f h
OnOk-to (Err e) f h = tt

pub IfErr-to : {A E : Type 0} (r : Result A E) {P Q : E → Type 0} → ((e : E) → P e → Q e) → IfErr r P → IfErr r Q
IfErr-to (Ok a) f h = tt
IfErr-to (Err e) f h = f e h

reply_same : (x : Exchange) (k known : Party → Bool) → ((party : Party) → k party ≡ known party) → reply_of k x ≡ reply_of known x
reply_same (taken call keeps) k known same = refl
reply_same (tested party keeps) k known same = ap (λ b. reply_text statuses.Ok (known_body b) keeps) (same party)

-- the desk's test of parties is that at the entry
pub answered_known : (e : LinkEnd) (a : Incoming) (w1 w2 : Option (List ℕ)) (g1 g2 : Option (List Moment)) (k known : Party → Bool) (Run : List Call → Type 0)
    → ((party : Party) → k party ≡ known party) → Answered e a w1 w2 g1 g2 k Run → Answered e a w1 w2 g1 g2 known Run
answered_known e a w1 w2 g1 g2 k known Run same done = record {
  exchange = done.exchange;
  is_asked = done.is_asked;
  run = done.run;
  moments = done.moments;
  wrote = let P : List ℕ → Type 0 = Wrote e w1 w2 in subst P (reply_same done.exchange k known same) done.wrote;
}

replies_same : (xs : List Exchange) (k known : Party → Bool) → ((party : Party) → k party ≡ known party) → flat_map (reply_of k) xs ≡ flat_map (reply_of known) xs
replies_same [] k known same = refl
replies_same (x ∷ xs) k known same =
    ap (λ l. l ++ flat_map (reply_of k) xs) (reply_same x k known same) ∙ ap (λ l. reply_of known x ++ l) (replies_same xs k known same)

-- a later session at the desk's test of parties of an earlier one
pub served_known : (e : LinkEnd) (left l1 written w1 : Option (List ℕ)) (given g1 : Option (List Moment)) (k known : Party → Bool) (Run : List Call → Type 0)
    → ((party : Party) → k party ≡ known party) → Served e left l1 written w1 given g1 k Run → Served e left l1 written w1 given g1 known Run
served_known e left l1 written w1 given g1 k known Run same served = record {
  read = served.read;
  session = served.session;
  consumed = served.consumed;
  cuts = served.cuts;
  ends = served.ends;
  leaves = served.leaves;
  wrote =
      let P : List ℕ → Type 0 = Wrote e written w1 in
      subst P (ap (λ l. l ++ last_reply served.session.end) (replies_same served.session.exchanges k known same)) served.wrote;
  run = served.run;
  moments = served.moments;
}

pub fault_may_end : (e : LinkEnd) (k : Bool) → IsReplyFault e → MayEnd e k
fault_may_end Closed k is = absurd is
fault_may_end Cut k is = absurd is
fault_may_end ReadFault k is = absurd is
fault_may_end WriteFault k is = tt
fault_may_end Limit k is = absurd is
fault_may_end NoMemory k is = tt

-- the same at other names of what stands there
pub progress_at : (left l1 written w1 w2 : Option (List ℕ)) (given g1 : Option (List Moment)) (b c : List ℕ) (known : Party → Bool) (Run : List Call → Type 0) (count : ℕ)
    → w2 ≡ w1 → c ≡ b → Progress left l1 written w1 given g1 b known Run count → Progress left l1 written w2 given g1 c known Run count
progress_at left l1 written w1 w2 given g1 b c known Run count same_w same_b p =
    let P : Option (List ℕ) → Type 0 = λ w. Progress left l1 written w given g1 b known Run count in
    let Q : List ℕ → Type 0 = λ x. Progress left l1 written w2 given g1 x known Run count in
    subst Q (sym same_b) (subst P (sym same_w) p)

pub fills_at : (l1 l2 l3 : Option (List ℕ)) (b f : List ℕ) → l3 ≡ l2 → Fills l1 l2 b f → Fills l1 l3 b f
fills_at l1 l2 l3 b f same fill =
    let P : Option (List ℕ) → Type 0 = λ l. Fills l1 l b f in
    subst P (sym same) fill

-- what the body asks, once it is known
pub next_formed : (filled rest : List ℕ) (asked found : Option Asks) (keeps : Bool) → found ≡ asked
    → IsNext filled (formed asked keeps rest) → IsNext filled (formed found keeps rest)
next_formed filled rest asked found keeps same next =
    let P : Option Asks → Type 0 = λ a. IsNext filled (formed a keeps rest) in
    subst P (sym same) next

-- memory ran out before a byte was read
pub served_at_entry : (left written : Option (List ℕ)) (given : Option (List Moment)) (known : Party → Bool) (Run : List Call → Type 0) → Run []
    → Served NoMemory left left written written given given known Run
served_at_entry left written given known Run starts =
    served_by NoMemory stopped left left left written written given given [] [] known Run 0
    (progress_at_start left written given known Run starts) (Consumes-nil left) tt tt tt refl

pub served_at_limit : (left l1 written w1 : Option (List ℕ)) (given g1 : Option (List Moment)) (buffer : List ℕ) (known : Party → Bool) (Run : List Call → Type 0) (count : ℕ)
    → count ≡ 1000000 → Progress left l1 written w1 given g1 buffer known Run count → Served Limit left l1 written w1 given g1 known Run
served_at_limit left l1 written w1 given g1 buffer known Run count all p =
    let P : ℕ → Type 0 = λ n. Progress left l1 written w1 given g1 buffer known Run n in
    served_limit left l1 written w1 given g1 buffer known Run (subst P all p)
