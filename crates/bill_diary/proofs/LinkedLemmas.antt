-- Frames that are linked by their bills, and what one frame does to a history.
use Rattle.std.proofs.Common.{◌≡◌, ℕ, ◌+◌, ◌<◌, ◌≤◌, Bool, true, false, cond, List, [], ◌∷◌, ◌++◌, Option, Some, None, length, take, drop, reverse, refl, sym, ap, subst, ◌∙◌, arith, length-append, ⊎_elim, get_or}
use Rattle.std.specs.Prelude.{IfSome, slice_get, unwrap_or, option_map}
use Rattle.std.specs.List.{cons_option}
use Rattle.std.specs.Option.{option_to_list}
use Rattle.std.specs.BTreeMap.{BTreeMap, get, Updates}
use Rattle.std.proofs.lemmas.Map.Text.{is_eq-slice_cmp}
use Rattle.std.proofs.lemmas.Option.{slice_get_within, slice_get-get_or, slice_get_read, get_or_from_slice_get}
use Rattle.std.proofs.lemmas.List.{get_or_append_left, take-append-le, take-append-drop, take_all, take-take, take_more, length-take-le}
use Rattle.std.proofs.lemmas.Bool.{cases_lt}
use Rattle.std.proofs.Math.Seq.{get_or-append_seam, take-append_seam}
use Rattle.ebl_base.specs.Checksum.{checksum_cmp, checksum_eq}
use Rattle.ebl_base.specs.declared.checksum.Checksum.{Checksum}
use Rattle.ebl_base.specs.declared.chain.ChainLink.{ChainLink}
use Rattle.ebl_base.proofs.ChecksumLemmas.{checksum_eq-Decides}
use Rattle.bill_chain.specs.Chain.{last_of}
use Rattle.bill_diary.specs.declared.record.Record.{Record}
use Rattle.bill_diary.specs.declared.record.Record.TheVariants.{Signed, Acted, Attached, Parted, Settled, Regained, Begun, Stored, Taken, Declined}
use Rattle.bill_diary.specs.declared.frame.Frame.{Frame}
use Rattle.bill_diary.specs.declared.frame.Frame.TheVariants.{One, BegunTaken}
use Rattle.bill_diary.specs.History.{bill_of, taken_after, records_of, of_bill, history}
use Rattle.bill_diary.specs.Linked.{bill_in, AreLinked, AreEnds, end_in}
use Rattle.bill_diary.proofs.HistoryLemmas.{history-append}

-- ---- one frame more

same : (bill : Checksum) → checksum_eq bill bill ≡ true
same bill = (checksum_eq-Decides bill bill).1 refl

-- the records of a frame, newest first
abbrev newest_of : Record → Option Record → List Record
newest_of r next = reverse (r ∷ option_to_list next)

own_on : (bill : Checksum) (r : Record) (next : Option Record) → checksum_eq (bill_of r) bill ≡ true
    → IfSome next (λ n. checksum_eq (bill_of n) bill ≡ true)
    → of_bill bill (reverse ((r ∷ option_to_list next) ++ [])) ≡ newest_of r next
own_on bill r None is next_is = ap (λ b. cond b (r ∷ []) []) is
own_on bill r (Some n) is next_is =
    ap (λ b. cond b (n ∷ cond (checksum_eq (bill_of r) bill) (r ∷ []) []) (cond (checksum_eq (bill_of r) bill)
    (r ∷ []) [])) next_is ∙ ap (λ b. n ∷ cond b (r ∷ []) []) is

other_on : (bill : Checksum) (r : Record) (next : Option Record) → checksum_eq (bill_of r) bill ≡ false
    → IfSome next (λ n. checksum_eq (bill_of n) bill ≡ false)
    → of_bill bill (reverse ((r ∷ option_to_list next) ++ [])) ≡ []
other_on bill r None is next_is = ap (λ b. cond b (r ∷ []) []) is
other_on bill r (Some n) is next_is =
    ap (λ b. cond b (n ∷ cond (checksum_eq (bill_of r) bill) (r ∷ []) []) (cond (checksum_eq (bill_of r) bill)
    (r ∷ []) [])) next_is ∙ ap (λ b. cond b (r ∷ []) []) is

taken_on : (bill other : Checksum) (test : Bool) (last : Option ChainLink) → checksum_eq bill other ≡ test
    → IfSome (option_map (λ link. Taken bill link.name) last) (λ n. checksum_eq (bill_of n) other ≡ test)
taken_on bill other test None is = tt
taken_on bill other test (Some link) is = is

-- the Taken in a frame is of the bill of its Begun
taken_is : (r : Record) (other : Checksum) (test : Bool) → checksum_eq (bill_of r) other ≡ test
    → IfSome (taken_after r) (λ n. checksum_eq (bill_of n) other ≡ test)
taken_is (Signed bill document transaction) other test is = tt
taken_is (Acted bill transaction) other test is = tt
taken_is (Attached bill piece bytes) other test is = tt
taken_is (Parted bill link manifest manifest_text) other test is = tt
taken_is (Settled bill entry) other test is = tt
taken_is (Regained bill entry) other test is = tt
taken_is (Begun bill chain manifest body) other test is = taken_on bill other test (last_of chain) is
taken_is (Stored bill entry checksum bytes) other test is = tt
taken_is (Taken bill entry) other test is = tt
taken_is (Declined bill entry code reason evidence) other test is = tt

own_frame : (bill : Checksum) (frame : Frame) → checksum_eq (bill_in frame) bill ≡ true
    → history bill (frame ∷ []) ≡ reverse (records_of frame)
own_frame bill (One r) is = own_on bill r None is tt
own_frame bill (BegunTaken r) is = own_on bill r (taken_after r) is (taken_is r bill true is)

other_frame : (bill : Checksum) (frame : Frame) → checksum_eq (bill_in frame) bill ≡ false
    → history bill (frame ∷ []) ≡ []
other_frame bill (One r) is = other_on bill r None is tt
other_frame bill (BegunTaken r) is = other_on bill r (taken_after r) is (taken_is r bill false is)

-- one frame more stands in the history of its bill
pub own_history : (diary : List Frame) (frame : Frame) (bill : Checksum) → checksum_eq (bill_in frame) bill ≡ true
    → history bill (diary ++ frame ∷ []) ≡ reverse (records_of frame) ++ history bill diary
own_history diary frame bill is =
    history-append diary (frame ∷ []) bill ∙ ap (λ rs. rs ++ history bill diary) (own_frame bill frame is)

-- and changes no other one
pub other_history : (diary : List Frame) (frame : Frame) (bill : Checksum) → checksum_eq (bill_in frame) bill ≡ false
    → history bill (diary ++ frame ∷ []) ≡ history bill diary
other_history diary frame bill is =
    history-append diary (frame ∷ []) bill ∙ ap (λ rs. rs ++ history bill diary) (other_frame bill frame is)

-- ---- fronts of linked frames

there : {X : Type 0} (xs ys : List X) (i : ℕ) (x : X) → slice_get xs i ≡ Some x → slice_get (xs ++ ys) i ≡ Some x
there xs ys i x h =
    let within : i < length xs = slice_get_within xs i x h in
    let whole : i < length (xs ++ ys) = omega (arith, length-append xs ys) in
    slice_get-get_or (xs ++ ys) i x whole
    ∙ ap Some (get_or_append_left xs ys x i within ∙ get_or_from_slice_get xs i x x h)

at_seam : {X : Type 0} (xs : List X) (x : X) → slice_get (xs ++ x ∷ []) (length xs) ≡ Some x
at_seam xs x =
    let whole : length xs < length (xs ++ x ∷ []) = omega (arith, length-append xs (x ∷ [])) in
    slice_get-get_or (xs ++ x ∷ []) (length xs) x whole ∙ ap Some (get_or-append_seam xs x [] x)

pub linked_front : (front rest : List Frame) (links : List ℕ) → AreLinked (front ++ rest) links → AreLinked front links
linked_front front rest links linked i link frame is_link is_frame =
    let within : i < length front = slice_get_within front i frame is_frame in
    let here = linked i link frame is_link (there front rest i frame is_frame) in
    let before : link ≤ i = here.0 in
    let h : List Frame → List Record = history (bill_in frame) in (
      before,
      ap h (sym (take-append-le link front rest (omega arith))) ∙ here.1
          ∙ ap h (take-append-le i front rest (omega arith)),
    )

pub linked_take : (n : ℕ) (frames : List Frame) (links : List ℕ) → AreLinked frames links → AreLinked (take n frames) links
linked_take n frames links linked =
    linked_front (take n frames) (drop n frames) links
    (subst (λ (fs : List Frame). AreLinked fs links) (sym (take-append-drop n frames)) linked)

-- ---- the frame before the last that is of the same bill

-- the frames up to the link of the one behind them
abbrev pub up_to_link : List Frame → List ℕ → List Frame
up_to_link before links = take (unwrap_or (slice_get links (length before)) (length before)) before

link_on : (before : List Frame) (frame : Frame) (links : List ℕ) (link : Option ℕ)
    → slice_get links (length before) ≡ link → AreLinked (before ++ frame ∷ []) links
    → IfSome link (λ n. n ≤ length before)
    × (history (bill_in frame) (take (unwrap_or link (length before)) before) ≡ history (bill_in frame) before)
link_on before frame links None is linked =
    (tt, ap (history (bill_in frame)) (take_all (length before) before (omega arith)))
link_on before frame links (Some link) is linked =
    let here = linked (length before) link frame is (at_seam before frame) in
    let h : List Frame → List Record = history (bill_in frame) in (
      here.0,
      ap h (sym (take-append-le link before (frame ∷ []) here.0)) ∙ here.1
          ∙ ap h (take-append_seam before (frame ∷ [])),
    )

pub link_within : (before : List Frame) (frame : Frame) (links : List ℕ) → AreLinked (before ++ frame ∷ []) links
    → IfSome (slice_get links (length before)) (λ n. n ≤ length before)
link_within before frame links linked = (link_on before frame links (slice_get links (length before)) refl linked).0

pub linked_up_to : (before : List Frame) (frame : Frame) (links : List ℕ) → AreLinked (before ++ frame ∷ []) links
    → AreLinked (up_to_link before links) links
linked_up_to before frame links linked =
    linked_take (unwrap_or (slice_get links (length before)) (length before)) before links
    (linked_front before (frame ∷ []) links linked)

cons_append : (begun : Option Record) (h : List Record) → option_to_list begun ++ h ≡ cons_option begun h
cons_append None h = refl
cons_append (Some r) h = refl

-- a bill's history in some frames, the last of which is of the bill: the newest record of that frame, its Begun, and
-- the history up to the link
pub next_own : (bill : Checksum) (before : List Frame) (frame : Frame) (links : List ℕ)
    → (newest : Record) (begun : Option Record) → checksum_eq (bill_in frame) bill ≡ true
    → AreLinked (before ++ frame ∷ []) links → reverse (records_of frame) ≡ newest ∷ option_to_list begun
    → history bill (before ++ frame ∷ []) ≡ newest ∷ cons_option begun (history bill (up_to_link before links))
next_own bill before frame links newest begun is linked parts =
    let link = slice_get links (length before) in
    let up_to : history bill (up_to_link before links) ≡ history bill before =
    subst (λ (b : Checksum). history b (up_to_link before links) ≡ history b before)
    ((checksum_eq-Decides (bill_in frame) bill).0 is) (link_on before frame links link refl linked).1 in
    own_history before frame bill is
    ∙ ap (λ (rs : List Record). rs ++ history bill before) parts
    ∙ ap (λ (h : List Record). newest ∷ h)
    (ap (λ (h : List Record). option_to_list begun ++ h) (sym up_to)
    ∙ cons_append begun (history bill (up_to_link before links)))

-- ---- making links

one_value : {X : Type 0} {x y : X} → Some x ≡ Some y → x ≡ y
one_value h = cc h

-- a link of a frame, as `AreLinked` says it
IsLink : List Frame → ℕ → ℕ → Frame → Type 0
IsLink frames i link frame =
    (link ≤ i) × (history (bill_in frame) (take link frames) ≡ history (bill_in frame) (take i frames))

moved : (frames : List Frame) (i j link other : ℕ) (frame item : Frame) → i ≡ j → link ≡ other → frame ≡ item
    → IsLink frames i link frame → IsLink frames j other item
moved frames i j link other frame item same_i same_link same_frame is =
    subst (λ (f : Frame). IsLink frames j other f) same_frame
    (subst (λ (l : ℕ). IsLink frames j l frame) same_link
    (subst (λ (k : ℕ). IsLink frames k link frame) same_i is))

linked_at_end : (frames : List Frame) (links : List ℕ) (link : ℕ) (frame : Frame)
    → slice_get frames (length links) ≡ Some frame → IsLink frames (length links) link frame
    → (j other : ℕ) (item : Frame) → length links ≡ j → slice_get (links ++ link ∷ []) j ≡ Some other
    → slice_get frames j ≡ Some item → IsLink frames j other item
linked_at_end frames links link frame is here j other item at is_other is_item =
    moved frames (length links) j link other frame item at
    (one_value (sym (at_seam links link) ∙ ap (slice_get (links ++ link ∷ [])) at ∙ is_other))
    (one_value (sym is ∙ ap (slice_get frames) at ∙ is_item)) here

-- one frame more is linked
pub linked_more : (frames : List Frame) (links : List ℕ) (link : ℕ) (frame : Frame)
    → AreLinked frames links → slice_get frames (length links) ≡ Some frame → link ≤ length links
    → history (bill_in frame) (take link (take (length links) frames))
    ≡ history (bill_in frame) (take (length links) frames)
    → AreLinked frames (links ++ link ∷ [])
unfolding IsLink
linked_more frames links link frame linked is within up_to j other item is_other is_item =
    ⊎_elim
    (λ (before : j < length links).
    linked j other item
    (slice_get-get_or links j other before
    ∙ ap Some (sym (get_or_append_left links (link ∷ []) other j before)
    ∙ get_or_from_slice_get (links ++ link ∷ []) j other other is_other)) is_item)
    (λ (behind : length links ≤ j).
    let last : j < length (links ++ link ∷ []) = slice_get_within (links ++ link ∷ []) j other is_other in
    let at : length links ≡ j = omega (arith, length-append links (link ∷ [])) in
    linked_at_end frames links link frame is
    (within, ap (history (bill_in frame)) (sym (take-take link (length links) frames within)) ∙ up_to)
    j other item at is_other is_item)
    (cases_lt j (length links))

end_on : (done : List Frame) (frame : Frame) (q : Checksum) (k : ℕ) (found : Option ℕ) (test : Bool)
    → length (done ++ frame ∷ []) ≡ k → checksum_eq (bill_in frame) q ≡ test
    → (unwrap_or found 0 ≤ length done) × (history q (take (unwrap_or found 0) done) ≡ history q done)
    → (unwrap_or (cond test (Some k) found) 0 ≤ length (done ++ frame ∷ []))
    × (history q (take (unwrap_or (cond test (Some k) found) 0) (done ++ frame ∷ [])) ≡ history q (done ++ frame ∷ []))
end_on done frame q k found true size is old =
    (omega arith, ap (history q) (take_all k (done ++ frame ∷ []) (omega arith)))
end_on done frame q k found false size is old =
    let within : unwrap_or found 0 ≤ length done = old.0 in (
      omega (arith, length-append done (frame ∷ [])),
      ap (history q) (take-append-le (unwrap_or found 0) done (frame ∷ []) within) ∙ old.1
          ∙ sym (other_history done frame q is),
    )

-- and is the end of its bill
pub ends_more : (done : List Frame) (frame : Frame) (old new : BTreeMap Checksum ℕ) (k : ℕ)
    → length (done ++ frame ∷ []) ≡ k → AreEnds done old → Updates checksum_cmp old new (bill_in frame) (Some k)
    → AreEnds (done ++ frame ∷ []) new
ends_more done frame old new k size ended updates q =
    let test : Bool = checksum_eq (bill_in frame) q in
    let found : get checksum_cmp new q ≡ cond test (Some k) (get checksum_cmp old q) =
    updates.0 q
    ∙ ap (λ (b : Bool). cond b (Some k) (get checksum_cmp old q)) (is_eq-slice_cmp (bill_in frame).0 q.0) in
    subst (λ (o : Option ℕ). (unwrap_or o 0 ≤ length (done ++ frame ∷ []))
    × (history q (take (unwrap_or o 0) (done ++ frame ∷ [])) ≡ history q (done ++ frame ∷ []))) (sym found)
    (end_on done frame q k (get checksum_cmp old q) test size refl (ended q))

-- what holds of the links and ends of the first frames holds with one frame more
pub indexed_more : (frames : List Frame) (links new_links : List ℕ) (ends new_ends : BTreeMap Checksum ℕ)
    → (i link : ℕ) (frame : Frame) → i < length frames → frame ≡ get_or frames i frame
    → link ≡ end_in ends (bill_in frame) → new_links ≡ links ++ link ∷ []
    → Updates checksum_cmp ends new_ends (bill_in frame) (Some (i + 1))
    → length links ≡ i → AreLinked frames links → AreEnds (take i frames) ends
    → (length new_links ≡ i + 1) × AreLinked frames new_links × AreEnds (take (i + 1) frames) new_ends
indexed_more frames links new_links ends new_ends i link frame below is link_is links_are updates size linked ended =
    let done : List Frame = take i frames in
    let end = ended (bill_in frame) in
    let done_size : length done ≡ i = length-take-le i frames (omega arith) in
    let more : take (i + 1) frames ≡ done ++ frame ∷ [] =
    take_more frames i frame below ∙ ap (λ (f : Frame). done ++ f ∷ []) (sym is) in
    let within : end_in ends (bill_in frame) ≤ length done = end.0 in
    let front : take (length links) frames ≡ done = ap (λ (n : ℕ). take n frames) size in
    let up_to : history (bill_in frame) (take link (take (length links) frames))
    ≡ history (bill_in frame) (take (length links) frames) =
    ap (λ (fs : List Frame). history (bill_in frame) (take link fs)) front
    ∙ ap (λ (n : ℕ). history (bill_in frame) (take n done)) link_is ∙ end.1
    ∙ ap (history (bill_in frame)) (sym front) in (
      omega (arith, ap length links_are, length-append links (link ∷ [])),
      subst (λ (ls : List ℕ). AreLinked frames ls) (sym links_are)
          (linked_more frames links link frame linked
          (ap (slice_get frames) size ∙ slice_get_read frames (length frames) i frame refl below is)
          (omega (arith, link_is)) up_to),
      subst (λ (fs : List Frame). AreEnds fs new_ends) (sym more)
          (ends_more done frame ends new_ends (i + 1) (omega (arith, length-append done (frame ∷ []))) ended updates),
    )
