-- What the numbers of frames say of a diary's records.
use Rattle.std.proofs.Common.{◌≡◌, ℕ, ◌+◌, suc, arith, Bool, true, false, ◌&&◌, ◌||◌, cond, List, [], ◌∷◌, ◌++◌, Option, Some, None, reverse, refl, sym, ap, ◌∙◌, inl, inr}
use Rattle.std.specs.Prelude.{◌⊎◌, option_and_then, option_map, is_some, find, slice_get}
use Rattle.std.specs.List.{list_any, flat_map}
use Rattle.std.specs.Option.{option_or, option_to_list}
use Rattle.std.proofs.lemmas.List.{reverse-append}
use Rattle.std.proofs.lemmas.List.Folds.{find-append, list_any-append}
use Rattle.ebl_base.specs.Checksum.{checksum_eq}
use Rattle.ebl_base.specs.declared.checksum.Checksum.{Checksum}
use Rattle.ebl_base.specs.declared.reference.Reference.{Reference}
use Rattle.ebl_base.specs.declared.chain.ChainLink.{ChainLink}
use Rattle.ebl_base.proofs.ChecksumLemmas.{checksum_eq-Decides}
use Rattle.bill_chain.specs.Chain.{last_of}
use Rattle.bill_diary.specs.declared.record.Record.{Record}
use Rattle.bill_diary.specs.declared.record.Record.TheVariants.{Signed, Acted, Attached, Parted, Settled, Regained, Begun, Stored, Taken, Declined}
use Rattle.bill_diary.specs.declared.frame.Frame.{Frame}
use Rattle.bill_diary.specs.declared.frame.Frame.TheVariants.{One, BegunTaken}
use Rattle.bill_diary.specs.History.{bill_of, of_bill, taken_after, records_of, newest_first, history}
use Rattle.bill_diary.specs.Pieces.{brings, is_there}
use Rattle.bill_diary.specs.Place.{is_regained, is_settled, regains, settles}
use Rattle.bill_diary.specs.Receiving.{declines, is_taken, last_declined, takes}
use Rattle.bill_diary.specs.Searches.{bytes_in, first_bytes, kept_in, last_body, last_parted_record, signed_text}
use Rattle.bill_diary.specs.Sound.{has_reference, is_parted, last_with_reference}
use Rattle.bill_diary.proofs.HistoryLemmas.{history-append}
use Rattle.title_register.specs.Frames.{first_number, last_number, record_numbered, has, brings_to, for_bill, is_signed, is_begun, document_signed, body_begun, declination}
use Rattle.title_register.proofs.RegisterLemmas.{own_frame, other_frame}

or-false : (b : Bool) → (b || false) ≡ b
or-false true = refl
or-false false = refl

-- the newest records of a diary are those of its later frames
newest_first-cons : (frame : Frame) (diary : List Frame)
    → newest_first (frame ∷ diary) ≡ newest_first diary ++ reverse (records_of frame)
newest_first-cons frame diary = reverse-append (records_of frame) (flat_map records_of diary)

get_later : (frame : Frame) (diary : List Frame) (n : ℕ) → slice_get (frame ∷ diary) (n + 1) ≡ slice_get diary n
get_later frame diary n =
    let more : n + 1 ≡ suc n = omega arith in
    ap (slice_get (frame ∷ diary)) more

-- ---- tests that no Taken passes

module _ (test : Record → Bool) (no_taken : (bill entry : Checksum) → test (Taken bill entry) ≡ false) where
  follower_fails : (bill : Checksum) (last : Option ChainLink)
      → list_any test (option_to_list (option_map (λ (link : ChainLink). Taken bill link.name) last)) ≡ false
  follower_fails bill None = refl
  follower_fails bill (Some link) = ap (λ b. b || false) (no_taken bill link.name)

  followers_fail : (r : Record) → list_any test (option_to_list (taken_after r)) ≡ false
  followers_fail (Begun bill chain manifest body) = follower_fails bill (last_of chain)
  followers_fail (Signed bill document transaction) = refl
  followers_fail (Acted bill transaction) = refl
  followers_fail (Attached bill piece bytes) = refl
  followers_fail (Parted bill link manifest manifest_text) = refl
  followers_fail (Settled bill entry) = refl
  followers_fail (Regained bill entry) = refl
  followers_fail (Stored bill entry checksum bytes) = refl
  followers_fail (Taken bill entry) = refl
  followers_fail (Declined bill entry code reason evidence) = refl

  -- a frame has such a record where it keeps one
  has-kept_in : (frame : Frame) → has test frame ≡ test (kept_in frame)
  has-kept_in (One r) = or-false (test r)
  has-kept_in (BegunTaken r) = ap (λ b. test r || b) (followers_fail r) ∙ or-false (test r)

  abbrev own : Record → Option Record
  own r = cond (test r) (Some r) None

  find_before : (r : Record) (next : Option Record) → list_any test (option_to_list next) ≡ false
      → find test (reverse (r ∷ option_to_list next)) ≡ own r
  find_before r None fails = refl
  find_before r (Some n) fails = ap (λ b. cond b (Some n) (own r)) (sym (or-false (test n)) ∙ fails)

  find_own : (frame : Frame) → find test (reverse (records_of frame)) ≡ own (kept_in frame)
  find_own (One r) = refl
  find_own (BegunTaken r) = find_before r (taken_after r) (followers_fail r)

  find-cons : (frame : Frame) (diary : List Frame)
      → find test (newest_first (frame ∷ diary)) ≡ option_or (find test (newest_first diary)) (own (kept_in frame))
  find-cons frame diary =
      ap (find test) (newest_first-cons frame diary)
      ∙ find-append test (newest_first diary) (reverse (records_of frame))
      ∙ ap (option_or (find test (newest_first diary))) (find_own frame)

  -- the last such frame has a number, and keeps the last such record
  record Found (diary : List Frame) : Type 0 where
    at : ℕ
    one : Frame
    number_is : last_number (has test) diary ≡ Some at
    frame_is : slice_get diary at ≡ Some one
    record_is : find test (newest_first diary) ≡ Some (kept_in one)

  -- or there is none
  record Missing (diary : List Frame) : Type 0 where
    no_number : last_number (has test) diary ≡ None
    no_record : find test (newest_first diary) ≡ None

  last-cons : (frame : Frame) (diary : List Frame)
      → last_number (has test) (frame ∷ diary)
      ≡ option_or (option_map (λ n. n + 1) (last_number (has test) diary)) (cond (test (kept_in frame)) (Some 0) None)
  last-cons frame diary =
      ap (λ b. option_or (option_map (λ n. n + 1) (last_number (has test) diary)) (cond b (Some 0) None))
      (has-kept_in frame)

  later : (frame : Frame) (diary : List Frame) (b : Bool) → test (kept_in frame) ≡ b
      → Found diary ⊎ Missing diary → Found (frame ∷ diary) ⊎ Missing (frame ∷ diary)
  later frame diary b is (inl found) = inl (record {
    at = found.at + 1;
    one = found.one;
    number_is = last-cons frame diary
        ∙ ap (λ (n : Option ℕ). option_or (option_map (λ m. m + 1) n) (cond (test (kept_in frame)) (Some 0) None))
        found.number_is;
    frame_is = get_later frame diary found.at ∙ found.frame_is;
    record_is = find-cons frame diary
        ∙ ap (λ (r : Option Record). option_or r (own (kept_in frame))) found.record_is;
  })
  later frame diary true is (inr missing) = inl (record {
    at = 0;
    one = frame;
    number_is = last-cons frame diary
        ∙ ap (λ (n : Option ℕ). option_or (option_map (λ m. m + 1) n) (cond (test (kept_in frame)) (Some 0) None))
        missing.no_number
        ∙ ap (λ (t : Bool). cond t (Some 0) None) is;
    frame_is = refl;
    record_is = find-cons frame diary
        ∙ ap (λ (r : Option Record). option_or r (own (kept_in frame))) missing.no_record
        ∙ ap (λ (t : Bool). cond t (Some (kept_in frame)) None) is;
  })
  later frame diary false is (inr missing) = inr (record {
    no_number = last-cons frame diary
        ∙ ap (λ (n : Option ℕ). option_or (option_map (λ m. m + 1) n) (cond (test (kept_in frame)) (Some 0) None))
        missing.no_number
        ∙ ap (λ (t : Bool). cond t (Some 0) None) is;
    no_record = find-cons frame diary
        ∙ ap (λ (r : Option Record). option_or r (own (kept_in frame))) missing.no_record
        ∙ ap (λ (t : Bool). cond t (Some (kept_in frame)) None) is;
  })

  found_or_missing : (diary : List Frame) → Found diary ⊎ Missing diary
  found_or_missing [] = inr (record { no_number = refl; no_record = refl })
  found_or_missing (frame ∷ diary) = later frame diary (test (kept_in frame)) refl (found_or_missing diary)

  by_number : (diary : List Frame) → Found diary ⊎ Missing diary
      → record_numbered diary (last_number (has test) diary) ≡ find test (newest_first diary)
  by_number diary (inl found) =
      ap (record_numbered diary) found.number_is ∙ ap (option_map kept_in) found.frame_is ∙ sym found.record_is
  by_number diary (inr missing) = ap (record_numbered diary) missing.no_number ∙ sym missing.no_record

  -- the record of the last number is the last record
  pub last_record : (diary : List Frame)
      → record_numbered diary (last_number (has test) diary) ≡ find test (newest_first diary)
  last_record diary = by_number diary (found_or_missing diary)

-- ---- the last record of a bill that passes a test

find_on : (bill : Checksum) (test : Record → Bool) (r : Record) (records : List Record) (b : Bool)
    → find test (of_bill bill records) ≡ find (for_bill bill test) records
    → find test (cond b (r ∷ of_bill bill records) (of_bill bill records))
    ≡ cond (b && test r) (Some r) (find (for_bill bill test) records)
find_on bill test r records true further = ap (cond (test r) (Some r)) further
find_on bill test r records false further = further

find-of_bill : (bill : Checksum) (test : Record → Bool) (records : List Record)
    → find test (of_bill bill records) ≡ find (for_bill bill test) records
find-of_bill bill test [] = refl
find-of_bill bill test (r ∷ records) =
    find_on bill test r records (checksum_eq (bill_of r) bill) (find-of_bill bill test records)

and-false : (b : Bool) → (b && false) ≡ false
and-false true = refl
and-false false = refl

last_of_bill : (bill : Checksum) (test : Record → Bool) → ((b e : Checksum) → test (Taken b e) ≡ false)
    → (diary : List Frame)
    → record_numbered diary (last_number (has (for_bill bill test)) diary) ≡ find test (history bill diary)
last_of_bill bill test no_taken diary =
    last_record (for_bill bill test)
    (λ b e. ap (λ (t : Bool). checksum_eq b bill && t) (no_taken b e) ∙ and-false (checksum_eq b bill)) diary
    ∙ sym (find-of_bill bill test (newest_first diary))

pub parted_numbered : (bill : Checksum) (diary : List Frame)
    → record_numbered diary (last_number (has (for_bill bill is_parted)) diary)
    ≡ last_parted_record (history bill diary)
parted_numbered bill diary = last_of_bill bill is_parted (λ _ _. refl) diary

find-signed : (h : List Record) → option_and_then document_signed (find is_signed h) ≡ signed_text h
find-signed [] = refl
find-signed (Signed bill document transaction ∷ h) = refl
find-signed (Acted bill transaction ∷ h) = find-signed h
find-signed (Attached bill piece bytes ∷ h) = find-signed h
find-signed (Parted bill link manifest manifest_text ∷ h) = find-signed h
find-signed (Settled bill entry ∷ h) = find-signed h
find-signed (Regained bill entry ∷ h) = find-signed h
find-signed (Begun bill chain manifest body ∷ h) = find-signed h
find-signed (Stored bill entry checksum bytes ∷ h) = find-signed h
find-signed (Taken bill entry ∷ h) = find-signed h
find-signed (Declined bill entry code reason evidence ∷ h) = find-signed h

pub signed_numbered : (bill : Checksum) (diary : List Frame)
    → option_and_then document_signed (record_numbered diary (last_number (has (for_bill bill is_signed)) diary))
    ≡ signed_text (history bill diary)
signed_numbered bill diary =
    ap (option_and_then document_signed) (last_of_bill bill is_signed (λ _ _. refl) diary)
    ∙ find-signed (history bill diary)

find-begun : (h : List Record) → option_and_then body_begun (find is_begun h) ≡ last_body h
find-begun [] = refl
find-begun (Begun bill chain manifest body ∷ h) = refl
find-begun (Signed bill document transaction ∷ h) = find-begun h
find-begun (Acted bill transaction ∷ h) = find-begun h
find-begun (Attached bill piece bytes ∷ h) = find-begun h
find-begun (Parted bill link manifest manifest_text ∷ h) = find-begun h
find-begun (Settled bill entry ∷ h) = find-begun h
find-begun (Regained bill entry ∷ h) = find-begun h
find-begun (Stored bill entry checksum bytes ∷ h) = find-begun h
find-begun (Taken bill entry ∷ h) = find-begun h
find-begun (Declined bill entry code reason evidence ∷ h) = find-begun h

pub came_numbered : (bill : Checksum) (diary : List Frame)
    → option_and_then body_begun (record_numbered diary (last_number (has (for_bill bill is_begun)) diary))
    ≡ last_body (history bill diary)
came_numbered bill diary =
    ap (option_and_then body_begun) (last_of_bill bill is_begun (λ _ _. refl) diary)
    ∙ find-begun (history bill diary)

-- ---- the last Begun with a reference

pub begun_numbered : (reference : Reference) (diary : List Frame)
    → record_numbered diary (last_number (has (has_reference reference)) diary)
    ≡ last_with_reference reference (newest_first diary)
begun_numbered reference diary = last_record (has_reference reference) (λ _ _. refl) diary

-- ---- the last Declined of an entry

find-declined : (entry : Checksum) (records : List Record)
    → option_and_then declination (find (declines entry) records) ≡ last_declined entry records
find-declined entry [] = refl
find-declined entry (Declined bill other code reason evidence ∷ records) =
    on_test (checksum_eq other entry) (find-declined entry records)
  where
    on_test : (b : Bool)
        → option_and_then declination (find (declines entry) records) ≡ last_declined entry records
        → option_and_then declination
        (cond b (Some (Declined bill other code reason evidence)) (find (declines entry) records))
        ≡ cond b (Some (record { code = code; reason = reason; evidence = evidence })) (last_declined entry records)
    on_test true further = refl
    on_test false further = further
find-declined entry (Signed bill document transaction ∷ records) = find-declined entry records
find-declined entry (Acted bill transaction ∷ records) = find-declined entry records
find-declined entry (Attached bill piece bytes ∷ records) = find-declined entry records
find-declined entry (Parted bill link manifest manifest_text ∷ records) = find-declined entry records
find-declined entry (Settled bill other ∷ records) = find-declined entry records
find-declined entry (Regained bill other ∷ records) = find-declined entry records
find-declined entry (Begun bill chain manifest body ∷ records) = find-declined entry records
find-declined entry (Stored bill other checksum bytes ∷ records) = find-declined entry records
find-declined entry (Taken bill other ∷ records) = find-declined entry records

pub declined_numbered : (entry : Checksum) (diary : List Frame)
    → option_and_then declination (record_numbered diary (last_number (has (declines entry)) diary))
    ≡ last_declined entry (newest_first diary)
declined_numbered entry diary =
    ap (option_and_then declination) (last_record (declines entry) (λ _ _. refl) diary)
    ∙ find-declined entry (newest_first diary)

-- ---- whether an entry was taken

is_some_on : (b : Bool) (later : Option ℕ)
    → is_some (option_or (option_map (λ n. n + 1) later) (cond b (Some 0) None)) ≡ (is_some later || b)
is_some_on true None = refl
is_some_on false None = refl
is_some_on b (Some n) = refl

either : (a b : Bool) → (b || (a || false)) ≡ (a || (b || false))
either true true = refl
either true false = refl
either false true = refl
either false false = refl

turned : (test : Record → Bool) (r : Record) (next : Option Record)
    → list_any test (reverse (r ∷ option_to_list next)) ≡ list_any test (r ∷ option_to_list next)
turned test r None = refl
turned test r (Some n) = either (test r) (test n)

turned_frame : (test : Record → Bool) (frame : Frame) → list_any test (reverse (records_of frame)) ≡ has test frame
turned_frame test (One r) = refl
turned_frame test (BegunTaken r) = turned test r (taken_after r)

-- some record passes where a frame has one
any_numbered : (test : Record → Bool) (diary : List Frame)
    → is_some (last_number (has test) diary) ≡ list_any test (newest_first diary)
any_numbered test [] = refl
any_numbered test (frame ∷ diary) =
    is_some_on (has test frame) (last_number (has test) diary)
    ∙ ap (λ (b : Bool). b || has test frame) (any_numbered test diary)
    ∙ ap (λ (b : Bool). list_any test (newest_first diary) || b) (sym (turned_frame test frame))
    ∙ sym (list_any-append test (newest_first diary) (reverse (records_of frame)))
    ∙ ap (list_any test) (sym (newest_first-cons frame diary))

any_on : (bill : Checksum) (test : Record → Bool) (r : Record) (records : List Record) (b : Bool)
    → list_any test (of_bill bill records) ≡ list_any (for_bill bill test) records
    → list_any test (cond b (r ∷ of_bill bill records) (of_bill bill records))
    ≡ ((b && test r) || list_any (for_bill bill test) records)
any_on bill test r records true further = ap (λ (t : Bool). test r || t) further
any_on bill test r records false further = further

any-of_bill : (bill : Checksum) (test : Record → Bool) (records : List Record)
    → list_any test (of_bill bill records) ≡ list_any (for_bill bill test) records
any-of_bill bill test [] = refl
any-of_bill bill test (r ∷ records) =
    any_on bill test r records (checksum_eq (bill_of r) bill) (any-of_bill bill test records)

any_of_bill : (bill : Checksum) (test : Record → Bool) (diary : List Frame)
    → is_some (last_number (has (for_bill bill test)) diary) ≡ list_any test (history bill diary)
any_of_bill bill test diary =
    any_numbered (for_bill bill test) diary ∙ sym (any-of_bill bill test (newest_first diary))

pub settled_numbered : (bill entry : Checksum) (diary : List Frame)
    → is_some (last_number (has (for_bill bill (settles entry))) diary) ≡ is_settled entry (history bill diary)
settled_numbered bill entry diary = any_of_bill bill (settles entry) diary

pub regained_numbered : (bill entry : Checksum) (diary : List Frame)
    → is_some (last_number (has (for_bill bill (regains entry))) diary) ≡ is_regained entry (history bill diary)
regained_numbered bill entry diary = any_of_bill bill (regains entry) diary

some_first : (b : Bool) (first last : Option ℕ) → is_some first ≡ is_some last
    → is_some (cond b (Some 0) (option_map (λ n. n + 1) first))
    ≡ is_some (option_or (option_map (λ n. n + 1) last) (cond b (Some 0) None))
some_first true None None same = refl
some_first true (Some n) (Some m) same = refl
some_first true None (Some m) same = refl
some_first true (Some n) None same = refl
some_first false None None same = refl
some_first false (Some n) (Some m) same = refl
some_first false None (Some m) same = same
some_first false (Some n) None same = same

-- there is a first one where there is a last one
first_or_last : (test : Frame → Bool) (diary : List Frame)
    → is_some (first_number test diary) ≡ is_some (last_number test diary)
first_or_last test [] = refl
first_or_last test (frame ∷ diary) =
    some_first (test frame) (first_number test diary) (last_number test diary) (first_or_last test diary)

pub there_numbered : (bill checksum : Checksum) (diary : List Frame)
    → is_some (first_number (has (brings_to bill checksum)) diary) ≡ is_there (history bill diary) checksum
there_numbered bill checksum diary =
    first_or_last (has (brings_to bill checksum)) diary ∙ any_numbered (brings_to bill checksum) diary
    ∙ sym (any-of_bill bill (brings checksum) (newest_first diary))

pub taken_numbered : (entry : Checksum) (diary : List Frame)
    → is_some (last_number (has (takes entry)) diary) ≡ is_taken entry (newest_first diary)
taken_numbered entry diary = any_numbered (takes entry) diary

-- ---- the bytes of a document

or_none : (x : Option (List ℕ)) → option_or x None ≡ x
or_none None = refl
or_none (Some bytes) = refl

or_later : (x y z : Option (List ℕ)) → option_or (option_or x y) z ≡ option_or x (option_or y z)
or_later None y z = refl
or_later (Some bytes) y z = refl

first_bytes-append : (checksum : Checksum) (newer older : List Record)
    → first_bytes checksum (newer ++ older) ≡ option_or (first_bytes checksum older) (first_bytes checksum newer)
first_bytes-append checksum [] older = sym (or_none (first_bytes checksum older))
first_bytes-append checksum (r ∷ newer) older =
    ap (λ (x : Option (List ℕ)). option_or x (bytes_in checksum r)) (first_bytes-append checksum newer older)
    ∙ or_later (first_bytes checksum older) (first_bytes checksum newer) (bytes_in checksum r)

-- a frame brought bytes where it keeps them
taken_no_bytes : (checksum : Checksum) (r : Record) (bill : Checksum) (last : Option ChainLink)
    → first_bytes checksum (reverse (r ∷ option_to_list (option_map (λ (link : ChainLink). Taken bill link.name) last)))
    ≡ bytes_in checksum r
taken_no_bytes checksum r bill None = refl
taken_no_bytes checksum r bill (Some link) = or_none (bytes_in checksum r)

own_bytes : (checksum : Checksum) (frame : Frame)
    → first_bytes checksum (reverse (records_of frame)) ≡ bytes_in checksum (kept_in frame)
own_bytes checksum (One r) = refl
own_bytes checksum (BegunTaken (Begun bill chain manifest body)) =
    taken_no_bytes checksum (Begun bill chain manifest body) bill (last_of chain)
own_bytes checksum (BegunTaken (Signed bill document transaction)) = refl
own_bytes checksum (BegunTaken (Acted bill transaction)) = refl
own_bytes checksum (BegunTaken (Attached bill piece bytes)) = refl
own_bytes checksum (BegunTaken (Parted bill link manifest manifest_text)) = refl
own_bytes checksum (BegunTaken (Settled bill entry)) = refl
own_bytes checksum (BegunTaken (Regained bill entry)) = refl
own_bytes checksum (BegunTaken (Stored bill entry other bytes)) = refl
own_bytes checksum (BegunTaken (Taken bill entry)) = refl
own_bytes checksum (BegunTaken (Declined bill entry code reason evidence)) = refl

bytes_or : (checksum : Checksum) (r : Record) (later : Option (List ℕ)) → brings checksum r ≡ true
    → option_or (bytes_in checksum r) later ≡ bytes_in checksum r
bytes_or checksum (Attached bill piece bytes) later is =
    ap (λ (b : Bool). option_or (cond b (Some bytes) None) later) is ∙ ap (λ (b : Bool). cond b (Some bytes) None) (sym is)
bytes_or checksum (Stored bill entry other bytes) later is =
    ap (λ (b : Bool). option_or (cond b (Some bytes) None) later) is ∙ ap (λ (b : Bool). cond b (Some bytes) None) (sym is)
bytes_or checksum (Signed bill document transaction) later is = cc is
bytes_or checksum (Acted bill transaction) later is = cc is
bytes_or checksum (Parted bill link manifest manifest_text) later is = cc is
bytes_or checksum (Settled bill entry) later is = cc is
bytes_or checksum (Regained bill entry) later is = cc is
bytes_or checksum (Begun bill chain manifest body) later is = cc is
bytes_or checksum (Taken bill entry) later is = cc is
bytes_or checksum (Declined bill entry code reason evidence) later is = cc is

no_bytes : (checksum : Checksum) (r : Record) → brings checksum r ≡ false → bytes_in checksum r ≡ None
no_bytes checksum (Attached bill piece bytes) is = ap (λ (b : Bool). cond b (Some bytes) None) is
no_bytes checksum (Stored bill entry other bytes) is = ap (λ (b : Bool). cond b (Some bytes) None) is
no_bytes checksum (Signed bill document transaction) is = refl
no_bytes checksum (Acted bill transaction) is = refl
no_bytes checksum (Parted bill link manifest manifest_text) is = refl
no_bytes checksum (Settled bill entry) is = refl
no_bytes checksum (Regained bill entry) is = refl
no_bytes checksum (Begun bill chain manifest body) is = refl
no_bytes checksum (Taken bill entry) is = refl
no_bytes checksum (Declined bill entry code reason evidence) is = refl

module _ (bill checksum : Checksum) where
  abbrev test : Record → Bool
  test r = brings_to bill checksum r

  no_taken : (b e : Checksum) → test (Taken b e) ≡ false
  no_taken b e = and-false (checksum_eq b bill)

  abbrev found : List Frame → Option ℕ → Option (List ℕ)
  found diary number = option_and_then (bytes_in checksum) (record_numbered diary number)

  history-cons : (frame : Frame) (diary : List Frame)
      → first_bytes checksum (history bill (frame ∷ diary))
      ≡ option_or (first_bytes checksum (history bill (frame ∷ []))) (first_bytes checksum (history bill diary))
  history-cons frame diary =
      ap (first_bytes checksum) (history-append (frame ∷ []) diary bill)
      ∙ first_bytes-append checksum (history bill diary) (history bill (frame ∷ []))

  frame_bytes : (frame : Frame) → checksum_eq (bill_of (kept_in frame)) bill ≡ true
      → first_bytes checksum (history bill (frame ∷ [])) ≡ bytes_in checksum (kept_in frame)
  frame_bytes frame is =
      ap (λ (b : Checksum). first_bytes checksum (history b (frame ∷ [])))
      (sym ((checksum_eq-Decides (bill_of (kept_in frame)) bill).0 is))
      ∙ ap (first_bytes checksum) (own_frame frame) ∙ own_bytes checksum frame

  shifted : (frame : Frame) (diary : List Frame) (number : Option ℕ)
      → found (frame ∷ diary) (option_map (λ n. n + 1) number) ≡ found diary number
  shifted frame diary None = refl
  shifted frame diary (Some n) =
      ap (λ (f : Option Frame). option_and_then (bytes_in checksum) (option_map kept_in f)) (get_later frame diary n)

  first_on : (frame : Frame) (diary : List Frame) (own brings1 : Bool)
      → checksum_eq (bill_of (kept_in frame)) bill ≡ own → brings checksum (kept_in frame) ≡ brings1
      → found diary (first_number (has test) diary) ≡ first_bytes checksum (history bill diary)
      → found (frame ∷ diary) (cond (own && brings1) (Some 0) (option_map (λ n. n + 1) (first_number (has test) diary)))
      ≡ first_bytes checksum (history bill (frame ∷ diary))
  first_on frame diary true true is brings_is further =
      let later = first_bytes checksum (history bill diary) in
      sym (history-cons frame diary
      ∙ ap (λ (x : Option (List ℕ)). option_or x later) (frame_bytes frame is)
      ∙ bytes_or checksum (kept_in frame) later brings_is)
  first_on frame diary true false is brings_is further =
      let later = first_bytes checksum (history bill diary) in
      shifted frame diary (first_number (has test) diary) ∙ further
      ∙ sym (history-cons frame diary
      ∙ ap (λ (x : Option (List ℕ)). option_or x later)
      (frame_bytes frame is ∙ no_bytes checksum (kept_in frame) brings_is))
  first_on frame diary false brings1 is brings_is further =
      let later = first_bytes checksum (history bill diary) in
      shifted frame diary (first_number (has test) diary) ∙ further
      ∙ sym (history-cons frame diary
      ∙ ap (λ (h : List Record). option_or (first_bytes checksum h) later) (other_frame bill frame is))

  -- the bytes in the first such frame are those that were there first
  pub bytes_numbered : (diary : List Frame)
      → found diary (first_number (has test) diary) ≡ first_bytes checksum (history bill diary)
  bytes_numbered [] = refl
  bytes_numbered (frame ∷ diary) =
      ap (λ (b : Bool). found (frame ∷ diary) (cond b (Some 0) (option_map (λ n. n + 1) (first_number (has test) diary))))
      (has-kept_in test no_taken frame)
      ∙ first_on frame diary (checksum_eq (bill_of (kept_in frame)) bill) (brings checksum (kept_in frame)) refl refl
      (bytes_numbered diary)

pub ruleset look_ups = (parted_numbered, signed_numbered, came_numbered, begun_numbered, declined_numbered, taken_numbered, bytes_numbered, there_numbered)
