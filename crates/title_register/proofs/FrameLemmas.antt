-- Numbers of frames, and the keys by which they are asked for.
use Rattle.std.proofs.Common.{◌≡◌, ℕ, ◌+◌, arith, Bool, true, false, ◌&&◌, ◌||◌, cond, List, [], ◌∷◌, ◌++◌, Option, Some, None, length, refl, sym, ap, ◌∙◌}
use Rattle.std.specs.Prelude.{option_and_then, option_map, is_some, unwrap_or, bytes_eq}
use Rattle.std.specs.List.{list_any}
use Rattle.std.specs.Option.{option_or, option_map_or, option_to_list}
use Rattle.std.specs.BTreeMap.{BTreeMap, get, Updates}
use Rattle.std.specs.declared.cmp.Ordering.{Ordering}
use Rattle.std.specs.declared.cmp.Ordering.TheVariants.{Less, Equal, Greater}
use Rattle.std.specs.Ordering.{is_eq, nat_cmp, ordering_then}
use Rattle.std.specs.Cmp.Lexicographic.{slice_cmp}
use Rattle.std.proofs.lemmas.Map.Text.{is_eq-slice_cmp}
use Rattle.std.proofs.lemmas.Slice.Eq.{bytes_eq-Decides}
use Rattle.ebl_base.specs.Checksum.{checksum_eq}
use Rattle.ebl_base.specs.Reference.{reference_of}
use Rattle.ebl_base.specs.declared.checksum.Checksum.{Checksum}
use Rattle.ebl_base.specs.declared.reference.Reference.{Reference}
use Rattle.ebl_base.specs.declared.chain.ChainLink.{ChainLink}
use Rattle.ebl_base.proofs.ChecksumLemmas.{checksum_eq-Decides}
use Rattle.bill_chain.specs.Chain.{last_of}
use Rattle.bill_diary.specs.declared.record.Record.{Record}
use Rattle.bill_diary.specs.declared.record.Record.TheVariants.{Signed, Acted, Attached, Parted, Settled, Regained, Begun, Stored, Taken, Declined}
use Rattle.bill_diary.specs.declared.frame.Frame.{Frame}
use Rattle.bill_diary.specs.declared.frame.Frame.TheVariants.{One, BegunTaken}
use Rattle.bill_diary.specs.History.{taken_after}
use Rattle.bill_diary.specs.Place.{regains, settles}
use Rattle.bill_diary.specs.Receiving.{declines, takes}
use Rattle.bill_diary.specs.Searches.{kept_in}
use Rattle.bill_diary.specs.Sound.{has_reference, is_parted}
use Rattle.title_register.specs.declared.frame_key.FrameKey.{FrameKey}
use Rattle.title_register.specs.declared.frame_key.FrameKey.TheVariants as keys
use Rattle.title_register.specs.Frames.{first_number, last_number, has, brings_to, for_bill, is_signed, is_begun, number_of, key_eq, key_cmp, key_of, came_key, taken_key, unless_numbered, has_key, number_in, with_number}

-- ---- keys that compare as equal are one

is_eq-then : (a b : Ordering) → is_eq (ordering_then a b) ≡ (is_eq a && is_eq b)
is_eq-then Less b = refl
is_eq-then Equal b = refl
is_eq-then Greater b = refl

is_eq-key_cmp : (a b : FrameKey) → is_eq (key_cmp a b) ≡ key_eq a b
is_eq-key_cmp (keys.Signed a) (keys.Signed b) = is_eq-slice_cmp a.0 b.0
is_eq-key_cmp (keys.Parted a) (keys.Parted b) = is_eq-slice_cmp a.0 b.0
is_eq-key_cmp (keys.Came a) (keys.Came b) = is_eq-slice_cmp a.0 b.0
is_eq-key_cmp (keys.Begun a) (keys.Begun b) = is_eq-slice_cmp a.0 b.0
is_eq-key_cmp (keys.Taken a) (keys.Taken b) = is_eq-slice_cmp a.0 b.0
is_eq-key_cmp (keys.Declined a) (keys.Declined b) = is_eq-slice_cmp a.0 b.0
is_eq-key_cmp (keys.Settled a b) (keys.Settled c d) =
    is_eq-then (slice_cmp nat_cmp a.0 c.0) (slice_cmp nat_cmp b.0 d.0)
    ∙ ap (λ t. t && is_eq (slice_cmp nat_cmp b.0 d.0)) (is_eq-slice_cmp a.0 c.0)
    ∙ ap (λ t. checksum_eq a c && t) (is_eq-slice_cmp b.0 d.0)
is_eq-key_cmp (keys.Regained a b) (keys.Regained c d) =
    is_eq-then (slice_cmp nat_cmp a.0 c.0) (slice_cmp nat_cmp b.0 d.0)
    ∙ ap (λ t. t && is_eq (slice_cmp nat_cmp b.0 d.0)) (is_eq-slice_cmp a.0 c.0)
    ∙ ap (λ t. checksum_eq a c && t) (is_eq-slice_cmp b.0 d.0)
is_eq-key_cmp (keys.Document a b) (keys.Document c d) =
    is_eq-then (slice_cmp nat_cmp a.0 c.0) (slice_cmp nat_cmp b.0 d.0)
    ∙ ap (λ t. t && is_eq (slice_cmp nat_cmp b.0 d.0)) (is_eq-slice_cmp a.0 c.0)
    ∙ ap (λ t. checksum_eq a c && t) (is_eq-slice_cmp b.0 d.0)
is_eq-key_cmp a b = refl

and_true : (a b : Bool) → (a && b) ≡ true → (a ≡ true) × (b ≡ true)
and_true true b h = (refl, h)
and_true false b h = absurd (let no : false ≡ true = h in cc)

one_key : (a b : FrameKey) → key_eq a b ≡ true → a ≡ b
one_key (keys.Signed a) (keys.Signed b) h = ap keys.Signed ((checksum_eq-Decides a b).0 h)
one_key (keys.Parted a) (keys.Parted b) h = ap keys.Parted ((checksum_eq-Decides a b).0 h)
one_key (keys.Came a) (keys.Came b) h = ap keys.Came ((checksum_eq-Decides a b).0 h)
one_key (keys.Begun a) (keys.Begun b) h =
    let reference : List ℕ → Reference = λ bytes. record { 0 = bytes } in
    ap (λ (r : Reference). keys.Begun r) (ap reference ((bytes_eq-Decides a.0 b.0).0 h))
one_key (keys.Taken a) (keys.Taken b) h = ap keys.Taken ((checksum_eq-Decides a b).0 h)
one_key (keys.Declined a) (keys.Declined b) h = ap keys.Declined ((checksum_eq-Decides a b).0 h)
one_key (keys.Settled a b) (keys.Settled c d) h =
    let (bills, checksums) = and_true (checksum_eq a c) (checksum_eq b d) h in
    ap (λ x. keys.Settled x b) ((checksum_eq-Decides a c).0 bills)
    ∙ ap (λ x. keys.Settled c x) ((checksum_eq-Decides b d).0 checksums)
one_key (keys.Regained a b) (keys.Regained c d) h =
    let (bills, checksums) = and_true (checksum_eq a c) (checksum_eq b d) h in
    ap (λ x. keys.Regained x b) ((checksum_eq-Decides a c).0 bills)
    ∙ ap (λ x. keys.Regained c x) ((checksum_eq-Decides b d).0 checksums)
one_key (keys.Document a b) (keys.Document c d) h =
    let (bills, checksums) = and_true (checksum_eq a c) (checksum_eq b d) h in
    ap (λ x. keys.Document x b) ((checksum_eq-Decides a c).0 bills)
    ∙ ap (λ x. keys.Document c x) ((checksum_eq-Decides b d).0 checksums)
one_key a b h = cc h

-- ---- numbers by key

-- whether a key, if there is one, is this one
abbrev hits : Option FrameKey → FrameKey → Bool
hits None q = false
hits (Some key) q = key_eq key q

with_number-hits : (key : Option FrameKey) (n : ℕ) (numbers : FrameKey → Option ℕ) (q : FrameKey)
    → with_number key n numbers q ≡ cond (hits key q) (Some n) (numbers q)
with_number-hits None n numbers q = refl
with_number-hits (Some key) n numbers q = refl

flat : Option (Option ℕ) → Option ℕ
flat stored = unwrap_or stored None

added_on : (numbers : BTreeMap FrameKey (Option ℕ)) (k q : FrameKey) (b : Bool) → is_eq (key_cmp k q) ≡ b
    → get key_cmp numbers k ≡ None
    → unwrap_or (cond b (Some None) (get key_cmp numbers q)) None ≡ number_in numbers q
added_on numbers k q true e absent =
    ap (λ (o : Option (Option ℕ)). unwrap_or o None)
    (sym absent ∙ ap (get key_cmp numbers) (one_key k q (sym (is_eq-key_cmp k q) ∙ e)))
added_on numbers k q false e absent = refl

-- room for a key changes no number
pub room_made : (numbers new : BTreeMap FrameKey (Option ℕ)) (k q : FrameKey)
    → Updates key_cmp numbers new k (Some None) → get key_cmp numbers k ≡ None
    → number_in new q ≡ number_in numbers q
room_made numbers new k q updates absent =
    ap (λ (o : Option (Option ℕ)). unwrap_or o None) (updates.0 q)
    ∙ added_on numbers k q (is_eq (key_cmp k q)) refl absent

put_on : (n : ℕ) (before : Option (Option ℕ)) (b : Bool)
    → unwrap_or (cond b (Some (Some n)) before) None ≡ cond b (Some n) (unwrap_or before None)
put_on n before true = refl
put_on n before false = refl

-- a number that is put under a key
pub number_put : (numbers new : BTreeMap FrameKey (Option ℕ)) (k q : FrameKey) (n : ℕ)
    → Updates key_cmp numbers new k (Some (Some n))
    → number_in new q ≡ with_number (Some k) n (number_in numbers) q
number_put numbers new k q n updates =
    ap (λ (o : Option (Option ℕ)). unwrap_or o None) (updates.0 q)
    ∙ put_on n (get key_cmp numbers q) (is_eq (key_cmp k q))
    ∙ ap (λ b. cond b (Some n) (number_in numbers q)) (is_eq-key_cmp k q)

stays_on : (w : Option ℕ) (before : Option (Option ℕ)) (b : Bool) → is_some before ≡ true
    → is_some (cond b (Some w) before) ≡ true
stays_on w before true h = refl
stays_on w before false h = h

-- a key for which there is room keeps it
pub room_stays : (numbers new : BTreeMap FrameKey (Option ℕ)) (k q : FrameKey) (w : Option ℕ)
    → Updates key_cmp numbers new k (Some w) → has_key numbers q ≡ true → has_key new q ≡ true
room_stays numbers new k q w updates h =
    ap (λ (o : Option (Option ℕ)). is_some o) (updates.0 q)
    ∙ stays_on w (get key_cmp numbers q) (is_eq (key_cmp k q)) h

pub ruleset stored = (room_made, number_put, room_stays)

-- ---- numbers after one frame more

shifted : (a : Option ℕ) (t : Bool) (n m : ℕ) → n + 1 ≡ m
    → option_map (λ k. k + 1) (option_or a (cond t (Some n) None))
    ≡ option_or (option_map (λ k. k + 1) a) (cond t (Some m) None)
shifted (Some k) t n m e = refl
shifted None true n m e = ap Some e
shifted None false n m e = refl

first_on : (b : Bool) (rest rest2 after : Option ℕ) → option_map (λ k. k + 1) rest ≡ option_or rest2 after
    → cond b (Some 0) (option_map (λ k. k + 1) rest) ≡ option_or (cond b (Some 0) rest2) after
first_on true rest rest2 after e = refl
first_on false rest rest2 after e = e

first_number-push : (test : Frame → Bool) (diary : List Frame) (frame : Frame)
    → first_number test (diary ++ frame ∷ [])
    ≡ option_or (first_number test diary) (cond (test frame) (Some (length diary)) None)
first_number-push test [] frame = refl
first_number-push test (first ∷ diary) frame =
    let more : length diary + 1 ≡ length (first ∷ diary) = omega arith in
    first_on (test first) (first_number test (diary ++ frame ∷ [])) (option_map (λ k. k + 1) (first_number test diary))
    (cond (test frame) (Some (length (first ∷ diary))) None)
    (ap (option_map (λ k. k + 1)) (first_number-push test diary frame)
    ∙ shifted (first_number test diary) (test frame) (length diary) (length (first ∷ diary)) more)

last_on : (b : Bool) (n m : ℕ) (rest own : Option ℕ) → n + 1 ≡ m
    → option_or (option_map (λ k. k + 1) (cond b (Some n) rest)) own
    ≡ cond b (Some m) (option_or (option_map (λ k. k + 1) rest) own)
last_on true n m rest own e = ap Some e
last_on false n m rest own e = refl

last_number-push : (test : Frame → Bool) (diary : List Frame) (frame : Frame)
    → last_number test (diary ++ frame ∷ []) ≡ cond (test frame) (Some (length diary)) (last_number test diary)
last_number-push test [] frame = refl
last_number-push test (first ∷ diary) frame =
    let more : length diary + 1 ≡ length (first ∷ diary) = omega arith in
    let own = cond (test first) (Some 0) None in
    ap (λ (rest : Option ℕ). option_or (option_map (λ k. k + 1) rest) own) (last_number-push test diary frame)
    ∙ last_on (test frame) (length diary) (length (first ∷ diary)) (last_number test diary) own more

-- ---- the keys of a frame

-- whether a record is one that a key asks for
abbrev asks : FrameKey → Record → Bool
asks (keys.Signed bill) r = for_bill bill is_signed r
asks (keys.Parted bill) r = for_bill bill is_parted r
asks (keys.Begun reference) r = has_reference reference r
asks (keys.Came bill) r = for_bill bill is_begun r
asks (keys.Taken entry) r = takes entry r
asks (keys.Declined entry) r = declines entry r
asks (keys.Settled bill entry) r = for_bill bill (settles entry) r
asks (keys.Regained bill entry) r = for_bill bill (regains entry) r
asks (keys.Document bill checksum) r = brings_to bill checksum r

and-false : (b : Bool) → (b && false) ≡ false
and-false true = refl
and-false false = refl

and-true : (b : Bool) → (b && true) ≡ b
and-true true = refl
and-true false = refl

or-false : (b : Bool) → (b || false) ≡ b
or-false true = refl
or-false false = refl

abbrev begun_key : Checksum → Option ChainLink → Option FrameKey
begun_key bill last = option_map (λ (link : ChainLink). keys.Begun (reference_of bill link.name)) last

begun_asks : (reference : Reference) (bill : Checksum) (last : Option ChainLink)
    → option_map_or (λ (link : ChainLink). bytes_eq (reference_of bill link.name).0 reference.0) last false
    ≡ hits (begun_key bill last) (keys.Begun reference)
begun_asks reference bill None = refl
begun_asks reference bill (Some link) = refl

begun_alone : (bill : Checksum) (last : Option ChainLink) (q : FrameKey)
    → ((r : Reference) → key_eq (keys.Begun r) q ≡ false) → hits (begun_key bill last) q ≡ false
begun_alone bill None q other = refl
begun_alone bill (Some link) q other = other (reference_of bill link.name)

-- whether one of two keys is this one
abbrev hits_either : Option FrameKey → Option FrameKey → FrameKey → Bool
hits_either key other q = hits key q || hits other q

-- a Begun by another key than that of its envelope
begun_else : (bill : Checksum) (last : Option ChainLink) (q : FrameKey) (b : Bool)
    → ((r : Reference) → key_eq (keys.Begun r) q ≡ false) → b ≡ hits (Some (keys.Came bill)) q
    → b ≡ hits_either (begun_key bill last) (Some (keys.Came bill)) q
begun_else bill last q b other is =
    is ∙ ap (λ (t : Bool). t || hits (Some (keys.Came bill)) q) (sym (begun_alone bill last q other))

yes : (b : Bool) → (b && true) ≡ (b || false)
yes b = and-true b ∙ sym (or-false b)

-- a record is asked for by its keys alone
record_asks : (q : FrameKey) (r : Record) → asks q r ≡ hits_either (key_of r) (came_key r) q
record_asks (keys.Signed b) (Begun bill chain manifest body) =
    begun_else bill (last_of chain) (keys.Signed b) (checksum_eq bill b && false) (λ _. refl)
    (and-false (checksum_eq bill b))
record_asks (keys.Signed b) (Signed bill document transaction) = yes (checksum_eq bill b)
record_asks (keys.Signed b) (Acted bill transaction) = and-false (checksum_eq bill b)
record_asks (keys.Signed b) (Attached bill piece bytes) = and-false (checksum_eq bill b)
record_asks (keys.Signed b) (Parted bill link manifest manifest_text) = and-false (checksum_eq bill b)
record_asks (keys.Signed b) (Settled bill entry) = and-false (checksum_eq bill b)
record_asks (keys.Signed b) (Regained bill entry) = and-false (checksum_eq bill b)
record_asks (keys.Signed b) (Stored bill entry checksum bytes) = and-false (checksum_eq bill b)
record_asks (keys.Signed b) (Taken bill entry) = and-false (checksum_eq bill b)
record_asks (keys.Signed b) (Declined bill entry code reason evidence) = and-false (checksum_eq bill b)
record_asks (keys.Parted b) (Begun bill chain manifest body) =
    begun_else bill (last_of chain) (keys.Parted b) (checksum_eq bill b && false) (λ _. refl)
    (and-false (checksum_eq bill b))
record_asks (keys.Parted b) (Parted bill link manifest manifest_text) = yes (checksum_eq bill b)
record_asks (keys.Parted b) (Signed bill document transaction) = and-false (checksum_eq bill b)
record_asks (keys.Parted b) (Acted bill transaction) = and-false (checksum_eq bill b)
record_asks (keys.Parted b) (Attached bill piece bytes) = and-false (checksum_eq bill b)
record_asks (keys.Parted b) (Settled bill entry) = and-false (checksum_eq bill b)
record_asks (keys.Parted b) (Regained bill entry) = and-false (checksum_eq bill b)
record_asks (keys.Parted b) (Stored bill entry checksum bytes) = and-false (checksum_eq bill b)
record_asks (keys.Parted b) (Taken bill entry) = and-false (checksum_eq bill b)
record_asks (keys.Parted b) (Declined bill entry code reason evidence) = and-false (checksum_eq bill b)
record_asks (keys.Begun reference) (Begun bill chain manifest body) =
    begun_asks reference bill (last_of chain)
    ∙ sym (or-false (hits (begun_key bill (last_of chain)) (keys.Begun reference)))
record_asks (keys.Begun reference) r = refl
record_asks (keys.Came b) (Begun bill chain manifest body) =
    begun_else bill (last_of chain) (keys.Came b) (checksum_eq bill b && true) (λ _. refl)
    (and-true (checksum_eq bill b))
record_asks (keys.Came b) (Signed bill document transaction) = and-false (checksum_eq bill b)
record_asks (keys.Came b) (Acted bill transaction) = and-false (checksum_eq bill b)
record_asks (keys.Came b) (Attached bill piece bytes) = and-false (checksum_eq bill b)
record_asks (keys.Came b) (Parted bill link manifest manifest_text) = and-false (checksum_eq bill b)
record_asks (keys.Came b) (Settled bill entry) = and-false (checksum_eq bill b)
record_asks (keys.Came b) (Regained bill entry) = and-false (checksum_eq bill b)
record_asks (keys.Came b) (Stored bill entry checksum bytes) = and-false (checksum_eq bill b)
record_asks (keys.Came b) (Taken bill entry) = and-false (checksum_eq bill b)
record_asks (keys.Came b) (Declined bill entry code reason evidence) = and-false (checksum_eq bill b)
record_asks (keys.Taken entry) (Begun bill chain manifest body) =
    begun_else bill (last_of chain) (keys.Taken entry) false (λ _. refl) refl
record_asks (keys.Taken entry) (Taken bill other) = sym (or-false (checksum_eq other entry))
record_asks (keys.Taken entry) r = refl
record_asks (keys.Declined entry) (Begun bill chain manifest body) =
    begun_else bill (last_of chain) (keys.Declined entry) false (λ _. refl) refl
record_asks (keys.Declined entry) (Declined bill other code reason evidence) = sym (or-false (checksum_eq other entry))
record_asks (keys.Declined entry) r = refl
record_asks (keys.Settled b entry) (Begun bill chain manifest body) =
    begun_else bill (last_of chain) (keys.Settled b entry) (checksum_eq bill b && false) (λ _. refl)
    (and-false (checksum_eq bill b))
record_asks (keys.Settled b entry) (Settled bill other) = sym (or-false (checksum_eq bill b && checksum_eq other entry))
record_asks (keys.Settled b entry) (Signed bill document transaction) = and-false (checksum_eq bill b)
record_asks (keys.Settled b entry) (Acted bill transaction) = and-false (checksum_eq bill b)
record_asks (keys.Settled b entry) (Attached bill piece bytes) = and-false (checksum_eq bill b)
record_asks (keys.Settled b entry) (Parted bill link manifest manifest_text) = and-false (checksum_eq bill b)
record_asks (keys.Settled b entry) (Regained bill other) = and-false (checksum_eq bill b)
record_asks (keys.Settled b entry) (Stored bill other checksum bytes) = and-false (checksum_eq bill b)
record_asks (keys.Settled b entry) (Taken bill other) = and-false (checksum_eq bill b)
record_asks (keys.Settled b entry) (Declined bill other code reason evidence) = and-false (checksum_eq bill b)
record_asks (keys.Regained b entry) (Begun bill chain manifest body) =
    begun_else bill (last_of chain) (keys.Regained b entry) (checksum_eq bill b && false) (λ _. refl)
    (and-false (checksum_eq bill b))
record_asks (keys.Regained b entry) (Regained bill other) = sym (or-false (checksum_eq bill b && checksum_eq other entry))
record_asks (keys.Regained b entry) (Signed bill document transaction) = and-false (checksum_eq bill b)
record_asks (keys.Regained b entry) (Acted bill transaction) = and-false (checksum_eq bill b)
record_asks (keys.Regained b entry) (Attached bill piece bytes) = and-false (checksum_eq bill b)
record_asks (keys.Regained b entry) (Parted bill link manifest manifest_text) = and-false (checksum_eq bill b)
record_asks (keys.Regained b entry) (Settled bill other) = and-false (checksum_eq bill b)
record_asks (keys.Regained b entry) (Stored bill other checksum bytes) = and-false (checksum_eq bill b)
record_asks (keys.Regained b entry) (Taken bill other) = and-false (checksum_eq bill b)
record_asks (keys.Regained b entry) (Declined bill other code reason evidence) = and-false (checksum_eq bill b)
record_asks (keys.Document b c) (Begun bill chain manifest body) =
    begun_else bill (last_of chain) (keys.Document b c) (checksum_eq bill b && false) (λ _. refl)
    (and-false (checksum_eq bill b))
record_asks (keys.Document b c) (Attached bill piece bytes) =
    sym (or-false (checksum_eq bill b && checksum_eq piece.checksum c))
record_asks (keys.Document b c) (Stored bill entry checksum bytes) =
    sym (or-false (checksum_eq bill b && checksum_eq checksum c))
record_asks (keys.Document b c) (Signed bill document transaction) = and-false (checksum_eq bill b)
record_asks (keys.Document b c) (Acted bill transaction) = and-false (checksum_eq bill b)
record_asks (keys.Document b c) (Parted bill link manifest manifest_text) = and-false (checksum_eq bill b)
record_asks (keys.Document b c) (Settled bill entry) = and-false (checksum_eq bill b)
record_asks (keys.Document b c) (Regained bill entry) = and-false (checksum_eq bill b)
record_asks (keys.Document b c) (Taken bill entry) = and-false (checksum_eq bill b)
record_asks (keys.Document b c) (Declined bill entry code reason evidence) = and-false (checksum_eq bill b)

follower_asks : (q : FrameKey) (bill : Checksum) (last : Option ChainLink)
    → list_any (asks q) (option_to_list (option_map (λ (link : ChainLink). Taken bill link.name) last))
    ≡ hits (option_and_then key_of (option_map (λ (link : ChainLink). Taken bill link.name) last)) q
follower_asks q bill None = refl
follower_asks q bill (Some link) =
    or-false (asks q (Taken bill link.name)) ∙ record_asks q (Taken bill link.name)
    ∙ or-false (hits (Some (keys.Taken link.name)) q)

followers_ask : (q : FrameKey) (r : Record)
    → list_any (asks q) (option_to_list (taken_after r)) ≡ hits (option_and_then key_of (taken_after r)) q
followers_ask q (Begun bill chain manifest body) = follower_asks q bill (last_of chain)
followers_ask q (Signed bill document transaction) = refl
followers_ask q (Acted bill transaction) = refl
followers_ask q (Attached bill piece bytes) = refl
followers_ask q (Parted bill link manifest manifest_text) = refl
followers_ask q (Settled bill entry) = refl
followers_ask q (Regained bill entry) = refl
followers_ask q (Stored bill entry checksum bytes) = refl
followers_ask q (Taken bill entry) = refl
followers_ask q (Declined bill entry code reason evidence) = refl

-- a frame is asked for by its keys alone
frame_asks : (q : FrameKey) (frame : Frame)
    → has (asks q) frame
    ≡ (hits_either (key_of (kept_in frame)) (came_key (kept_in frame)) q || hits (taken_key frame) q)
frame_asks q (One r) = ap (λ b. b || false) (record_asks q r)
frame_asks q (BegunTaken r) =
    ap (λ b. b || list_any (asks q) (option_to_list (taken_after r))) (record_asks q r)
    ∙ ap (λ b. hits_either (key_of r) (came_key r) q || b) (followers_ask q r)

-- ---- what a frame's keys get

last_with : (a b c : Bool) (n : ℕ) (x : Option ℕ)
    → cond ((a || b) || c) (Some n) x ≡ cond c (Some n) (cond b (Some n) (cond a (Some n) x))
last_with true true true n x = refl
last_with true true false n x = refl
last_with true false true n x = refl
last_with true false false n x = refl
last_with false true true n x = refl
last_with false true false n x = refl
last_with false false true n x = refl
last_with false false false n x = refl

-- a key that asks for no document
abbrev AsksForNoDocument : FrameKey → Type 0
AsksForNoDocument q = (bill checksum : Checksum) → key_eq (keys.Document bill checksum) q ≡ false

hits_on : (b : Bool) (bill checksum : Checksum) (q : FrameKey) → key_eq (keys.Document bill checksum) q ≡ false
    → hits (cond b None (Some (keys.Document bill checksum))) q ≡ false
hits_on true bill checksum q other = refl
hits_on false bill checksum q other = other

hits-unless_numbered : (number : FrameKey → Option ℕ) (key : Option FrameKey) (q : FrameKey) → AsksForNoDocument q
    → hits (unless_numbered number key) q ≡ hits key q
hits-unless_numbered number None q other = refl
hits-unless_numbered number (Some (keys.Document bill checksum)) q other =
    hits_on (is_some (number (keys.Document bill checksum))) bill checksum q (other bill checksum)
    ∙ sym (other bill checksum)
hits-unless_numbered number (Some (keys.Signed bill)) q other = refl
hits-unless_numbered number (Some (keys.Parted bill)) q other = refl
hits-unless_numbered number (Some (keys.Begun reference)) q other = refl
hits-unless_numbered number (Some (keys.Came bill)) q other = refl
hits-unless_numbered number (Some (keys.Taken entry)) q other = refl
hits-unless_numbered number (Some (keys.Settled bill entry)) q other = refl
hits-unless_numbered number (Some (keys.Regained bill entry)) q other = refl
hits-unless_numbered number (Some (keys.Declined entry)) q other = refl

same_unless : (f g : FrameKey → Option ℕ) → ((k : FrameKey) → f k ≡ g k) → (key : Option FrameKey)
    → unless_numbered f key ≡ unless_numbered g key
same_unless f g same None = refl
same_unless f g same (Some (keys.Document bill checksum)) =
    ap (λ (n : Option ℕ). cond (is_some n) None (Some (keys.Document bill checksum)))
    (same (keys.Document bill checksum))
same_unless f g same (Some (keys.Signed bill)) = refl
same_unless f g same (Some (keys.Parted bill)) = refl
same_unless f g same (Some (keys.Begun reference)) = refl
same_unless f g same (Some (keys.Came bill)) = refl
same_unless f g same (Some (keys.Taken entry)) = refl
same_unless f g same (Some (keys.Settled bill entry)) = refl
same_unless f g same (Some (keys.Regained bill entry)) = refl
same_unless f g same (Some (keys.Declined entry)) = refl

abbrev in_diary : List Frame → FrameKey → Option ℕ
in_diary diary key = number_of key diary

abbrev numbers_with : List Frame → Frame → FrameKey → Option ℕ
numbers_with diary frame q =
    with_number (taken_key frame) (length diary)
    (with_number (came_key (kept_in frame)) (length diary)
    (with_number (unless_numbered (in_diary diary) (key_of (kept_in frame))) (length diary) (in_diary diary))) q

numbers_by_hits : (diary : List Frame) (frame : Frame) (q : FrameKey)
    → numbers_with diary frame q
    ≡ cond (hits (taken_key frame) q) (Some (length diary))
    (cond (hits (came_key (kept_in frame)) q) (Some (length diary))
    (cond (hits (unless_numbered (in_diary diary) (key_of (kept_in frame))) q) (Some (length diary)) (number_of q diary)))
numbers_by_hits diary frame q =
    let n = length diary in
    let key = unless_numbered (in_diary diary) (key_of (kept_in frame)) in
    let came = came_key (kept_in frame) in
    let first : FrameKey → Option ℕ = with_number key n (in_diary diary) in
    let second : FrameKey → Option ℕ = with_number came n first in
    with_number-hits (taken_key frame) n second q
    ∙ ap (λ (x : Option ℕ). cond (hits (taken_key frame) q) (Some n) x)
    (with_number-hits came n first q
    ∙ ap (λ (x : Option ℕ). cond (hits came q) (Some n) x) (with_number-hits key n (in_diary diary) q))

last_more : (diary : List Frame) (frame : Frame) (q : FrameKey) → AsksForNoDocument q
    → cond (has (asks q) frame) (Some (length diary)) (number_of q diary) ≡ numbers_with diary frame q
last_more diary frame q other =
    let n = length diary in
    let key = key_of (kept_in frame) in
    let came = came_key (kept_in frame) in
    ap (λ (b : Bool). cond b (Some n) (number_of q diary)) (frame_asks q frame)
    ∙ last_with (hits key q) (hits came q) (hits (taken_key frame) q) n (number_of q diary)
    ∙ ap (λ (b : Bool). cond (hits (taken_key frame) q) (Some n)
    (cond (hits came q) (Some n) (cond b (Some n) (number_of q diary))))
    (sym (hits-unless_numbered (in_diary diary) key q other))
    ∙ sym (numbers_by_hits diary frame q)

-- a Begun brings no document
came_brings_none : (r : Record) (b c : Checksum) → hits (came_key r) (keys.Document b c) ≡ false
came_brings_none (Begun bill chain manifest body) b c = refl
came_brings_none (Signed bill document transaction) b c = refl
came_brings_none (Acted bill transaction) b c = refl
came_brings_none (Attached bill piece bytes) b c = refl
came_brings_none (Parted bill link manifest manifest_text) b c = refl
came_brings_none (Settled bill entry) b c = refl
came_brings_none (Regained bill entry) b c = refl
came_brings_none (Stored bill entry checksum bytes) b c = refl
came_brings_none (Taken bill entry) b c = refl
came_brings_none (Declined bill entry code reason evidence) b c = refl

taken_on : (bill : Checksum) (last : Option ChainLink) (b c : Checksum)
    → hits (option_and_then key_of (option_map (λ (link : ChainLink). Taken bill link.name) last)) (keys.Document b c)
    ≡ false
taken_on bill None b c = refl
taken_on bill (Some link) b c = refl

-- a Taken brings no document
taken_brings_none : (frame : Frame) (b c : Checksum) → hits (taken_key frame) (keys.Document b c) ≡ false
taken_brings_none (One r) b c = refl
taken_brings_none (BegunTaken (Begun bill chain manifest body)) b c = taken_on bill (last_of chain) b c
taken_brings_none (BegunTaken (Signed bill document transaction)) b c = refl
taken_brings_none (BegunTaken (Acted bill transaction)) b c = refl
taken_brings_none (BegunTaken (Attached bill piece bytes)) b c = refl
taken_brings_none (BegunTaken (Parted bill link manifest manifest_text)) b c = refl
taken_brings_none (BegunTaken (Settled bill entry)) b c = refl
taken_brings_none (BegunTaken (Regained bill entry)) b c = refl
taken_brings_none (BegunTaken (Stored bill entry checksum bytes)) b c = refl
taken_brings_none (BegunTaken (Taken bill entry)) b c = refl
taken_brings_none (BegunTaken (Declined bill entry code reason evidence)) b c = refl

or_none : (x : Option ℕ) → option_or x None ≡ x
or_none None = refl
or_none (Some n) = refl

-- the first number stays
first_stays : (number : FrameKey → Option ℕ) (k q : FrameKey) (n : ℕ) (b : Bool) (x : Option ℕ) → key_eq k q ≡ b
    → number k ≡ x
    → option_or (number q) (cond b (Some n) None)
    ≡ cond (hits (cond (is_some x) None (Some k)) q) (Some n) (number q)
first_stays number k q n true (Some m) e is =
    let same : number q ≡ Some m = ap number (sym (one_key k q e)) ∙ is in
    ap (λ (o : Option ℕ). option_or o (Some n)) same ∙ sym same
first_stays number k q n true None e is =
    let same : number q ≡ None = ap number (sym (one_key k q e)) ∙ is in
    ap (λ (o : Option ℕ). option_or o (Some n)) same
    ∙ ap (λ (b : Bool). cond b (Some n) (number q)) (sym e)
first_stays number k q n false (Some m) e is = or_none (number q)
first_stays number k q n false None e is =
    or_none (number q) ∙ ap (λ (b : Bool). cond b (Some n) (number q)) (sym e)

first_by_key : (diary : List Frame) (key : Option FrameKey) (b c : Checksum) (n : ℕ)
    → option_or (number_of (keys.Document b c) diary) (cond (hits key (keys.Document b c)) (Some n) None)
    ≡ cond (hits (unless_numbered (in_diary diary) key) (keys.Document b c)) (Some n) (number_of (keys.Document b c) diary)
first_by_key diary None b c n = or_none (number_of (keys.Document b c) diary)
first_by_key diary (Some (keys.Signed bill)) b c n = or_none (number_of (keys.Document b c) diary)
first_by_key diary (Some (keys.Parted bill)) b c n = or_none (number_of (keys.Document b c) diary)
first_by_key diary (Some (keys.Begun reference)) b c n = or_none (number_of (keys.Document b c) diary)
first_by_key diary (Some (keys.Came bill)) b c n = or_none (number_of (keys.Document b c) diary)
first_by_key diary (Some (keys.Taken entry)) b c n = or_none (number_of (keys.Document b c) diary)
first_by_key diary (Some (keys.Settled bill entry)) b c n = or_none (number_of (keys.Document b c) diary)
first_by_key diary (Some (keys.Regained bill entry)) b c n = or_none (number_of (keys.Document b c) diary)
first_by_key diary (Some (keys.Declined entry)) b c n = or_none (number_of (keys.Document b c) diary)
first_by_key diary (Some (keys.Document bill checksum)) b c n =
    first_stays (in_diary diary) (keys.Document bill checksum) (keys.Document b c) n
    (key_eq (keys.Document bill checksum) (keys.Document b c)) (number_of (keys.Document bill checksum) diary) refl refl

first_more : (diary : List Frame) (frame : Frame) (b c : Checksum)
    → option_or (number_of (keys.Document b c) diary)
    (cond (has (asks (keys.Document b c)) frame) (Some (length diary)) None)
    ≡ numbers_with diary frame (keys.Document b c)
first_more diary frame b c =
    let n = length diary in
    let q = keys.Document b c in
    let key = key_of (kept_in frame) in
    let came = came_key (kept_in frame) in
    let kept = cond (hits (unless_numbered (in_diary diary) key) q) (Some n) (number_of q diary) in
    ap (λ (t : Bool). option_or (number_of q diary) (cond t (Some n) None))
    (frame_asks q frame
    ∙ ap (λ (t : Bool). (hits key q || t) || hits (taken_key frame) q) (came_brings_none (kept_in frame) b c)
    ∙ ap (λ (t : Bool). (hits key q || false) || t) (taken_brings_none frame b c)
    ∙ or-false (hits key q || false) ∙ or-false (hits key q))
    ∙ first_by_key diary key b c n
    ∙ ap (λ (t : Bool). cond t (Some n) kept) (sym (came_brings_none (kept_in frame) b c))
    ∙ ap (λ (t : Bool). cond t (Some n) (cond (hits came q) (Some n) kept)) (sym (taken_brings_none frame b c))
    ∙ sym (numbers_by_hits diary frame q)

numbers_after : (diary : List Frame) (frame : Frame) (q : FrameKey)
    → numbers_with diary frame q ≡ number_of q (diary ++ frame ∷ [])
numbers_after diary frame (keys.Signed bill) =
    sym (last_number-push (has (for_bill bill is_signed)) diary frame
    ∙ last_more diary frame (keys.Signed bill) (λ _ _. refl))
numbers_after diary frame (keys.Parted bill) =
    sym (last_number-push (has (for_bill bill is_parted)) diary frame
    ∙ last_more diary frame (keys.Parted bill) (λ _ _. refl))
numbers_after diary frame (keys.Begun reference) =
    sym (last_number-push (has (has_reference reference)) diary frame
    ∙ last_more diary frame (keys.Begun reference) (λ _ _. refl))
numbers_after diary frame (keys.Came bill) =
    sym (last_number-push (has (for_bill bill is_begun)) diary frame
    ∙ last_more diary frame (keys.Came bill) (λ _ _. refl))
numbers_after diary frame (keys.Taken entry) =
    sym (last_number-push (has (takes entry)) diary frame
    ∙ last_more diary frame (keys.Taken entry) (λ _ _. refl))
numbers_after diary frame (keys.Declined entry) =
    sym (last_number-push (has (declines entry)) diary frame
    ∙ last_more diary frame (keys.Declined entry) (λ _ _. refl))
numbers_after diary frame (keys.Settled bill entry) =
    sym (last_number-push (has (for_bill bill (settles entry))) diary frame
    ∙ last_more diary frame (keys.Settled bill entry) (λ _ _. refl))
numbers_after diary frame (keys.Regained bill entry) =
    sym (last_number-push (has (for_bill bill (regains entry))) diary frame
    ∙ last_more diary frame (keys.Regained bill entry) (λ _ _. refl))
numbers_after diary frame (keys.Document b c) =
    sym (first_number-push (has (brings_to b c)) diary frame ∙ first_more diary frame b c)

-- the numbers after one frame more
pub numbers_more : (diary : List Frame) (frame : Frame) (numbers : FrameKey → Option ℕ)
    → ((k : FrameKey) → numbers k ≡ number_of k diary) → (kept came taken : Option FrameKey)
    → kept ≡ unless_numbered numbers (key_of (kept_in frame)) → came ≡ came_key (kept_in frame)
    → taken ≡ taken_key frame → (q : FrameKey)
    → with_number taken (length diary) (with_number came (length diary)
    (with_number kept (length diary) (λ k. number_of k diary))) q
    ≡ number_of q (diary ++ frame ∷ [])
numbers_more diary frame numbers same kept came taken kept_is came_is taken_is q =
    let n = length diary in
    ap (λ (key : Option FrameKey).
    with_number key n (with_number came n (with_number kept n (in_diary diary))) q) taken_is
    ∙ ap (λ (key : Option FrameKey).
    with_number (taken_key frame) n (with_number key n (with_number kept n (in_diary diary))) q) came_is
    ∙ ap (λ (key : Option FrameKey).
    with_number (taken_key frame) n (with_number (came_key (kept_in frame)) n (with_number key n (in_diary diary))) q)
    (kept_is ∙ same_unless numbers (in_diary diary) same (key_of (kept_in frame)))
    ∙ numbers_after diary frame q
