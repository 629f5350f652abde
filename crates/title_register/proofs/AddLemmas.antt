-- What is left to show where a frame is added: what comes of a Begun that is taken, and of a bill's state that is
-- changed.
use Rattle.std.proofs.Common.{◌≡◌, Bool, true, false, cond, List, [], ◌∷◌, ◌++◌, Option, Some, None, Bor, length, reverse, refl, sym, ap, ◌∙◌}
use Rattle.std.specs.Prelude.{ℕ, OnErr, OnOk, Result, Ok, Err, is_some, option_copied, option_map, unwrap_or}
use Rattle.std.specs.Option.{option_to_list}
use Rattle.std.specs.Ordering.{is_eq}
use Rattle.std.specs.BTreeMap.{BTreeMap, get, Updates}
use Rattle.std.proofs.lemmas.Map.Text.{is_eq-slice_cmp}
use Rattle.ebl_base.specs.Checksum.{checksum_cmp, checksum_eq}
use Rattle.ebl_base.specs.declared.checksum.Checksum.{Checksum}
use Rattle.ebl_base.specs.declared.chain.ChainLink.{ChainLink}
use Rattle.ebl_base.proofs.ChecksumLemmas.{checksum_eq-Decides}
use Rattle.envelope_manifest.specs.declared.manifest.Manifest.{Manifest}
use Rattle.bill_chain.specs.Chain.{last_of}
use Rattle.bill_diary.specs.declared.record.Record.{Record}
use Rattle.bill_diary.specs.declared.record.Record.TheVariants.{Begun, Taken}
use Rattle.bill_diary.specs.declared.frame.Frame.{Frame}
use Rattle.bill_diary.specs.declared.frame.Frame.TheVariants.{BegunTaken}
use Rattle.bill_diary.specs.History.{records_of, history}
use Rattle.bill_diary.specs.Known.{taken_chain}
use Rattle.title_register.specs.declared.bill_state.StateChange.{StateChange}
use Rattle.title_register.specs.declared.frame_key.FrameKey.{FrameKey}
use Rattle.title_register.specs.declared.frame_numbers.FrameNumbers.{FrameNumbers}
use Rattle.title_register.specs.declared.room.Room.{Room}
use Rattle.title_register.specs.declared.bill_state.BillState.{BillState}
use Rattle.title_register.specs.BillState.{state_of, state_with, unknown}
use Rattle.title_register.specs.Frames.{key_eq, number_in, number_of, with_number}
use Rattle.title_register.specs.Register.{IsRoomFor, state_in}
use Rattle.title_register.proofs.RegisterLemmas.{begun_taken}
use Rattle.bill_diary.proofs.LinkedLemmas.{other_history}

-- a Begun whose chain has a last entry is taken in its frame
pub begun_is_taken : (P : List Record → Type 0) (bill : Checksum) (chain : List ChainLink) (manifest : Manifest)
    → (body : List ℕ) (h : List Record) → is_some (last_of chain) ≡ true
    → ((entry : Checksum) → taken_chain entry (Begun bill chain manifest body ∷ h) ≡ Some chain
    → P (Taken bill entry ∷ Begun bill chain manifest body ∷ h))
    → P (reverse (records_of (BegunTaken (Begun bill chain manifest body))) ++ h)
begun_is_taken P bill chain manifest body h some shown = on_last (last_of chain) refl some
  where
    on_last : (last : Option ChainLink) → last_of chain ≡ last → is_some last ≡ true
        → P (reverse (Begun bill chain manifest body
        ∷ option_to_list (option_map (λ (link : ChainLink). Taken bill link.name) last)) ++ h)
    on_last None is none = absurd (let no : false ≡ true = none in cc)
    on_last (Some link) is some1 = shown link.name (begun_taken bill chain manifest body link h is)

pub is_some-option_copied : (o : Option (Bor ChainLink)) → is_some (option_copied o) ≡ is_some o
is_some-option_copied None = refl
is_some-option_copied (Some link) = refl

pub one_room : {a b : Room} → Some a ≡ Some b → a ≡ b
one_room h = cc h

pub none_by : (stored : Option BillState) (b : Bool) → b ≡ is_some stored → b ≡ false → stored ≡ None
none_by None b is fails = refl
none_by (Some x) b is fails = absurd (let both : true ≡ false = sym is ∙ fails in cc)

pub found : (bills : BTreeMap Checksum BillState) (bill : Checksum) (state : BillState)
    → get checksum_cmp bills bill ≡ Some state → state ≡ state_in bills bill
found bills bill state was = sym (ap (λ (o : Option BillState). unwrap_or o unknown) was)

-- what is promised of an Ok, where there is no error
pub on_ok : {T E : Type 0} (A B : Type 0) (r : Result T E) → OnOk r A → OnErr r B → (B → ⊥) → A
on_ok A B (Ok x) ok err never = ok
on_ok A B (Err e) ok err never = absurd (never err)

module _ (bills between new : BTreeMap Checksum BillState) (bill q : Checksum) (x state : BillState) (change : StateChange)
    (was : get checksum_cmp bills bill ≡ Some state)
    (first : Updates checksum_cmp bills between bill (Some x))
    (second : Updates checksum_cmp between new bill (Some (state_with change state)))
  where
    put_on : (b : Bool) → is_eq (checksum_cmp bill q) ≡ b
        → state_in new q ≡ cond b (state_with change state) (state_in bills q)
    put_on true e =
        ap (λ (o : Option BillState). unwrap_or o unknown)
        (second.0 q
        ∙ ap (λ (t : Bool). cond t (Some (state_with change state)) (get checksum_cmp between q)) e)
    put_on false e =
        ap (λ (o : Option BillState). unwrap_or o unknown)
        (second.0 q
        ∙ ap (λ (t : Bool). cond t (Some (state_with change state)) (get checksum_cmp between q)) e
        ∙ first.0 q ∙ ap (λ (t : Bool). cond t (Some x) (get checksum_cmp bills q)) e)

    -- a state that is taken out, changed and put back
    pub put_back : state_in new q
        ≡ cond (checksum_eq bill q) (state_with change (state_in bills bill)) (state_in bills q)
    put_back =
        put_on (is_eq (checksum_cmp bill q)) refl
        ∙ ap (λ (t : Bool). cond t (state_with change state) (state_in bills q)) (is_eq-slice_cmp bill.0 q.0)
        ∙ ap (λ (s : BillState). cond (checksum_eq bill q) (state_with change s) (state_in bills q))
        (found bills bill state was)

-- ---- all of it, after one frame more

states_on : (diary : List Frame) (frame : Frame) (bills : BTreeMap Checksum BillState) (room : Room)
    → ((q : Checksum) → state_in bills q ≡ state_of (history q diary)) → IsRoomFor frame diary room
    → (q : Checksum) (b : Bool) → checksum_eq room.bill q ≡ b
    → cond b (state_with room.change (state_in bills room.bill)) (state_in bills q)
    ≡ state_of (history q (diary ++ frame ∷ []))
states_on diary frame bills room states is_for q true is =
    ap (state_with room.change) (states room.bill) ∙ is_for.change_is
    ∙ ap (λ (bill : Checksum). state_of (history bill (diary ++ frame ∷ [])))
    ((checksum_eq-Decides room.bill q).0 is)
states_on diary frame bills room states is_for q false is =
    states q
    ∙ ap state_of
    (sym (other_history diary frame q (ap (λ (b : Checksum). checksum_eq b q) (sym is_for.bill_is) ∙ is)))

pub states_more : (diary : List Frame) (frame : Frame) (bills new : BTreeMap Checksum BillState) (room : Room)
    → ((q : Checksum) → state_in bills q ≡ state_of (history q diary)) → IsRoomFor frame diary room
    → ((q : Checksum) → state_in new q
    ≡ cond (checksum_eq room.bill q) (state_with room.change (state_in bills room.bill)) (state_in bills q))
    → (q : Checksum) → state_in new q ≡ state_of (history q (diary ++ frame ∷ []))
states_more diary frame bills new room states is_for put q =
    put q ∙ states_on diary frame bills room states is_for q (checksum_eq room.bill q) refl

with_same : (key : Option FrameKey) (n : ℕ) (f g : FrameKey → Option ℕ) → ((k : FrameKey) → f k ≡ g k)
    → (k : FrameKey) → with_number key n f k ≡ with_number key n g k
with_same None n f g same k = same k
with_same (Some new) n f g same k = ap (λ (x : Option ℕ). cond (key_eq new k) (Some n) x) (same k)

numbers_put_at : (diary : List Frame) (frame : Frame) (room : Room) (old first second new : FrameNumbers)
    → ((k : FrameKey) → number_in old.numbers k ≡ number_of k diary) → IsRoomFor frame diary room
    → ((k : FrameKey) → number_in first.numbers k ≡ with_number room.kept (length diary) (number_in old.numbers) k)
    → ((k : FrameKey) → number_in second.numbers k ≡ with_number room.came (length diary) (number_in first.numbers) k)
    → ((k : FrameKey) → number_in new.numbers k ≡ with_number room.taken (length diary) (number_in second.numbers) k)
    → (k : FrameKey) → number_in new.numbers k ≡ number_of k (diary ++ frame ∷ [])
numbers_put_at diary frame room old first second new numbers is_for one two three k =
    let n = length diary in
    let kept : FrameKey → Option ℕ = with_number room.kept n (λ (x : FrameKey). number_of x diary) in
    let came : FrameKey → Option ℕ = with_number room.came n kept in
    three k
    ∙ with_same room.taken n (number_in second.numbers) came
    (λ q. two q
    ∙ with_same room.came n (number_in first.numbers) kept
    (λ p. one p ∙ with_same room.kept n (number_in old.numbers) (λ x. number_of x diary) numbers p) q) k
    ∙ is_for.numbers_are k

-- the numbers after a frame whose number is put under its keys
pub numbers_put : (diary : List Frame) (frame : Frame) (room : Room) (old first second new : FrameNumbers) (n : ℕ)
    → n ≡ length diary → ((k : FrameKey) → number_in old.numbers k ≡ number_of k diary) → IsRoomFor frame diary room
    → ((k : FrameKey) → number_in first.numbers k ≡ with_number room.kept n (number_in old.numbers) k)
    → ((k : FrameKey) → number_in second.numbers k ≡ with_number room.came n (number_in first.numbers) k)
    → ((k : FrameKey) → number_in new.numbers k ≡ with_number room.taken n (number_in second.numbers) k)
    → (k : FrameKey) → number_in new.numbers k ≡ number_of k (diary ++ frame ∷ [])
numbers_put diary frame room old first second new n n_is numbers is_for one two three k =
    numbers_put_at diary frame room old first second new numbers is_for
    (λ q. one q ∙ ap (λ (m : ℕ). with_number room.kept m (number_in old.numbers) q) n_is)
    (λ q. two q ∙ ap (λ (m : ℕ). with_number room.came m (number_in first.numbers) q) n_is)
    (λ q. three q ∙ ap (λ (m : ℕ). with_number room.taken m (number_in second.numbers) q) n_is) k
