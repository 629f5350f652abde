-- What the disk stands for in each of the two steps of an append: the frame behind the shut gate, and then the gate.
use Rattle.std.proofs.Common.{◌≡◌, ◌≢◌, inl, inr, ◌⊎◌, ℕ, ◌+◌, ◌<◌, List, [], ◌∷◌, ◌++◌, Result, Ok, Err, OnOk, get_or, length, take, drop, sym, ◌∙◌, ap, subst, arith, append_assoc, length-append, take-append-drop}
use Rattle.std.proofs.lemmas.Bool.{cases_eq}
use Rattle.std.proofs.lemmas.List.{take_at, drop_at, drop_more}
use Rattle.disk_model.specs.Disk.{written, Torn, Only}
use Rattle.bill_journal.specs.Frames.{frame_text, framed, front_of, IsShort, AreShort, StandsFor}
use Rattle.bill_journal.specs.Journal.{IsSettled, WithOrWithout, MayHave, TornFrom}
use Rattle.bill_journal.proofs.FrameLemmas.{front_of-push, length-front_of-push, length-framed, AreShort-push, stands_once}

-- through the gate the bytes are the front and that gate
through_gate : (file : List ℕ) (h : List (List ℕ)) (end : ℕ) (stands : StandsFor file h) → end ≡ length (front_of h)
    → take (end + 1) file ≡ front_of h ++ stands.gate ∷ []
through_gate file h end stands here =
    let long : length (front_of h ++ stands.gate ∷ []) ≡ end + 1 = omega
    (arith, here, length-append (front_of h) (stands.gate ∷ [])) in
    ap (take (end + 1)) (stands.bytes ∙ sym (append_assoc (front_of h) (stands.gate ∷ []) stands.rest))
    ∙ take_at (front_of h ++ stands.gate ∷ []) stands.rest (end + 1) long

-- what is torn behind the gate doesn't count
pub torn_behind : (file c : List ℕ) (h : List (List ℕ)) (end n : ℕ) → StandsFor file h → end ≡ length (front_of h)
    → Torn (end + 1) n file c → StandsFor c h
torn_behind file c h end n stands here torn = record {
  gate = stands.gate;
  rest = drop (end + 1) c;
  shut = stands.shut;
  bytes = sym (take-append-drop (end + 1) c)
      ∙ ap (λ (l : List ℕ). l ++ drop (end + 1) c) (torn.before ∙ through_gate file h end stands here)
      ∙ append_assoc (front_of h) (stands.gate ∷ []) (drop (end + 1) c);
  short = stands.short;
}

-- a frame stands behind the shut gate that ends the journal
pub record IsStaged (file : List ℕ) (h : List (List ℕ)) (x : List ℕ) : Type 0 where
  pub gate : ℕ
  pub rest : List ℕ
  pub shut : gate ≢ 1
  pub bytes : file ≡ front_of h ++ gate ∷ (framed x ++ rest)
  pub short : AreShort h

pub staged : (file c : List ℕ) (h : List (List ℕ)) (x : List ℕ) (end : ℕ) → StandsFor file h
    → end ≡ length (front_of h) → c ≡ written file (end + 1) (framed x) → IsStaged c h x
staged file c h x end stands here is =
    let rest = drop (end + 1 + length (framed x)) file in
    record {
      gate = stands.gate;
      rest = rest;
      shut = stands.shut;
      bytes = is ∙ ap (λ (l : List ℕ). l ++ framed x ++ rest) (through_gate file h end stands here)
          ∙ append_assoc (front_of h ++ stands.gate ∷ []) (framed x) rest
          ∙ append_assoc (front_of h) (stands.gate ∷ []) (framed x ++ rest);
      short = stands.short;
    }

-- behind an open gate the frame counts
opened : (c : List ℕ) (h : List (List ℕ)) (x rest : List ℕ) → c ≡ front_of h ++ 1 ∷ (framed x ++ rest) → AreShort h
    → IsShort x → StandsFor c (h ++ x ∷ [])
opened c h x rest is short here = record {
  gate = 0;
  rest = rest;
  shut = omega arith;
  bytes = is ∙ ap (λ (l : List ℕ). front_of h ++ 1 ∷ l) (append_assoc (frame_text x) (0 ∷ []) rest)
      ∙ sym (append_assoc (front_of h) (1 ∷ frame_text x) (0 ∷ rest))
      ∙ ap (λ (l : List ℕ). l ++ 0 ∷ rest) (sym (front_of-push h x));
  short = AreShort-push h x short here;
}

before_gate : (file : List ℕ) (h : List (List ℕ)) (x : List ℕ) (end : ℕ) → IsStaged file h x
    → end ≡ length (front_of h) → take end file ≡ front_of h
before_gate file h x end stage here = ap (take end) stage.bytes
    ∙ take_at (front_of h) (stage.gate ∷ (framed x ++ stage.rest)) end (sym here)

behind_gate : (file : List ℕ) (h : List (List ℕ)) (x : List ℕ) (end : ℕ) (stage : IsStaged file h x)
    → end ≡ length (front_of h) → drop (end + 1) file ≡ framed x ++ stage.rest
behind_gate file h x end stage here =
    let long : length (front_of h ++ stage.gate ∷ []) ≡ end + 1 = omega
    (arith, here, length-append (front_of h) (stage.gate ∷ [])) in
    ap (drop (end + 1)) (stage.bytes ∙ sym (append_assoc (front_of h) (stage.gate ∷ []) (framed x ++ stage.rest)))
    ∙ drop_at (front_of h ++ stage.gate ∷ []) (framed x ++ stage.rest) (end + 1) long

-- a torn gate is open or it isn't
pub torn_gate : (file c : List ℕ) (h : List (List ℕ)) (x : List ℕ) (end : ℕ) → IsStaged file h x → IsShort x
    → end ≡ length (front_of h) → Torn end 1 file c → WithOrWithout h x c
torn_gate file c h x end stage here at torn = elim (cases_eq gate 1) [
  | inl is ↦ inr (opened c h x stage.rest
      (whole ∙ ap (λ (g : ℕ). front_of h ++ g ∷ (framed x ++ stage.rest)) is) stage.short here)
  | inr shut ↦ inl (record {
    gate = gate;
    rest = framed x ++ stage.rest;
    shut = shut;
    bytes = whole;
    short = stage.short;
  })
]
  where
    gate : ℕ
    gate = get_or c end 0

    inside : end < length c
    inside = omega (
      arith,
      at,
      torn.no_shorter,
      ap length stage.bytes,
      length-append (front_of h) (stage.gate ∷ (framed x ++ stage.rest)),
    )

    whole : c ≡ front_of h ++ gate ∷ (framed x ++ stage.rest)
    whole = sym (take-append-drop end c)
        ∙ ap (λ (l : List ℕ). l ++ drop end c) (torn.before ∙ before_gate file h x end stage at)
        ∙ ap (λ (l : List ℕ). front_of h ++ l)
        (drop_more c end 0 inside
        ∙ ap (λ (l : List ℕ). gate ∷ l) (torn.after ∙ behind_gate file h x end stage at))

pub gate_written : (file c : List ℕ) (h : List (List ℕ)) (x : List ℕ) (end : ℕ) → IsStaged file h x → IsShort x
    → end ≡ length (front_of h) → c ≡ written file end (1 ∷ []) → StandsFor c (h ++ x ∷ [])
gate_written file c h x end stage here at is =
    opened c h x stage.rest
    (is ∙ ap (λ (l : List ℕ). l ++ (1 ∷ []) ++ drop (end + 1) file) (before_gate file h x end stage at)
    ∙ ap (λ (l : List ℕ). front_of h ++ (1 ∷ []) ++ l) (behind_gate file h x end stage at)
    ∙ append_assoc (front_of h) (1 ∷ []) (framed x ++ stage.rest))
    stage.short here

-- ---- with the outcomes of a crash

-- of a settled journal, torn behind the gate
pub first_torn : (file : List ℕ) (may_leave : List ℕ → Type 0) (h : List (List ℕ)) (end n : ℕ)
    → IsSettled file may_leave end h
    → (c : List ℕ) → TornFrom (end + 1) n may_leave c → StandsFor c h
first_torn file may_leave h end n settled c (d, left, torn) =
    torn_behind file c h end n settled.stands settled.place
    (subst (λ (f : List ℕ). Torn (end + 1) n f c) (settled.durable d left) torn)

-- of a frame that was put on the disk, torn at the gate
pub second_torn : (file : List ℕ) (may_leave : List ℕ → Type 0) (h : List (List ℕ)) (x : List ℕ) (end : ℕ)
    → IsStaged file h x → IsShort x → end ≡ length (front_of h) → Only file may_leave
    → (c : List ℕ) → TornFrom end 1 may_leave c → WithOrWithout h x c
second_torn file may_leave h x end stage here at only c (d, left, torn) =
    torn_gate file c h x end stage here at (subst (λ (f : List ℕ). Torn end 1 f c) (only d left) torn)

pub settled_after : {E : Type 0} (r : Result (Unit {0}) E) (file new : List ℕ) (may_leave : List ℕ → Type 0)
    (h : List (List ℕ)) (x bytes : List ℕ) (end : ℕ)
    → IsStaged file h x → IsShort x → end ≡ length (front_of h) → bytes ≡ framed x
    → OnOk r (new ≡ written file end (1 ∷ [])) → OnOk r (Only new may_leave)
    → OnOk r (IsSettled new may_leave (end + length bytes) (h ++ x ∷ []))
settled_after (Ok y) file new may_leave h x bytes end stage here at is done durable = record {
  stands = gate_written file new h x end stage here at done;
  place = omega (arith, at, length-front_of-push h x, ap length is, length-framed x);
  durable = durable;
}
settled_after (Err e) file new may_leave h x bytes end stage here at is done durable = tt

-- ---- what a reading gives then

pub settled_may_have : (file : List ℕ) (may_leave : List ℕ → Type 0) (end : ℕ) (h : List (List ℕ)) (x : List ℕ)
    → IsSettled file may_leave end h → MayHave file may_leave h x
settled_may_have file may_leave end h x settled = record {
  now = inl settled.stands;
  crash = λ c left. inl (subst (λ (f : List ℕ). StandsFor f h) (sym (settled.durable c left)) settled.stands);
}

pub reads_either : (file : List ℕ) (h k : List (List ℕ)) (x : List ℕ) → WithOrWithout h x file → StandsFor file k
    → (k ≡ h) ⊎ (k ≡ h ++ x ∷ [])
reads_either file h k x (inl without) stands = inl (stands_once file k h stands without)
reads_either file h k x (inr with) stands = inr (stands_once file k (h ++ x ∷ []) stands with)
