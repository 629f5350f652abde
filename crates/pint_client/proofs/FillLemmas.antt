-- A buffer whose front was read, after one read more.
use Rattle.std.proofs.Common.{◌≡◌, ℕ, ◌+◌, ◌-◌, ◌≤◌, List, [], ◌++◌, ap, sym, ◌∙◌, subst, length, take, drop, slice_range, Option, Result, arith, length-append, length-take, length-drop, length-take-le, drop_at, append-nil}
use Rattle.std.specs.Prelude.{min, Ok, Err, OnOk}
use Rattle.std.specs.Io.KnownBytes.{Consumes}
use Rattle.std.proofs.KnownBytes.{Consumes-trans}
use Rattle.std.proofs.lemmas.List.{take-append-le, take_all, take_min}
use Rattle.std.proofs.Math.ListN.{drop_of_length-le}
use Rattle.std.proofs.Math.Seq.{take-append-add, take-append_seam}
use borrow.Rule.Slice.PartMut.{put_mid, post_of}
use Rattle.http_heads.specs.declared.scan.Scan.{Scan}
use Rattle.http_heads.specs.declared.scan.Scan.TheVariants.{Blank}
use Rattle.http_heads.specs.Scan.{scan}
use Rattle.pint_client.specs.Receiving.{HoldsBody}
use Rattle.http_heads.proofs.ScanLemmas.{scan-goes_on}

pub length-put_mid : (count : ℕ) (buffer piece : List ℕ) → count ≤ length buffer → length piece ≡ length buffer - count
    → length (put_mid count (length buffer - count) buffer piece) ≡ length buffer
length-put_mid count buffer piece within room =
    let rest = post_of count (length buffer - count) buffer in
    omega (
      arith,
      length-append (take count buffer) (piece ++ rest),
      length-append piece rest,
      length-take count buffer,
      length-drop (length buffer - count) (drop count buffer),
      length-drop count buffer,
    )

-- the room behind the front
pub length-room : (count : ℕ) (buffer : List ℕ) → count ≤ length buffer → length (slice_range buffer count (length buffer)) ≡ length buffer - count
length-room count buffer within = omega (arith, length-take (length buffer - count) (drop count buffer), length-drop count buffer)

-- the front afterwards
pub take-filled : (count room more : ℕ) (buffer piece : List ℕ) → count ≤ length buffer → more ≤ length piece
    → take (count + more) (put_mid count room buffer piece) ≡ take count buffer ++ take more piece
take-filled count room more buffer piece within fits =
    let rest = post_of count room buffer in
    let long : length (take count buffer) ≡ count = length-take-le count buffer within in
    ap (λ n. take (n + more) (put_mid count room buffer piece)) (sym long)
    ∙ take-append-add (take count buffer) (piece ++ rest) more
    ∙ ap (λ l. take count buffer ++ l) (take-append-le more piece rest fits)

pub Consumes-filled : (a b c : Option (List ℕ)) (count room more : ℕ) (buffer piece : List ℕ) → count ≤ length buffer → more ≤ length piece
    → Consumes a b (take count buffer) → Consumes b c (take more piece)
    → Consumes a c (take (count + more) (put_mid count room buffer piece))
Consumes-filled a b c count room more buffer piece within fits first second =
    subst (Consumes a c) (sym (take-filled count room more buffer piece within fits))
    (Consumes-trans a b c (take count buffer) (take more piece) first second)

-- what was read last
pub slice_range-filled : (count room more : ℕ) (buffer piece : List ℕ) → count ≤ length buffer → more ≤ length piece
    → slice_range (put_mid count room buffer piece) count (count + more) ≡ take more piece
slice_range-filled count room more buffer piece within fits =
    let same : (count + more) - count ≡ more = omega arith in
    let rest = post_of count room buffer in
    ap (take ((count + more) - count)) (drop_at (take count buffer) (piece ++ rest) count (length-take-le count buffer within))
    ∙ ap (λ n. take n (piece ++ rest)) same ∙ take-append-le more piece rest fits

-- a scan over what was read last goes on over the whole
pub scan-filled : (s : Scan) (count room more : ℕ) (buffer piece : List ℕ) → count ≤ length buffer → more ≤ length piece
    → scan 0 Blank (take count buffer) ≡ Err s
    → scan 0 Blank (take (count + more) (put_mid count room buffer piece))
    ≡ scan count s (slice_range (put_mid count room buffer piece) count (count + more))
scan-filled s count room more buffer piece within fits scanned =
    let long : 0 + length (take count buffer) ≡ count = omega (arith, length-take-le count buffer within) in
    ap (scan 0 Blank) (take-filled count room more buffer piece within fits)
    ∙ scan-goes_on 0 Blank s (take count buffer) (take more piece) scanned
    ∙ ap (λ n. scan n s (take more piece)) long
    ∙ ap (scan count s) (sym (slice_range-filled count room more buffer piece within fits))

on_ok : {T E : Type 0} (r : Result T E) (P Q : Type 0) → (P → Q) → OnOk r P → OnOk r Q
on_ok (Ok x) P Q gives holds = gives holds
on_ok (Err e) P Q gives holds = tt

-- a body whose front came behind the head, and whose rest was read
body_filled : (a b : Option (List ℕ)) (behind body mid piece : List ℕ) (count : ℕ) → count ≡ min (length behind) (length body)
    → mid ≡ take count behind ++ drop (length (take count behind)) body
    → length piece ≡ length (slice_range mid count (length mid)) → Consumes a b piece
    → HoldsBody (put_mid count (length mid - count) mid piece) behind (length body) a b
body_filled a b behind body mid piece count least is room consumed =
    let few : count ≤ length behind = omega (arith, least) in
    let long : length (take count behind) ≡ count = length-take-le count behind few in
    let size : length mid ≡ length body =
    omega (
      arith,
      ap length is,
      length-append (take count behind) (drop (length (take count behind)) body),
      long,
      length-drop (length (take count behind)) body,
      least,
    ) in
    let within : count ≤ length mid = omega (arith, size, least) in
    let rest : length piece ≡ length mid - count = room ∙ length-room count mid within in
    let front : take count mid ≡ take count behind =
    ap (take count) is ∙ take-append-le count (take count behind) (drop (length (take count behind)) body) (omega (arith, long))
    ∙ take_all count (take count behind) (omega (arith, long)) in
    let none : post_of count (length mid - count) mid ≡ [] =
    drop_of_length-le {A = ℕ} (drop count mid) (omega (arith, length-drop count mid)) in
    let same : min (length body) (length behind) ≡ count = omega (arith, least) in
    let all : put_mid count (length mid - count) mid piece ≡ take count behind ++ piece =
    ap (λ l. take count mid ++ (piece ++ l)) none ∙ ap (λ l. take count mid ++ l) (append-nil piece) ∙ ap (λ l. l ++ piece) front in
    record {
      read = piece;
      consumed = consumed;
      body_is = all ∙ ap (λ l. l ++ piece) (ap (λ n. take n behind) (sym same) ∙ take_min (length body) behind);
      size_is = ap length all ∙ omega (arith, length-append (take count behind) piece, long, rest, size, least);
    }

pub body_filled_if : {T E : Type 0} (r : Result T E) (a b : Option (List ℕ)) (behind body mid piece : List ℕ) (count : ℕ)
    → count ≡ min (length behind) (length body) → mid ≡ take count behind ++ drop (length (take count behind)) body
    → length piece ≡ length (slice_range mid count (length mid)) → OnOk r (Consumes a b piece)
    → OnOk r (HoldsBody (put_mid count (length mid - count) mid piece) behind (length body) a b)
body_filled_if r a b behind body mid piece count least is room consumed =
    on_ok r (Consumes a b piece) (HoldsBody (put_mid count (length mid - count) mid piece) behind (length body) a b)
    (body_filled a b behind body mid piece count least is room) consumed

pub HoldsBody-same : (body other behind : List ℕ) (size count : ℕ) (a b : Option (List ℕ)) → other ≡ body → count ≡ size
    → HoldsBody body behind count a b → HoldsBody other behind size a b
HoldsBody-same body other behind size count a b same long holds = record {
  read = holds.read;
  consumed = holds.consumed;
  body_is = same ∙ holds.body_is ∙ ap (λ n. take n behind ++ holds.read) long;
  size_is = ap length same ∙ holds.size_is ∙ long;
}

-- what a vector holds once its slice is given back
pub written_back : (items slice : List ℕ) (len : ℕ) → length slice ≡ len → take len (slice ++ drop (length slice) items) ≡ slice
written_back items slice len same =
    ap (λ n. take n (slice ++ drop (length slice) items)) (sym same) ∙ take-append_seam slice (drop (length slice) items)
