-- The scan finds the end of each head of the grammar.
use Rattle.std.proofs.Common.{◌≡◌, ℕ, suc, zero, ◌+◌, ◌≤◌, Bool, List, [], ◌∷◌, ◌++◌, Option, Some, None, refl, ap, sym, ◌∙◌, subst, length, arith, append_assoc, length-append}
use Rattle.std.specs.Prelude.{◌≢◌, Ok, Err, IsTrue, All, codes}
use Rattle.std.specs.List.{flat_map}
use Rattle.std.specs.Char.{is_ascii_digit}
use Rattle.std.proofs.lemmas.Bool.{ne_eqb}
use Rattle.httparse.specs.Ascii.{space, colon, digit_zero}
use Rattle.httparse.specs.Grammar.{AllPass, is_token_byte, is_value_byte, IsToken, LineEnd, crlf, lf, print_end, print_blank, print_version, Field, print_field, IsField, ResponseHead, print_reason, reason_phrase, print_response, IsResponseHead, ReadsResponse}
use Rattle.http_heads.specs.declared.scan.Scan.{Scan}
use Rattle.http_heads.specs.declared.scan.Scan.TheVariants.{Blank, Text, Start}
use Rattle.http_heads.specs.Scan.{step, scan}
use Rattle.http_heads.proofs.ScanLemmas.{scan-found, scan-goes_on}

-- over these bytes the scan comes from `s` to `t`, without an end
abbrev Passes : Scan → List ℕ → Scan → Type 0
Passes s part t = (n : ℕ) → scan n s part ≡ Err t

joined : (s t u : Scan) (a b : List ℕ) → Passes s a t → Passes t b u → Passes s (a ++ b) u
joined s t u a b first second = λ n. scan-goes_on n s t a b (first n) ∙ second (n + length a)

-- bytes that end no line
abbrev IsInline : List ℕ → Type 0
IsInline [] = Unit {0}
IsInline (b ∷ bytes) = (b ≢ 10) × IsInline bytes

inline_by : (test : ℕ → Bool) (bytes : List ℕ) → ((b : ℕ) → IsTrue (test b) → b ≢ 10) → AllPass test bytes → IsInline bytes
inline_by test [] other all = tt
inline_by test (b ∷ bytes) other all =
    (other b (all zero 0 (omega arith)), inline_by test bytes other (λ k d within. all (suc k) d (omega arith)))

value_is_inline : (b : ℕ) → IsTrue (is_value_byte b) → b ≢ 10
value_is_inline b passes is = let at_feed = subst (λ x. IsTrue (is_value_byte x)) is passes in absurd (cc)

digit_is_inline : (b : ℕ) → IsTrue (is_ascii_digit b) → b ≢ 10
digit_is_inline b passes is = let at_feed = subst (λ x. IsTrue (is_ascii_digit x)) is passes in absurd (cc)

token_is_inline : (b : ℕ) → IsTrue (is_token_byte b) → b ≢ 10
unfolding is_token_byte
token_is_inline b passes is = let at_feed = subst (λ x. IsTrue (is_token_byte x)) is passes in absurd (cc)

token_is_no_return : (b : ℕ) → IsTrue (is_token_byte b) → b ≢ 13
unfolding is_token_byte
token_is_no_return b passes is = let at_return = subst (λ x. IsTrue (is_token_byte x)) is passes in absurd (cc)

step-text : (b : ℕ) → b ≢ 10 → step Text b ≡ Text
step-text b other = rw (ne_eqb b 10 other) refl

step-start : (b : ℕ) → b ≢ 10 → b ≢ 13 → step Start b ≡ Text
step-start b other no_return = rw (ne_eqb b 10 other, ne_eqb b 13 no_return) refl

in_line : (bytes : List ℕ) → IsInline bytes → Passes Text bytes Text
in_line [] all n = refl
in_line (b ∷ bytes) (here, rest) n = rw (step-text b here) (in_line bytes rest (n + 1))

line_end : (e : LineEnd) → Passes Text (print_end e) Start
line_end crlf n = refl
line_end lf n = refl

blank_end : (e : LineEnd) → Passes Blank (print_end e) Blank
blank_end crlf n = refl
blank_end lf n = refl

blank_lines : (ends : List LineEnd) → Passes Blank (print_blank ends) Blank
blank_lines [] n = refl
blank_lines (e ∷ ends) n = joined Blank Blank Blank (print_end e) (print_blank ends) (blank_end e) (blank_lines ends) n

-- the empty line behind the fields
last_end : (e : LineEnd) (n : ℕ) → scan n Start (print_end e) ≡ Ok (n + length (print_end e))
last_end crlf n = ap Ok (omega arith)
last_end lf n = ap Ok (omega arith)

protocol : Passes Blank (codes "HTTP/1.") Text
protocol n = refl

version : (minor : ℕ) → minor ≤ 1 → Passes Blank (print_version minor) Text
version minor one =
    joined Blank Text Text (codes "HTTP/1.") ((digit_zero + minor) ∷ []) protocol
    (in_line ((digit_zero + minor) ∷ []) ((λ is. absurd (omega arith)), tt))

code : (digits : List ℕ) → AllPass is_ascii_digit digits → Passes Text (space ∷ digits) Text
code digits all = in_line (space ∷ digits) ((λ is. absurd (omega arith)), inline_by is_ascii_digit digits digit_is_inline all)

reason : (phrase : Option (List ℕ)) → AllPass is_value_byte (reason_phrase phrase) → Passes Text (print_reason phrase) Text
reason None all = λ n. refl
reason (Some phrase) all = in_line (space ∷ phrase) ((λ is. absurd (omega arith)), inline_by is_value_byte phrase value_is_inline all)

name : (bytes : List ℕ) → IsToken bytes → Passes Start bytes Text
name [] token n = let some = token.0 in absurd (omega (arith, some))
name (b ∷ bytes) token n =
    let first = token.1 zero 0 (omega arith) in
    let rest = inline_by is_token_byte bytes token_is_inline (λ k d within. token.1 (suc k) d (omega arith)) in
    rw (step-start b (token_is_inline b first) (token_is_no_return b first)) (in_line bytes rest (n + 1))

raw : (bytes : List ℕ) → AllPass is_value_byte bytes → Passes Text (colon ∷ bytes) Text
raw bytes all = in_line (colon ∷ bytes) ((λ is. absurd (omega arith)), inline_by is_value_byte bytes value_is_inline all)

field : (f : Field) → IsField f → Passes Start (print_field f) Start
field f is =
    joined Start Text Start (f.name ++ colon ∷ f.raw) (print_end f.end)
    (joined Start Text Text f.name (colon ∷ f.raw) (name f.name is.name) (raw f.raw is.raw)) (line_end f.end)

fields_of : (fields : List Field) → All IsField fields → Passes Start (flat_map print_field fields) Start
fields_of [] all = λ n. refl
fields_of (f ∷ fields) all =
    joined Start Start Start (print_field f) (flat_map print_field fields)
    (field f (all zero f (omega arith))) (fields_of fields (λ k d within. all (suc k) d (omega arith)))

-- the scan ends behind each head
pub scan-head : (h : ResponseHead) → IsResponseHead h → scan 0 Blank (print_response h) ≡ Ok (length (print_response h))
unfolding print_response
scan-head h is =
    let blank = print_blank h.blank in
    let start = blank ++ print_version h.minor ++ space ∷ h.digits ++ print_reason h.reason ++ print_end h.line_end in
    let lines = flat_map print_field h.fields in
    let end = print_end h.last in
    let first : Passes Blank (blank ++ print_version h.minor) Text =
    joined Blank Blank Text blank (print_version h.minor) (blank_lines h.blank) (version h.minor is.minor) in
    let second : Passes Blank (blank ++ print_version h.minor ++ space ∷ h.digits) Text =
    joined Blank Text Text (blank ++ print_version h.minor) (space ∷ h.digits) first (code h.digits is.digits.1) in
    let third : Passes Blank (blank ++ print_version h.minor ++ space ∷ h.digits ++ print_reason h.reason) Text =
    joined Blank Text Text (blank ++ print_version h.minor ++ space ∷ h.digits) (print_reason h.reason) second (reason h.reason is.reason) in
    let line : Passes Blank start Start =
    joined Blank Text Start (blank ++ print_version h.minor ++ space ∷ h.digits ++ print_reason h.reason) (print_end h.line_end) third (line_end h.line_end) in
    let front : Passes Blank (start ++ lines) Start = joined Blank Start Start start lines line (fields_of h.fields is.fields) in
    let count : 0 + length (start ++ lines) + length end ≡ length (start ++ (lines ++ end)) =
    omega (arith, length-append (start ++ lines) end, ap length (append_assoc start lines end)) in
    ap (scan 0 Blank) (sym (append_assoc start lines end))
    ∙ scan-goes_on 0 Blank Start (start ++ lines) end (front 0)
    ∙ last_end h.last (0 + length (start ++ lines))
    ∙ ap Ok count

-- a head that is read is where the scan ends
pub scan-reads : (b : List ℕ) (h : ResponseHead) (rest : List ℕ) → ReadsResponse b h rest → scan 0 Blank b ≡ Ok (length (print_response h))
scan-reads b h rest reads =
    ap (scan 0 Blank) reads.1 ∙ scan-found 0 (length (print_response h)) Blank (print_response h) rest (scan-head h reads.0)
