-- What the parts of a reply's head say.
use Rattle.std.proofs.Common.{◌≡◌, ℕ, List, [], Option, Some, None, ap, sym, ◌∙◌, map}
use Rattle.httparse.specs.Grammar.{ResponseHead, ReadsResponse, status_code}
use Rattle.httparse.specs.Spans.{name_and_value}
use Rattle.httparse.proofs.GrammarLemmas.{response_unique}
use Rattle.pint_client.specs.Reply.{States, length_by, stated_length}

-- what a piece states is what its parts state
pub stated_by_parts : (piece : List ℕ) (h : ResponseHead) (code : ℕ) (fields : List (List ℕ × List ℕ)) (found : Option ℕ)
    → ReadsResponse piece h [] → code ≡ status_code h → fields ≡ map name_and_value h.fields → found ≡ length_by code fields
    → (status size : ℕ) → States piece status size → found ≡ Some size
stated_by_parts piece h code fields found reads is_code are_fields is_found status size states =
    let same : states.head ≡ h = (response_unique piece states.head h [] [] states.reads reads).0 in
    is_found ∙ ap (λ x. length_by x fields) is_code ∙ ap (length_by (status_code h)) are_fields ∙ ap stated_length (sym same) ∙ states.length_is

pub none_is_some : (found : Option ℕ) (n : ℕ) → found ≡ None → found ≡ Some n → ⊥
none_is_some found n none some = let both : None ≡ Some n = sym none ∙ some in absurd (cc)

pub one_some : (found : Option ℕ) (m n : ℕ) → found ≡ Some m → found ≡ Some n → m ≡ n
one_some found m n first second = let both : Some m ≡ Some n = sym first ∙ second in cc
