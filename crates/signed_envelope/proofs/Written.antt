-- A header that is cut into what is always written and the platform.
use Rattle.std.proofs.Common.{◌≡◌, ℕ, ◌-◌, true, List, ◌++◌, length, take, drop, codes, Option, None, Some, IfSome, bytes_eq, refl, sym, ap₂, ◌∙◌}
use Rattle.std.proofs.lemmas.List.{take-append-drop}
use Rattle.std.proofs.lemmas.Slice.Eq.{bytes_eq-Decides}
use Rattle.ebl_base.specs.PlatformCode.{IsCode, code_of, code_text}
use Rattle.ebl_base.specs.declared.platform_code.PlatformCode.{PlatformCode}
use Rattle.ebl_base.proofs.TextLemmas.{code_text-code_of}
use Rattle.signed_envelope.specs.Alg.{alg_text}
use Rattle.signed_envelope.specs.Header.{header_text}
use Rattle.signed_envelope.specs.declared.alg.Alg.{Alg}
use Rattle.signed_envelope.specs.declared.alg.Alg.TheVariants.{Hs256, Es256}

-- what stands before the platform
abbrev pub front_text : Alg → List ℕ
front_text alg = codes "{\"alg\":\"" ++ alg_text alg ++ codes "\",\"kid\":\""

abbrev pub end_text : List ℕ
end_text = codes "\"}"

joined : (alg : Alg) (who : PlatformCode) → front_text alg ++ (code_text who ++ end_text) ≡ header_text alg who
joined Hs256 who = refl
joined Es256 who = refl

-- a front, a code and the end are the header that is written
module _ (alg : Alg) (header front rest code : List ℕ) (is_front : front ≡ front_text alg) (first : bytes_eq (take (length front) header) front ≡ true)
    (left : rest ≡ drop (length front) header) (last : bytes_eq (drop (length rest - 2) rest) end_text ≡ true) (cut : code ≡ take (length rest - 2) rest) where
  header_is_written : (who : PlatformCode) → code_of code ≡ Some who → header ≡ header_text alg who
  header_is_written who named =
      let begins = (bytes_eq-Decides (take (length front) header) front).0 first in
      let ends = (bytes_eq-Decides (drop (length rest - 2) rest) end_text).0 last in
      sym (take-append-drop (length front) header)
      ∙ ap₂ (λ (a b : List ℕ). a ++ b) (begins ∙ is_front)
      (sym left ∙ sym (take-append-drop (length rest - 2) rest) ∙ ap₂ (λ (a b : List ℕ). a ++ b) (sym cut ∙ sym (code_text-code_of code who named)) ends)
      ∙ joined alg who

  pub some_written : (made : Option PlatformCode) → made ≡ code_of code → IfSome made IsCode → IfSome made (λ who. (header ≡ header_text alg who) × IsCode who)
  some_written None is form = tt
  some_written (Some who) is form = (header_is_written who (sym is), form)
