-- What it says that two codes, names or parties are one.
use Rattle.std.proofs.Common.{◌≡◌, ℕ, List, ap}
use Rattle.std.specs.Bool.{Decides}
use Rattle.std.proofs.lemmas.Bool.Decides.{Decides-and, Decides-like}
use Rattle.std.proofs.lemmas.Slice.Eq.{bytes_eq-Decides}
use Rattle.ebl_base.specs.PlatformCode.{code_eq}
use Rattle.ebl_base.specs.Name35.{name_eq}
use Rattle.ebl_base.specs.Party.{party_eq}
use Rattle.ebl_base.specs.declared.platform_code.PlatformCode.{PlatformCode}
use Rattle.ebl_base.specs.declared.name35.Name35.{Name35}
use Rattle.ebl_base.specs.declared.party.Party.{Party}

-- two codes are one if and only if they are equal
pub code_eq-Decides : (a b : PlatformCode) → Decides (code_eq a b) (a ≡ b)
code_eq-Decides a b =
    let code : List ℕ → PlatformCode = λ text. record { bytes = text } in
    Decides-like (code_eq a b) (ap code) (ap (λ (c : PlatformCode). c.bytes)) (bytes_eq-Decides a.bytes b.bytes)

-- two names are one if and only if they are equal
pub name_eq-Decides : (a b : Name35) → Decides (name_eq a b) (a ≡ b)
name_eq-Decides a b =
    let name : List ℕ → Name35 = λ text. record { bytes = text } in
    Decides-like (name_eq a b) (ap name) (ap (λ (n : Name35). n.bytes)) (bytes_eq-Decides a.bytes b.bytes)

-- two parties are one if and only if they are equal
pub party_eq-Decides : (a b : Party) → Decides (party_eq a b) (a ≡ b)
party_eq-Decides a b =
    let party : PlatformCode × Name35 → Party = λ parts. record { platform = parts.0; code = parts.1 } in
    Decides-like (party_eq a b) (λ (same : (a.platform ≡ b.platform) × (a.code ≡ b.code)). λ i. party (same.0 i, same.1 i))
    (λ (e : a ≡ b). (ap (λ (p : Party). p.platform) e, ap (λ (p : Party). p.code) e))
    (Decides-and (code_eq a.platform b.platform) (name_eq a.code b.code)
    (code_eq-Decides a.platform b.platform) (name_eq-Decides a.code b.code))
