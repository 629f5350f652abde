-- What it says that two providers or two carriers' codes are one.
use Rattle.std.proofs.Common.{◌≡◌, ℕ, List, ap, refl}
use Rattle.std.specs.Bool.{Decides}
use Rattle.std.proofs.lemmas.Bool.Decides.{Decides-like}
use Rattle.std.proofs.lemmas.Slice.Eq.{bytes_eq-Decides}
use Rattle.ebl_base.specs.Provider.{provider_eq}
use Rattle.ebl_base.specs.CarrierCode.{carrier_code_eq}
use Rattle.ebl_base.specs.declared.provider.Provider.{Provider}
use Rattle.ebl_base.specs.declared.provider.Provider.TheVariants.{Smdg, Nmfta}
use Rattle.ebl_base.specs.declared.carrier_code.CarrierCode.{CarrierCode}

-- two providers are one if and only if they are equal
pub provider_eq-Decides : (a b : Provider) → Decides (provider_eq a b) (a ≡ b)
provider_eq-Decides Smdg Smdg = (λ t. refl, λ e. refl)
provider_eq-Decides Smdg Nmfta = (λ t. cc, λ e. cc)
provider_eq-Decides Nmfta Smdg = (λ t. cc, λ e. cc)
provider_eq-Decides Nmfta Nmfta = (λ t. refl, λ e. refl)

-- two codes are one if and only if they are equal
pub carrier_code_eq-Decides : (a b : CarrierCode) → Decides (carrier_code_eq a b) (a ≡ b)
carrier_code_eq-Decides a b =
    let code : List ℕ → CarrierCode = λ text. record { bytes = text } in
    Decides-like (carrier_code_eq a b) (ap code) (ap (λ (c : CarrierCode). c.bytes)) (bytes_eq-Decides a.bytes b.bytes)
