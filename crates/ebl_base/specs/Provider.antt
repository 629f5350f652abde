-- Who keeps the list of carriers' codes.
use Rattle.std.specs.Prelude.{ℕ, Bool, true, false, List, [], ◌∷◌, Option, codes, find}
use Rattle.std.specs.Str.{bytes_eq}
use Rattle.ebl_base.specs.declared.provider.Provider.{Provider}
use Rattle.ebl_base.specs.declared.provider.Provider.TheVariants.{Smdg, Nmfta}

-- the text of a provider
abbrev pub provider_text : Provider → List ℕ
provider_text Smdg = codes "SMDG"
provider_text Nmfta = codes "NMFTA"

-- all providers
abbrev pub providers : List Provider
providers = Smdg ∷ Nmfta ∷ []

-- the provider with this text
abbrev pub provider_of : List ℕ → Option Provider
provider_of text = find (λ provider. bytes_eq (provider_text provider) text) providers

-- whether two providers are one
abbrev pub provider_eq : Provider → Provider → Bool
provider_eq Smdg Smdg = true
provider_eq Smdg Nmfta = false
provider_eq Nmfta Smdg = false
provider_eq Nmfta Nmfta = true
