-- The platforms and the parties of the roster have their forms.
use Rattle.std.proofs.Common.{◌≡◌, ℕ, zero, suc, Bool, true, false, cond, List, [], ◌∷◌, Option, Some, None, Ok, find, get_or, refl}
use Rattle.std.specs.Prelude.{unwrap_or}
use Rattle.ebl_base.specs.Party.{IsParty, party_eq}
use Rattle.ebl_base.specs.PlatformCode.{IsCode}
use Rattle.ebl_base.specs.declared.party.Party.{Party}
use Rattle.ebl_base.specs.declared.platform_code.PlatformCode.{PlatformCode}
use Rattle.party_roster.specs.Reading.{roster_of}
use Rattle.party_roster.specs.RosterRecord.{has_platform}
use Rattle.party_roster.specs.Writing.{roster_value}
use Rattle.rehearsal.specs.Events.{listed_or_carrier}
use Rattle.rehearsal.specs.Roster.{alph, beta, gamm, made_roster, one, party_at, platform_at}

-- a platform of the roster
pub record IsMadePlatform (p : PlatformCode) : Type 0 where
  pub code : IsCode p
  pub listed : has_platform made_roster p ≡ true

-- a party of the roster
pub record IsMadeParty (p : Party) : Type 0 where
  pub form : IsParty p
  pub at : IsMadePlatform p.platform

-- ---- items of a list

-- what holds of each item
abbrev pub Each : {X : Type 0} → (X → Type 0) → List X → Type 0
Each P [] = Unit {0}
Each P (x ∷ xs) = P x × Each P xs

each_at : {X : Type 0} (P : X → Type 0) (xs : List X) (d : X) → Each P xs → P d → (i : ℕ) → P (get_or xs i d)
each_at P [] d each last i = last
each_at P (x ∷ xs) d each last zero = each.0
each_at P (x ∷ xs) d each last (suc i) = each_at P xs d each.1 last i

each_found : {X : Type 0} (P : X → Type 0) (test : X → Bool) (xs : List X) (d : X) → Each P xs → P d
    → P (unwrap_or (find test xs) d)
each_found P test [] d each last = last
each_found {X} P test (x ∷ xs) d each last =
    elim (test x) as (λ b. P (unwrap_or (cond b (Some x) (find test xs)) d)) [
      | true ↦ each.0
      | false ↦ each_found P test xs d each.1 last
    ]

-- ---- the roster

alph_made : IsMadePlatform alph
unfolding made_roster
alph_made = record { code = refl; listed = refl }

beta_made : IsMadePlatform beta
unfolding made_roster
beta_made = record { code = refl; listed = refl }

gamm_made : IsMadePlatform gamm
unfolding made_roster
gamm_made = record { code = refl; listed = refl }

pub carrier_made : IsMadeParty (one alph)
carrier_made = record { form = refl; at = alph_made }

parties_made : Each IsMadeParty made_roster.parties
unfolding made_roster
parties_made = (
  carrier_made,
  (
    record { form = refl; at = alph_made },
    (
      record { form = refl; at = beta_made },
      (
        record { form = refl; at = beta_made },
        (record { form = refl; at = gamm_made }, (record { form = refl; at = gamm_made }, tt)),
      ),
    ),
  ),
)

pub party_made : (i : ℕ) → IsMadeParty (party_at i)
party_made i = each_at IsMadeParty made_roster.parties (one alph) parties_made carrier_made i

pub platform_made : (i : ℕ) → IsMadePlatform (platform_at i)
unfolding made_roster
platform_made i =
    each_at IsMadePlatform (alph ∷ beta ∷ gamm ∷ []) alph (alph_made, (beta_made, (gamm_made, tt))) alph_made i

pub actor_made : (p : Option Party) → IsMadeParty (listed_or_carrier p)
actor_made None = carrier_made
actor_made (Some p) =
    each_found IsMadeParty (λ q. party_eq q p) made_roster.parties (one alph) parties_made carrier_made

-- ---- the whole

-- what it is written as is read
pub roster_reads : roster_of (roster_value made_roster) ≡ Ok made_roster
unfolding made_roster
roster_reads = refl
