-- Searches in a family.
use Rattle.std.proofs.Common.{◌≡◌, Bool, true, false, cond, List, [], ◌∷◌, refl}
use Rattle.std.specs.Prelude.{Some, find}
use Rattle.std.specs.Option.{option_map_or}
use Rattle.ebl_base.specs.PlatformCode.{code_eq}
use Rattle.ebl_base.specs.declared.checksum.Checksum.{Checksum}
use Rattle.ebl_base.specs.declared.platform_code.PlatformCode.{PlatformCode}
use Rattle.closed_family.specs.declared.family.Member.{Member}
use Rattle.closed_family.specs.Family.{history_in, histories_of}

-- the history of a bill on a platform is that in the member that is found
pub histories_of-find : (bill : Checksum) (family : List Member) (p : PlatformCode)
    → histories_of bill family p ≡ option_map_or (history_in bill)
    (find (λ (m : Member). code_eq m.platform p) family) []
histories_of-find bill [] p = refl
histories_of-find bill (m ∷ ms) p = on_test (code_eq m.platform p) (histories_of-find bill ms p)
  where
    on_test : (b : Bool)
        → histories_of bill ms p ≡ option_map_or (history_in bill) (find (λ (x : Member). code_eq x.platform p) ms) []
        → cond b (history_in bill m) (histories_of bill ms p)
        ≡ option_map_or (history_in bill) (cond b (Some m) (find (λ (x : Member). code_eq x.platform p) ms)) []
    on_test true same = refl
    on_test false same = same

-- this one
pub ruleset searches = (histories_of-find)
