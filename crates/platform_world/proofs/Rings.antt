-- Rings of keys, sixteen for each platform: whose shard each goes to, and that further ones stay unused.
use Rattle.std.proofs.Common.{◌≡◌, ℕ, ◌+◌, ◌-◌, ◌*◌, ◌/◌, ◌<◌, inl, inr, zero, suc, List, [], ◌∷◌, length, map, take, drop, get_or, refl, ap, sym, ◌∙◌, arith}
use Rattle.std.specs.Prelude.{Some, replicate, slice_get}
use Rattle.std.proofs.lemmas.List.{get_or-append_right, get_or-replicate, get_or_append_left, length-replicate, drop-take, take-map, take-take, take_all}
use Rattle.std.proofs.lemmas.Bool.{cases_lt}
use Rattle.ebl_base.specs.declared.platform_code.PlatformCode.{PlatformCode}
use Rattle.signed_envelope.specs.KeyRing.{Keys}
use Rattle.party_roster.specs.RosterRecord.{RosterRecord}
use Rattle.platform_world.specs.Machine.{MachineRecord}
use Rattle.platform_world.specs.Platforms.{AreShardsOf, codes_of}
use Rattle.platform_world.specs.World.{PlatformState, WorldRecord, opened_platforms, opened_shard, opening}
use Rattle.platform_world.proofs.Shards.{codes-length}

-- ---- the platform of a shard

-- by the shard's position among all
code-at : (ps : List PlatformCode) (n : ℕ) (d : PlatformCode) → n < 16 * length ps
    → get_or (codes_of ps) n d ≡ get_or ps (n / 16) d
code-at [] n d h = absurd (omega (arith, h))
code-at (p ∷ ps) n d h = elim (cases_lt n 16) [
  | inl first ↦
      let position : n / 16 ≡ 0 = omega (arith, first) in
      let long : n < length (replicate 16 p) = omega (arith, first, length-replicate 16 p) in
      get_or_append_left (replicate 16 p) (codes_of ps) d n long ∙ get_or-replicate 16 n p d first
      ∙ ap (λ (k : ℕ). get_or (p ∷ ps) k d) (sym position)
  | inr later ↦
      let position : n / 16 ≡ suc ((n - 16) / 16) = omega (arith, later) in
      get_or-append_right (replicate 16 p) (codes_of ps) 16 n d (length-replicate 16 p) later
      ∙ code-at ps (n - 16) d (omega (arith, h, later))
      ∙ ap (λ (k : ℕ). get_or (p ∷ ps) k d) (sym position)
]

at-position : {X : Type 0} (xs : List X) (n : ℕ) (d : X) → n < length xs → slice_get xs n ≡ Some (get_or xs n d)
at-position [] n d h = absurd (omega (arith, h))
at-position (x ∷ xs) zero d h = refl
at-position (x ∷ xs) (suc n) d h = at-position xs n d (omega (arith, h))

-- the platform of the shard at this position
pub code-there : (ps : List PlatformCode) (n : ℕ) (d : PlatformCode) → n < 16 * length ps
    → slice_get (codes_of ps) n ≡ Some (get_or ps (n / 16) d)
code-there ps n d h =
    at-position (codes_of ps) n d (omega (arith, h, codes-length ps)) ∙ ap (λ (p : PlatformCode). Some p) (code-at ps n d h)

-- all of them
codes-all : (ps : List PlatformCode) (n : ℕ) → n ≡ 16 * length ps → take n (codes_of ps) ≡ codes_of ps
codes-all ps n h = take_all n (codes_of ps) (omega (arith, h, codes-length ps))

map-twice : {A B C : Type 0} (h : B → C) (f : A → B) (xs : List A) → map h (map f xs) ≡ map (λ (x : A). h (f x)) xs
map-twice h f [] = refl
map-twice h f (x ∷ xs) = ap (λ (ys : List _). h (f x) ∷ ys) (map-twice h f xs)

pub are-of : {S : Type 0} (seen : S → MachineRecord) (shards : List S) (roster : RosterRecord) (n : ℕ)
    → map (λ (s : S). (seen s).me) shards ≡ take n (codes_of roster.platforms)
    → map (λ (s : S). (seen s).roster) shards ≡ map (λ (p : PlatformCode). roster) (take n (codes_of roster.platforms))
    → n ≡ 16 * length roster.platforms → AreShardsOf roster (map seen shards)
are-of seen shards roster n me by all = record {
  of = map-twice (λ (m : MachineRecord). m.me) seen shards ∙ me ∙ codes-all roster.platforms n all;
  by = map-twice (λ (m : MachineRecord). m.roster) seen shards ∙ by
      ∙ ap (map (λ (p : PlatformCode). roster)) (codes-all roster.platforms n all);
}

-- ---- what they are

-- further rings stay unused
opened-needed : (ps : List PlatformCode) (rings : List Keys)
    → opened_platforms ps (take (16 * length ps) rings) ≡ opened_platforms ps rings
opened-needed [] rings = refl
opened-needed (p ∷ ps) rings =
    let all : 16 * length (p ∷ ps) ≡ 16 + 16 * length ps = omega arith in
    let front : take 16 (take (16 * length (p ∷ ps)) rings) ≡ take 16 rings =
    take-take 16 (16 * length (p ∷ ps)) rings (omega (arith, all)) in
    let rest : drop 16 (take (16 * length (p ∷ ps)) rings) ≡ take (16 * length ps) (drop 16 rings) =
    ap (λ (n : ℕ). drop 16 (take n rings)) all ∙ drop-take 16 (16 * length ps) rings in
    ap (λ (own : List Keys). record { platform = p; shards = map opened_shard own } ∷ opened_platforms ps (drop 16 (take (16 * length (p ∷ ps)) rings))) front
    ∙ ap (λ (others : List Keys). record { platform = p; shards = map opened_shard (take 16 rings) } ∷ opened_platforms ps others) rest
    ∙ ap (λ (states : List PlatformState). record { platform = p; shards = map opened_shard (take 16 rings) } ∷ states)
    (opened-needed ps (drop 16 rings))

-- the world, whatever further rings came
opening-needed : (roster : RosterRecord) (rings : List Keys)
    → opening roster (take (16 * length roster.platforms) rings) ≡ opening roster rings
opening-needed roster rings =
    ap (λ (states : List PlatformState). record { roster = roster; platforms = states; sent = []; signed = [] })
    (opened-needed roster.platforms rings)

-- the world of shards that took the first of these rings
module _ {M G : Type 0} (keys_of : M → Keys) (keys : G → Keys) where
  pub opened-by : (w : WorldRecord) (roster r : RosterRecord) (shards made : List M) (given rings : List G) (n : ℕ)
      → w ≡ opening r (map keys_of made) → r ≡ roster → made ≡ shards → map keys_of shards ≡ map keys given
      → given ≡ take n rings → n ≡ 16 * length roster.platforms → w ≡ opening roster (map keys rings)
  opened-by w roster r shards made given rings n opens by are of first count =
      opens ∙ ap (λ (x : RosterRecord). opening x (map keys_of made)) by
      ∙ ap (λ (ms : List M). opening roster (map keys_of ms)) are ∙ ap (opening roster) of
      ∙ ap (λ (gs : List G). opening roster (map keys gs)) first
      ∙ ap (λ (k : ℕ). opening roster (map keys (take k rings))) count
      ∙ ap (opening roster) (sym (take-map keys (16 * length roster.platforms) rings))
      ∙ opening-needed roster (map keys rings)
