-- The diaries of a bill's shards are what its histories come from.
use Rattle.std.proofs.Common.{◌≡◌, ℕ, zero, suc, ◌+◌, ◌*◌, ◌<◌, Bool, true, false, cond, List, [], ◌∷◌, ◌++◌, Option, Some, None, length, take, drop, map, refl, sym, ap, ◌∙◌, arith}
use Rattle.std.proofs.Math.Bool.{not}
use Rattle.std.specs.Prelude.{filter, find, is_some, option_map, slice_get}
use Rattle.std.specs.Option.{option_map_or}
use Rattle.std.proofs.lemmas.Option.{slice_get-map}
use Rattle.std.proofs.lemmas.List.{append_assoc, append-nil, drop-drop, map-append}
use Rattle.ebl_base.specs.PlatformCode.{code_eq}
use Rattle.ebl_base.specs.declared.checksum.Checksum.{Checksum}
use Rattle.ebl_base.specs.declared.platform_code.PlatformCode.{PlatformCode}
use Rattle.bill_diary.specs.declared.frame.Frame.{Frame}
use Rattle.bill_diary.specs.History.{history}
use Rattle.bill_lines.specs.Diaries.{frames_of, histories_in, platforms_in}
use Rattle.bill_lines.specs.Lines.{bill_line}
use Rattle.bill_lines.specs.Standing.{standing_by}
use Rattle.bill_lines.specs.declared.diaries.PlatformDiary.{PlatformDiary}
use Rattle.bill_lines.specs.declared.standing.Standing.{Standing}
use Rattle.closed_family.specs.Closed.{Histories}
use Rattle.closed_family.specs.Family.{histories_of}
use Rattle.platform_requests.specs.Shard.{shard_of_bill}
use Rattle.platform_world.specs.Machine.{MachineRecord, shard_state}
use Rattle.platform_world.specs.Platforms.{ShardDiary, given_diary, grouped, shard_diary, states_of}
use Rattle.platform_world.specs.Run.{bill_line_in}
use Rattle.platform_world.specs.Standing.{standing_in}
use Rattle.platform_world.specs.State.{WorldState, world_of}
use Rattle.platform_world.specs.World.{PlatformState, ShardState, family_of, is_settled, member_of, platforms_of}
use Rattle.platform_world.proofs.Grouped.{slice_get-drop, slice_get-take}

-- ---- histories

abbrev histories_by : Checksum → List ShardDiary → Histories
histories_by bill [] p = []
histories_by bill (d ∷ ds) p = cond (code_eq d.platform p) (history bill d.diary) (histories_by bill ds p)

by_given : (bill : Checksum) (ds : List PlatformDiary) (p : PlatformCode)
    → histories_in bill ds p ≡ histories_by bill (map given_diary ds) p
by_given bill [] p = refl
by_given bill (d ∷ ds) p = on_test (code_eq d.platform p) (by_given bill ds p)
  where
    on_test : (test : Bool) → histories_in bill ds p ≡ histories_by bill (map given_diary ds) p
        → option_map_or (λ (x : PlatformDiary). history bill (frames_of x.diary))
        (cond test (Some d) (find (λ (x : PlatformDiary). code_eq x.platform p) ds)) []
        ≡ cond test (history bill (frames_of d.diary)) (histories_by bill (map given_diary ds) p)
    on_test true further = refl
    on_test false further = further

in_shard : (bill : Checksum) (o : Option ShardState)
    → option_map_or (history bill) (option_map (λ (s : ShardState). s.diary) o) []
    ≡ history bill (option_map_or (λ (s : ShardState). s.diary) o [])
in_shard bill None = refl
in_shard bill (Some s) = refl

by_states : (bill : Checksum) (states : List PlatformState) (p : PlatformCode)
    → histories_of bill (map member_of states) p ≡ histories_by bill (map (shard_diary (shard_of_bill bill)) states) p
by_states bill [] p = refl
by_states bill (state ∷ states) p = on_test (code_eq state.platform p) (by_states bill states p)
  where
    i : ℕ
    i = shard_of_bill bill

    on_test : (test : Bool)
        → histories_of bill (map member_of states) p ≡ histories_by bill (map (shard_diary i) states) p
        → cond test (option_map_or (history bill) (slice_get (map (λ (s : ShardState). s.diary) state.shards) i) [])
        (histories_of bill (map member_of states) p)
        ≡ cond test (history bill (shard_diary i state).diary) (histories_by bill (map (shard_diary i) states) p)
    on_test true further =
        ap (λ (o : Option (List Frame)). option_map_or (history bill) o [])
        (slice_get-map (λ (s : ShardState). s.diary) state.shards i)
        ∙ in_shard bill (slice_get state.shards i)
    on_test false further = further

-- the histories are those of the diaries that were given
pub same_histories : (bill : Checksum) (ds : List PlatformDiary) (states : List PlatformState)
    → map given_diary ds ≡ map (shard_diary (shard_of_bill bill)) states
    → histories_in bill ds ≡ histories_of bill (map member_of states)
same_histories bill ds states same = λ k p.
    (by_given bill ds p ∙ ap (λ (xs : List ShardDiary). histories_by bill xs p) same ∙ sym (by_states bill states p)) k

-- ---- platforms

given_platforms : (ds : List PlatformDiary) → platforms_in ds ≡ map (λ (d : ShardDiary). d.platform) (map given_diary ds)
given_platforms [] = refl
given_platforms (d ∷ ds) = ap (λ (ps : List PlatformCode). d.platform ∷ ps) (given_platforms ds)

state_platforms : (i : ℕ) (states : List PlatformState)
    → map (λ (s : PlatformState). s.platform) states
    ≡ map (λ (d : ShardDiary). d.platform) (map (shard_diary i) states)
state_platforms i [] = refl
state_platforms i (state ∷ states) = ap (λ (ps : List PlatformCode). state.platform ∷ ps) (state_platforms i states)

pub platforms_grouped : (ps : List PlatformCode) (shards : List ShardState)
    → map (λ (s : PlatformState). s.platform) (grouped ps shards) ≡ ps
platforms_grouped [] shards = refl
platforms_grouped (p ∷ ps) shards = ap (λ (qs : List PlatformCode). p ∷ qs) (platforms_grouped ps (drop 16 shards))

pub same_platforms : (i : ℕ) (ds : List PlatformDiary) (ps : List PlatformCode) (shards : List ShardState)
    → map given_diary ds ≡ map (shard_diary i) (grouped ps shards) → platforms_in ds ≡ ps
same_platforms i ds ps shards same =
    given_platforms ds ∙ ap (map (λ (d : ShardDiary). d.platform)) same
    ∙ sym (state_platforms i (grouped ps shards)) ∙ platforms_grouped ps shards

-- ---- one diary more

-- a shard stands at a position among all of them
pub some_shard : {M : Type 0} (shards : List M) (position : ℕ) → position < length shards
    → (m : M) × (slice_get shards position ≡ Some m)
some_shard [] position within = absurd (omega arith)
some_shard (m ∷ ms) zero within = (m, refl)
some_shard (m ∷ ms) (suc position) within = some_shard ms position (omega arith)

-- what is still to be given
abbrev pub left_from : ℕ → ℕ → List PlatformCode → List ShardState → List ShardDiary
left_from i position ps shards = map (shard_diary i) (grouped (drop position ps) (drop (16 * position) shards))

-- the shard of this number on the platform at a position is at sixteen times the position
one_left : (i position : ℕ) (p : PlatformCode) (ps : List PlatformCode) (shards : List ShardState) (s : ShardState)
    → i < 16 → drop position ps ≡ p ∷ drop (position + 1) ps → slice_get shards (16 * position + i) ≡ Some s
    → left_from i position ps shards ≡ record { platform = p; diary = s.diary } ∷ left_from i (position + 1) ps shards
one_left i position p ps shards s small here there =
    let rest = drop (16 * position) shards in
    let next : 16 * position + 16 ≡ 16 * (position + 1) = omega arith in
    ap (λ (qs : List PlatformCode). map (shard_diary i) (grouped qs rest)) here
    ∙ ap (λ (o : Option ShardState).
    record { platform = p; diary = option_map_or (λ (x : ShardState). x.diary) o [] }
    ∷ map (shard_diary i) (grouped (drop (position + 1) ps) (drop 16 rest)))
    (slice_get-take 16 rest i small ∙ slice_get-drop (16 * position) shards i ∙ there)
    ∙ ap (λ (xs : List ShardState).
    record { platform = p; diary = s.diary } ∷ map (shard_diary i) (grouped (drop (position + 1) ps) xs))
    (drop-drop 16 (16 * position) shards ∙ ap (λ (k : ℕ). drop k shards) next)

-- those that are given and those that are left are all
pub one_more_given : (i position : ℕ) (ps : List PlatformCode) (shards : List ShardState) (ds : List PlatformDiary)
    (d : PlatformDiary) (s : ShardState) → i < 16 → drop position ps ≡ d.platform ∷ drop (position + 1) ps
    → slice_get shards (16 * position + i) ≡ Some s → frames_of d.diary ≡ s.diary
    → map given_diary ds ++ left_from i position ps shards ≡ map (shard_diary i) (grouped ps shards)
    → map given_diary (ds ++ d ∷ []) ++ left_from i (position + 1) ps shards ≡ map (shard_diary i) (grouped ps shards)
one_more_given i position ps shards ds d s small here there same so_far =
    ap (λ (xs : List ShardDiary). xs ++ left_from i (position + 1) ps shards) (map-append given_diary ds (d ∷ []))
    ∙ append_assoc (map given_diary ds) (given_diary d ∷ []) (left_from i (position + 1) ps shards)
    ∙ ap (λ (x : List Frame). map given_diary ds
    ++ record { platform = d.platform; diary = x } ∷ left_from i (position + 1) ps shards) same
    ∙ ap (λ (xs : List ShardDiary). map given_diary ds ++ xs) (sym (one_left i position d.platform ps shards s small here there))
    ∙ so_far

-- ---- settled platforms

abbrev pub settled_of : Checksum → List PlatformState → List PlatformCode
settled_of bill states = map (λ (s : PlatformState). s.platform) (filter (is_settled bill) states)

-- those that are still to be looked at
abbrev pub settled_from : Checksum → ℕ → List PlatformCode → List ShardState → List PlatformCode
settled_from bill position ps shards = settled_of bill (grouped (drop position ps) (drop (16 * position) shards))

settled_first : (bill : Checksum) (state : PlatformState) (states : List PlatformState)
    → settled_of bill (state ∷ states)
    ≡ cond (is_settled bill state) (state.platform ∷ settled_of bill states) (settled_of bill states)
settled_first bill state states = on_test (is_settled bill state)
  where
    on_test : (b : Bool) → map (λ (s : PlatformState). s.platform) (cond b (state ∷ filter (is_settled bill) states) (filter (is_settled bill) states))
        ≡ cond b (state.platform ∷ settled_of bill states) (settled_of bill states)
    on_test true = refl
    on_test false = refl

-- one platform at a time, by whether its shard of the bill is loose
pub one_more_settled : (bill : Checksum) (position : ℕ) (p : PlatformCode) (ps : List PlatformCode) (shards : List ShardState)
    (s : ShardState) → shard_of_bill bill < 16 → drop position ps ≡ p ∷ drop (position + 1) ps
    → slice_get shards (16 * position + shard_of_bill bill) ≡ Some s
    → settled_from bill position ps shards
    ≡ cond (not (is_some s.loose)) (p ∷ settled_from bill (position + 1) ps shards) (settled_from bill (position + 1) ps shards)
one_more_settled bill position p ps shards s small here there =
    let rest = drop (16 * position) shards in
    let next : 16 * position + 16 ≡ 16 * (position + 1) = omega arith in
    let more = drop-drop 16 (16 * position) shards ∙ ap (λ (k : ℕ). drop k shards) next in
    ap (λ (qs : List PlatformCode). settled_of bill (grouped qs rest)) here
    ∙ settled_first bill (record { platform = p; shards = take 16 rest }) (grouped (drop (position + 1) ps) (drop 16 rest))
    ∙ ap (λ (o : Option ShardState).
    cond (option_map_or (λ (x : ShardState). not (is_some x.loose)) o true)
    (p ∷ settled_of bill (grouped (drop (position + 1) ps) (drop 16 rest)))
    (settled_of bill (grouped (drop (position + 1) ps) (drop 16 rest))))
    (slice_get-take 16 rest (shard_of_bill bill) small ∙ slice_get-drop (16 * position) shards (shard_of_bill bill) ∙ there)
    ∙ ap (λ (xs : List ShardState).
    cond (not (is_some s.loose)) (p ∷ settled_of bill (grouped (drop (position + 1) ps) xs))
    (settled_of bill (grouped (drop (position + 1) ps) xs))) more

pub settled_step : (loose : Bool) (old rest : List PlatformCode) (p : PlatformCode)
    → (old ++ cond loose [] (p ∷ [])) ++ rest ≡ old ++ cond (not loose) (p ∷ rest) rest
settled_step true old rest p = ap (λ (xs : List PlatformCode). xs ++ rest) (append-nil old)
settled_step false old rest p = append_assoc old (p ∷ []) rest

-- ---- the line of a bill

-- the line by the diaries and the settled platforms that are given is that of the world
pub line_of_world : {M R : Type 0} (seen : M → MachineRecord) (w : WorldState M R) (n : ℕ) (bill : Checksum)
    (ds : List PlatformDiary) (settled : List PlatformCode) (line : List ℕ)
    → platforms_in ds ≡ w.platforms.roster.platforms
    → histories_in bill ds ≡ histories_of bill (map member_of (states_of seen w.platforms))
    → settled ≡ settled_of bill (states_of seen w.platforms)
    → line ≡ bill_line n (histories_in bill ds) (platforms_in ds) settled
    → line ≡ bill_line_in (world_of seen w) n bill
line_of_world {M = M} seen w n bill ds settled line platforms histories settled_is is =
    let ps = w.platforms.roster.platforms in
    let shards = map (λ (m : M). shard_state (seen m)) w.platforms.shards in
    is
    ∙ ap (λ (at : Histories). bill_line n at (platforms_in ds) settled) histories
    ∙ ap (λ (qs : List PlatformCode). bill_line n (histories_of bill (family_of (world_of seen w))) qs settled)
    (platforms ∙ sym (platforms_grouped ps shards))
    ∙ ap (λ (qs : List PlatformCode).
    bill_line n (histories_of bill (family_of (world_of seen w))) (platforms_of (world_of seen w)) qs) settled_is

-- so is how the bill stands
pub standing_of_world : {M R : Type 0} (seen : M → MachineRecord) (w : WorldState M R) (bill : Checksum)
    (ds : List PlatformDiary) (standing : Standing)
    → platforms_in ds ≡ w.platforms.roster.platforms
    → histories_in bill ds ≡ histories_of bill (map member_of (states_of seen w.platforms))
    → standing ≡ standing_by (histories_in bill ds) (platforms_in ds)
    → standing ≡ standing_in (world_of seen w) bill
standing_of_world {M = M} seen w bill ds standing platforms histories is =
    let ps = w.platforms.roster.platforms in
    let shards = map (λ (m : M). shard_state (seen m)) w.platforms.shards in
    is
    ∙ ap (λ (at : Histories). standing_by at (platforms_in ds)) histories
    ∙ ap (λ (qs : List PlatformCode). standing_by (histories_of bill (family_of (world_of seen w))) qs)
    (platforms ∙ sym (platforms_grouped ps shards))
