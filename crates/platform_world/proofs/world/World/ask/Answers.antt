use Rattle.std.proofs.Common.{◌≡◌, ◌+◌, ◌++◌, ◌∷◌, [], ℕ, List, length, refl, ap, subst, ◌∙◌, arith}
use Rattle.std.specs.Prelude.{IfOk, OnErr}
use Rattle.platform_requests.specs.Request.{request_view}
use Rattle.platform_world.specs.declared.fate.Fate.{Fate}
use Rattle.world_events.specs.Happening.{asking_view, asks}
use Rattle.platform_world.specs.Machine.{disk_times, ring_times}
use Rattle.platform_world.specs.Platforms.{EachRose, TakesAt, index_of, states_of, times_if}
use Rattle.platform_world.specs.State.{HasHappened, IsCut, WorldState}
use Rattle.platform_world.proofs.Asked.{Asked, asked_so, cut_same, on_err_so}
use Rattle.platform_world.proofs.Reached.{fates_more, reached_by, within_one_more, within_taken}
use Rattle.platform_world.proofs.world.World.ask.Goals as goal

pub returns-in_err-reserve-clause-short : goal.returns-in_err-reserve-clause-short
returns-in_err-reserve-clause-short g c =
    let at : List Fate → WorldState _ _ = λ fs. record {
      platforms = c.self.inside.platforms;
      sent = c.self.inside.sent.items;
      signed = c.self.inside.signed;
      fates = fs;
    } in
    on_err_so c.from_residual.result
    (cut_same g.M.Machine.seen g.M.Machine.faults c.args.self.now (at c.reserve.new.self.items) (asks (asking_view c.args.asking))
    (ap at c.reserve.ensures.items ∙ c.self.view_is))

pub returns-in_err-room-clause-short : goal.returns-in_err-room-clause-short
returns-in_err-room-clause-short g c =
    let at : List Fate → WorldState _ _ = λ fs. record {
      platforms = c.self.inside.platforms;
      sent = c.self.inside.sent.items;
      signed = c.self.inside.signed;
      fates = fs;
    } in
    on_err_so c.from_residual-in_err-room.result
    (cut_same g.M.Machine.seen g.M.Machine.faults c.args.self.now (at c.reserve.new.self.items) (asks (asking_view c.args.asking))
    (ap at c.reserve.ensures.items ∙ c.self.view_is))

pub returns-in_err-path-clause-short : goal.returns-in_err-path-clause-short
returns-in_err-path-clause-short g c =
    let at : List Fate → WorldState _ _ = λ fs. record {
      platforms = c.self.inside.platforms;
      sent = c.self.inside.sent.items;
      signed = c.self.inside.signed;
      fates = fs;
    } in
    on_err_so c.from_residual-in_err-path.result
    (cut_same g.M.Machine.seen g.M.Machine.faults c.args.self.now (at c.reserve.new.self.items) (asks (asking_view c.args.asking))
    (ap at c.reserve.ensures.items ∙ c.self.view_is))

pub returns-in_err-shard-clause-short : goal.returns-in_err-shard-clause-short
returns-in_err-shard-clause-short g c =
    let at : List Fate → WorldState _ _ = λ fs. record {
      platforms = c.self.inside.platforms;
      sent = c.self.inside.sent.items;
      signed = c.self.inside.signed;
      fates = fs;
    } in
    on_err_so c.from_residual-in_err-shard.result
    (cut_same g.M.Machine.seen g.M.Machine.faults c.args.self.now (at c.reserve.new.self.items) (asks (asking_view c.args.asking))
    (ap at c.reserve.ensures.items ∙ c.self.view_is))

pub invariant_of-self-2 : goal.invariant_of-self-2
invariant_of-self-2 g c =
    let s : WorldState _ _ = (record {
      platforms = c.self.inside.platforms;
      sent = c.self.inside.sent.items;
      signed = c.self.inside.signed;
      fates = c.self.inside.fates.items;
    }) in
    let fates = c.push_reserved.new.self.items in
    let more : fates ≡ s.fates ++ c.take-taken.result.fate ∷ [] =
    c.push_reserved.ensures.items
    ∙ ap (λ (fs : List Fate). fs ++ c.take-taken.result.fate ∷ []) c.reserve.ensures.items in
    let count = fates_more s.fates fates c.take-taken.result.fate more in
    reached_by g.M.Machine.seen s c.take-taken.new.self fates c.self.invariant c.take-taken.ensures.roster
    (within_one_more (states_of g.M.Machine.seen c.take-taken.new.self) (length s.fates + 1) (length fates)
    (within_taken s.platforms.roster (states_of g.M.Machine.seen s.platforms) c.args.asking.at c.in_ok-shard.shard
    c.moment_or_first-now.result (request_view c.args.asking.request) c.take-taken.result.fate
    c.take-taken.result.outcome (states_of g.M.Machine.seen c.take-taken.new.self) (length s.fates)
    c.self.invariant.written c.take-taken.ensures.taken) (omega (arith, count)))

pub returns-clause-ok : goal.returns-clause-ok
returns-clause-ok g c =
    let s : WorldState _ _ = (record {
      platforms = c.self.inside.platforms;
      sent = c.self.inside.sent.items;
      signed = c.self.inside.signed;
      fates = c.self.inside.fates.items;
    }) in
    let a = asking_view c.args.asking in
    let fate = c.take-taken.result.fate in
    let out = c.take-taken.result.outcome in
    let now = c.moment_or_first-now.result in
    let between : WorldState _ _ = (record {
      platforms = c.take-taken.new.self;
      sent = c.self.inside.sent.items;
      signed = c.self.inside.signed;
      fates = c.push_reserved.new.self.items;
    }) in
    let ps = s.platforms.roster.platforms in
    let asked : Asked g.M.Machine.seen g.M.Machine.faults s c.follow.new.self a c.follow.result =
    asked_so g.M.Machine.seen g.M.Machine.faults s between c.follow.new.self a now fate out
    c.moment_or_first-now.ensures
    (subst (λ (i : ℕ). TakesAt s.platforms.roster (states_of g.M.Machine.seen s.platforms) a.at i now a.request fate out
    (states_of g.M.Machine.seen c.take-taken.new.self)) c.in_ok-shard.ensures.shard c.take-taken.ensures.taken)
    (subst (λ (i : ℕ). EachRose g.M.Machine.faults.disk (times_if (disk_times fate.end) (index_of a.at i ps))
    s.platforms.shards c.take-taken.new.self.shards) c.in_ok-shard.ensures.shard c.take-taken.ensures.disks)
    (subst (λ (i : ℕ). EachRose g.M.Machine.faults.ring (times_if (ring_times fate.end) (index_of a.at i ps))
    s.platforms.shards c.take-taken.new.self.shards) c.in_ok-shard.ensures.shard c.take-taken.ensures.rings)
    c.follow.ensures.platforms c.in_ok-path.path c.is_sign-signing.result c.follow.result c.in_ok-path.ensures
    c.is_sign-signing.ensures refl refl c.take-taken.ensures.writable c.take-taken.ensures.roster
    (c.follow.ensures.fates ∙ c.push_reserved.ensures.items
    ∙ ap (λ (fs : List Fate). fs ++ fate ∷ []) c.reserve.ensures.items)
    c.follow.ensures.answer c.follow.ensures.ok c.follow.ensures.sent c.follow.ensures.signed in
    subst (λ (w : WorldState _ _). IfOk c.follow.result (λ answer.
    HasHappened g.M.Machine.seen g.M.Machine.faults w (asks a) answer c.follow.new.self)) c.self.view_is asked.ok

pub returns-clause-short : goal.returns-clause-short
returns-clause-short g c =
    let s : WorldState _ _ = (record {
      platforms = c.self.inside.platforms;
      sent = c.self.inside.sent.items;
      signed = c.self.inside.signed;
      fates = c.self.inside.fates.items;
    }) in
    let a = asking_view c.args.asking in
    let fate = c.take-taken.result.fate in
    let out = c.take-taken.result.outcome in
    let now = c.moment_or_first-now.result in
    let between : WorldState _ _ = (record {
      platforms = c.take-taken.new.self;
      sent = c.self.inside.sent.items;
      signed = c.self.inside.signed;
      fates = c.push_reserved.new.self.items;
    }) in
    let ps = s.platforms.roster.platforms in
    let asked : Asked g.M.Machine.seen g.M.Machine.faults s c.follow.new.self a c.follow.result =
    asked_so g.M.Machine.seen g.M.Machine.faults s between c.follow.new.self a now fate out
    c.moment_or_first-now.ensures
    (subst (λ (i : ℕ). TakesAt s.platforms.roster (states_of g.M.Machine.seen s.platforms) a.at i now a.request fate out
    (states_of g.M.Machine.seen c.take-taken.new.self)) c.in_ok-shard.ensures.shard c.take-taken.ensures.taken)
    (subst (λ (i : ℕ). EachRose g.M.Machine.faults.disk (times_if (disk_times fate.end) (index_of a.at i ps))
    s.platforms.shards c.take-taken.new.self.shards) c.in_ok-shard.ensures.shard c.take-taken.ensures.disks)
    (subst (λ (i : ℕ). EachRose g.M.Machine.faults.ring (times_if (ring_times fate.end) (index_of a.at i ps))
    s.platforms.shards c.take-taken.new.self.shards) c.in_ok-shard.ensures.shard c.take-taken.ensures.rings)
    c.follow.ensures.platforms c.in_ok-path.path c.is_sign-signing.result c.follow.result c.in_ok-path.ensures
    c.is_sign-signing.ensures refl refl c.take-taken.ensures.writable c.take-taken.ensures.roster
    (c.follow.ensures.fates ∙ c.push_reserved.ensures.items
    ∙ ap (λ (fs : List Fate). fs ++ fate ∷ []) c.reserve.ensures.items)
    c.follow.ensures.answer c.follow.ensures.ok c.follow.ensures.sent c.follow.ensures.signed in
    subst (λ (w : WorldState _ _). OnErr c.follow.result
    (IsCut g.M.Machine.seen g.M.Machine.faults w (asks a) c.follow.new.self)) c.self.view_is asked.short
