use Rattle.std.proofs.Common.{◌≡◌, ◌++◌, ◌∷◌, [], List, length, refl, ap, subst, ◌∙◌, arith}
use Rattle.std.specs.Prelude.{IfOk}
use Rattle.platform_world.specs.declared.fate.Fate.{Fate}
use Rattle.world_events.specs.Happening.{starts_again}
use Rattle.platform_world.specs.Platforms.{states_of}
use Rattle.platform_world.specs.State.{HasHappened, IsCut, WorldState}
use Rattle.platform_world.proofs.Asked.{cut_same, on_err_so, on_started, started_cut, started_so}
use Rattle.platform_world.proofs.Reached.{fates_more, reached_by, within_one_more, within_started}
use Rattle.platform_world.proofs.world.World.start_again.Goals as goal

pub returns-in_err-reserve-clause-short : goal.returns-in_err-reserve-clause-short
returns-in_err-reserve-clause-short g c =
    let at : List Fate → WorldState _ _ = λ fs. record {
      platforms = c.self.inside.platforms;
      sent = c.self.inside.sent.items;
      signed = c.self.inside.signed;
      fates = fs;
    } in
    on_err_so c.from_residual.result
    (cut_same g.M.Machine.seen g.M.Machine.faults c.args.self.now (at c.reserve.new.self.items) (starts_again c.args.at)
    (ap at c.reserve.ensures.items ∙ c.self.view_is))

pub returns-in_err-room-clause-short : goal.returns-in_err-room-clause-short
returns-in_err-room-clause-short g c =
    let at : List Fate → WorldState _ _ = λ fs. record {
      platforms = c.self.inside.platforms;
      sent = c.self.inside.sent.items;
      signed = c.self.inside.signed;
      fates = fs;
    } in
    on_err_so c.from_residual-in_err-room.result
    (cut_same g.M.Machine.seen g.M.Machine.faults c.args.self.now (at c.reserve.new.self.items) (starts_again c.args.at)
    (ap at c.reserve.ensures.items ∙ c.self.view_is))

pub invariant_of-self-2 : goal.invariant_of-self-2
invariant_of-self-2 g c =
    let s : WorldState _ _ = (record {
      platforms = c.self.inside.platforms;
      sent = c.self.inside.sent.items;
      signed = c.self.inside.signed;
      fates = c.self.inside.fates.items;
    }) in
    let fates = c.push_reserved.new.self.items in
    let fate = c.start_again-fate.result in
    let more : fates ≡ s.fates ++ fate ∷ [] =
    c.push_reserved.ensures.items ∙ ap (λ (fs : List Fate). fs ++ fate ∷ []) c.reserve.ensures.items in
    let count = fates_more s.fates fates fate more in
    reached_by g.M.Machine.seen s c.start_again-fate.new.self fates c.self.invariant c.start_again-fate.ensures.roster
    (within_one_more (states_of g.M.Machine.seen c.start_again-fate.new.self) (length s.fates) (length fates)
    (within_started c.args.at 0 16 (states_of g.M.Machine.seen s.platforms) fate.end fate.kept
    (states_of g.M.Machine.seen c.start_again-fate.new.self) (length s.fates) c.self.invariant.written
    c.start_again-fate.ensures.read) (omega (arith, count)))

pub returns-clause-ok : goal.returns-clause-ok
returns-clause-ok g c =
    let s : WorldState _ _ = (record {
      platforms = c.self.inside.platforms;
      sent = c.self.inside.sent.items;
      signed = c.self.inside.signed;
      fates = c.self.inside.fates.items;
    }) in
    let fate = c.start_again-fate.result in
    let after : WorldState _ _ = (record {
      platforms = c.start_again-fate.new.self;
      sent = c.self.inside.sent.items;
      signed = c.self.inside.signed;
      fates = c.push_reserved.new.self.items;
    }) in
    let more : after.fates ≡ s.fates ++ fate ∷ [] =
    c.push_reserved.ensures.items ∙ ap (λ (fs : List Fate). fs ++ fate ∷ []) c.reserve.ensures.items in
    subst (λ (w : WorldState _ _). IfOk c.start_answer.result (λ answer.
    HasHappened g.M.Machine.seen g.M.Machine.faults w (starts_again c.args.at) answer after)) c.self.view_is
    (on_started fate.end c.start_answer.result
    (λ answer. HasHappened g.M.Machine.seen g.M.Machine.faults s (starts_again c.args.at) answer after)
    c.start_answer.ensures.answer c.start_answer.ensures.not_short
    (started_so g.M.Machine.seen g.M.Machine.faults s after c.args.at fate c.start_again-fate.ensures.read
    c.start_again-fate.ensures.disks c.start_again-fate.ensures.rings c.start_again-fate.ensures.roster refl refl more))

pub returns-clause-short : goal.returns-clause-short
returns-clause-short g c =
    let s : WorldState _ _ = (record {
      platforms = c.self.inside.platforms;
      sent = c.self.inside.sent.items;
      signed = c.self.inside.signed;
      fates = c.self.inside.fates.items;
    }) in
    let fate = c.start_again-fate.result in
    let after : WorldState _ _ = (record {
      platforms = c.start_again-fate.new.self;
      sent = c.self.inside.sent.items;
      signed = c.self.inside.signed;
      fates = c.push_reserved.new.self.items;
    }) in
    let more : after.fates ≡ s.fates ++ fate ∷ [] =
    c.push_reserved.ensures.items ∙ ap (λ (fs : List Fate). fs ++ fate ∷ []) c.reserve.ensures.items in
    on_err_so c.start_answer.result
    (subst (λ (w : WorldState _ _). IsCut g.M.Machine.seen g.M.Machine.faults w (starts_again c.args.at) after)
    c.self.view_is
    (started_cut g.M.Machine.seen g.M.Machine.faults s after c.args.at fate c.start_again-fate.ensures.read
    c.start_again-fate.ensures.disks c.start_again-fate.ensures.rings c.start_again-fate.ensures.roster refl refl more))
