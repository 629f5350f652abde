use Rattle.std.proofs.Common.{◌≡◌, ◌<◌, ◌++◌, ◌∷◌, [], true, List, length, sym, ap, subst, ◌∙◌}
use Rattle.std.specs.Prelude.{IfOk}
use Rattle.ebl_base.specs.declared.checksum.Checksum.{Checksum}
use Rattle.world_script.specs.Event.{event_view}
use Rattle.answer_lines.specs.declared.parcel.Parcel.{Parcel}
use Rattle.platform_world.specs.declared.fate.Fate.{Fate}
use Rattle.world_events.specs.Happening.{Happening, asking_view, asks, comes_to, happening_view}
use Rattle.world_events.specs.Script.{names_listed}
use Rattle.platform_world.specs.State.{HasHappened, WorldState, world_of}
use Rattle.platform_world.proofs.Asked.{answered_so, cut_same, on_err_so}
use Rattle.platform_world.proofs.Reached.{may_take}
use Rattle.platform_world.proofs.world.World.take.Goals as goal

pub returns-in_err-reserve-clause-short : goal.returns-in_err-reserve-clause-short
returns-in_err-reserve-clause-short g c =
    let at : List Fate → WorldState _ _ = λ fs. record {
      platforms = c.self.inside.platforms;
      sent = c.self.inside.sent.items;
      signed = c.self.inside.signed;
      fates = fs;
    } in
    on_err_so c.from_residual.result
    (cut_same g.M.Machine.seen g.M.Machine.faults c.args.self.now (at c.reserve.new.self.items) (comes_to c.args.self.now.signed c.args.self.now.sent (event_view c.args.event))
    (ap at c.reserve.ensures.items ∙ c.self.view_is))

pub returns-in_err-answer-clause-short : goal.returns-in_err-answer-clause-short
returns-in_err-answer-clause-short g c =
    let at : List Fate → WorldState _ _ = λ fs. record {
      platforms = c.self.inside.platforms;
      sent = c.self.inside.sent.items;
      signed = c.self.inside.signed;
      fates = fs;
    } in
    on_err_so c.from_residual-in_err-answer.result
    (cut_same g.M.Machine.seen g.M.Machine.faults c.args.self.now (at c.reserve.new.self.items) (comes_to c.args.self.now.signed c.args.self.now.sent (event_view c.args.event))
    (ap at c.reserve.ensures.items ∙ c.self.view_is))

pub ask-requires-clause-may : goal.ask-requires-clause-may
ask-requires-clause-may g c =
    let s : WorldState _ _ = (record {
      platforms = c.self.inside.platforms;
      sent = c.self.inside.sent.items;
      signed = c.self.inside.signed;
      fates = c.self.inside.fates.items;
    }) in
    let ev = event_view c.args.event in
    let chain : comes_to c.self.inside.signed c.self.inside.sent.items ev ≡ happening_view c.in_ok-answer.field-0 =
    ap (λ (xs : List Checksum). comes_to xs c.self.inside.sent.items ev) (sym c.as_slice.ensures)
    ∙ ap (λ (xs : List Parcel). comes_to c.as_slice.result.now xs ev) (sym c.as_slice-2.ensures.value)
    ∙ sym c.in_ok-answer.ensures in
    may_take (world_of g.M.Machine.seen s) (length s.fates) c.self.invariant
    (subst (λ (w : WorldState _ _). length w.fates < 4294967295) (sym c.self.view_is) c.requires.few) ev c.requires.form
    c.requires.nests
    (subst (λ (w : WorldState _ _). names_listed w.platforms.roster ev ≡ true) (sym c.self.view_is) c.requires.listed)
    (asking_view c.in-Asked.asking) (chain ∙ ap happening_view c.in-Asked.is)

pub returns-in-Answered-clause-ok : goal.returns-in-Answered-clause-ok
returns-in-Answered-clause-ok g c =
    let s : WorldState _ _ = (record {
      platforms = c.self.inside.platforms;
      sent = c.self.inside.sent.items;
      signed = c.self.inside.signed;
      fates = c.self.inside.fates.items;
    }) in
    let ev = event_view c.args.event in
    let chain : comes_to c.self.inside.signed c.self.inside.sent.items ev ≡ happening_view c.in_ok-answer.field-0 =
    ap (λ (xs : List Checksum). comes_to xs c.self.inside.sent.items ev) (sym c.as_slice.ensures)
    ∙ ap (λ (xs : List Parcel). comes_to c.as_slice.result.now xs ev) (sym c.as_slice-2.ensures.value)
    ∙ sym c.in_ok-answer.ensures in
    let said = c.in-Answered.answer in
    let fate = c.whole.result in
    let after : WorldState _ _ = (record {
      platforms = c.self.inside.platforms;
      sent = c.self.inside.sent.items;
      signed = c.self.inside.signed;
      fates = c.push_reserved.new.self.items;
    }) in
    let so = answered_so g.M.Machine.seen g.M.Machine.faults c.args.self.now after said fate c.whole.ensures.end
    c.whole.ensures.kept (ap (λ (w : WorldState _ _). w.platforms) c.self.view_is)
    (ap (λ (w : WorldState _ _). w.sent) c.self.view_is) (ap (λ (w : WorldState _ _). w.signed) c.self.view_is)
    (c.push_reserved.ensures.items
    ∙ ap (λ (fs : List Fate). fs ++ fate ∷ [])
    (c.reserve.ensures.items ∙ ap (λ (w : WorldState _ _). w.fates) c.self.view_is)) in
    subst (λ (h : Happening). HasHappened g.M.Machine.seen g.M.Machine.faults c.args.self.now h said after)
    (sym (ap (λ (w : WorldState _ _). comes_to w.signed w.sent ev) (sym c.self.view_is) ∙ chain
    ∙ ap happening_view c.in-Answered.is)) so

pub returns-in-Asked-clause-ok : goal.returns-in-Asked-clause-ok
returns-in-Asked-clause-ok g c =
    let s : WorldState _ _ = (record {
      platforms = c.self.inside.platforms;
      sent = c.self.inside.sent.items;
      signed = c.self.inside.signed;
      fates = c.self.inside.fates.items;
    }) in
    let ev = event_view c.args.event in
    let chain : comes_to c.self.inside.signed c.self.inside.sent.items ev ≡ happening_view c.in_ok-answer.field-0 =
    ap (λ (xs : List Checksum). comes_to xs c.self.inside.sent.items ev) (sym c.as_slice.ensures)
    ∙ ap (λ (xs : List Parcel). comes_to c.as_slice.result.now xs ev) (sym c.as_slice-2.ensures.value)
    ∙ sym c.in_ok-answer.ensures in
    let at : List Fate → WorldState _ _ = λ fs. record {
      platforms = c.self.inside.platforms;
      sent = c.self.inside.sent.items;
      signed = c.self.inside.signed;
      fates = fs;
    } in
    subst (λ (h : Happening). IfOk c.ask.result (λ answer.
    HasHappened g.M.Machine.seen g.M.Machine.faults c.args.self.now h answer c.ask.new.self))
    (sym (ap (λ (w : WorldState _ _). comes_to w.signed w.sent ev) (sym c.self.view_is) ∙ chain
    ∙ ap happening_view c.in-Asked.is))
    (subst (λ (w : WorldState _ _). IfOk c.ask.result (λ answer.
    HasHappened g.M.Machine.seen g.M.Machine.faults w (asks (asking_view c.in-Asked.asking)) answer c.ask.new.self))
    (ap at c.reserve.ensures.items ∙ c.self.view_is) c.ask.ensures.ok)
