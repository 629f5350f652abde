use Rattle.std.proofs.Common.{◌+◌, ap, length, refl, true, ◌∙◌, arith}
use Rattle.std.proofs.lemmas.List.{length_push}
use Rattle.std.proofs.lemmas.List.Elements.{All-nil, All-push}
use Rattle.disk_model.specs.Record.{DiskRecord}
use Rattle.platform_world.specs.Opening.{IsBlank}
use Rattle.platform_tests.proofs.tests.worlds.racks.Goals as goal

pub loop-place-init : goal.loop-place-init
loop-place-init c = record {
  count = ap length c.in_ok-racks.ensures.items;
  blank = rw c.in_ok-racks.ensures.items (All-nil (IsBlank (λ (d : DiskRecord). true) (λ (d : DiskRecord). d.seen)));
}

pub loop-place-preserved : goal.loop-place-preserved
loop-place-preserved c = record {
  count = ap length c.in_ok-push.ensures.items ∙ length_push c.loop-place.racks.items c.in_ok-rack.field-0
      ∙ ap (λ (n : _). n + 1) c.loop-place.invariant.count;
  blank = rw c.in_ok-push.ensures.items
      (All-push (IsBlank (λ (d : DiskRecord). true) (λ (d : DiskRecord). d.seen)) c.loop-place.racks.items
      c.in_ok-rack.field-0 c.loop-place.invariant.blank (refl, c.in_ok-rack.ensures));
}

pub returns-clause-count : goal.returns-clause-count
returns-clause-count c =
    omega (arith, c.loop-place.invariant.count, c.loop-place-test.false, c.loop-place.auto.place-end)

pub returns-clause-blank : goal.returns-clause-blank
returns-clause-blank c = c.loop-place.invariant.blank
