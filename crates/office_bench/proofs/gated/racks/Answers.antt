use Rattle.std.proofs.Common.{rules, ◌≡◌, [], ◌∷◌, ◌++◌, All, is_ok, is_some, true, ap, sym, subst, ◌∙◌, if◌then◌else◌}
use Rattle.std.proofs.lemmas.List.Elements.{All-push}
use Rattle.disk_model.specs.declared.memory_disk.MemoryDisk.{MemoryDisk}
use Rattle.journaled_shard.specs.declared.rack.Rack.{Rack}
use Rattle.test_signer.specs.declared.keyed_ring.KeyedRing.{KeyedRing}
use Rattle.office_bench.proofs.gated.racks.Goals as goal

pub loop-number-preserved : goal.loop-number-preserved
loop-number-preserved c =
    let fine : is_ok c.push.result ≡ true = sym c.ok.ensures.variant ∙ ap is_some c.in_ok-ok.was in
    let items : c.push.new.self.items ≡ c.loop-number.racks.items ++ c.in_ok-rack.field-0 ∷ [] =
    c.push.ensures.items ∙ ap (λ b. if b then c.loop-number.racks.items ++ c.in_ok-rack.field-0 ∷ []
    else c.loop-number.racks.items) fine in
    let blank : Rack MemoryDisk KeyedRing → Type 0 = λ rack. rack.disk.seen ≡ [] in (
      search rules,
      subst (All blank) (sym items)
          (All-push blank c.loop-number.racks.items c.in_ok-rack.field-0 c.loop-number.invariant.1 c.in_ok-rack.ensures),
    )
