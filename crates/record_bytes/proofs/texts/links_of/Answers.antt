use Rattle.std.proofs.Common.{◌≡◌, ◌∷◌, rules, subst}
use Rattle.std.specs.Vec.Iter.{into_iter_items}
use Rattle.record_bytes.proofs.FindLemmas.{found_is, not_found}
use Rattle.record_bytes.proofs.TextLemmas.{MadeSoFar, not_made, one_more_made}
use Rattle.record_bytes.proofs.texts.links_of.Goals as goal

pub returns-in_default : goal.returns-in_default
returns-in_default c =
    let split : into_iter_items c.loop-text.text-iterator ≡ c.in-Some.text ∷ into_iter_items c.next.new.self = search rules in
    not_made c.args.texts.items (into_iter_items c.next.new.self) c.in-Some.text c.loop-text.links.items
    (subst (MadeSoFar c.args.texts.items c.loop-text.links.items) split c.loop-text.invariant.0)
    (not_found _ c.in_ok-link.field-0 c.in_default.not-Some c.in_ok-link.ensures)

pub loop-text-preserved : goal.loop-text-preserved
loop-text-preserved c =
    let split : into_iter_items c.loop-text.text-iterator ≡ c.in-Some.text ∷ into_iter_items c.next.new.self = search rules in (
      one_more_made c.args.texts.items (into_iter_items c.next.new.self) c.in-Some.text c.loop-text.links.items
          c.push.new.self.items c.in-Some-2.link
          (subst (MadeSoFar c.args.texts.items c.loop-text.links.items) split c.loop-text.invariant.0)
          (found_is _ c.in_ok-link.field-0 c.in-Some-2.link c.in-Some-2.is c.in_ok-link.ensures) (search rules),
      search rules,
    )
