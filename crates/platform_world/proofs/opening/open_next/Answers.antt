use Rattle.std.proofs.Common.{◌≡◌, ◌++◌, ◌∷◌, [], ap, ◌∙◌}
use Rattle.std.specs.Option.{option_to_list}
use Rattle.platform_world.proofs.opening.open_next.Goals as goal

pub returns-in-Ok-clause-ok : goal.returns-in-Ok-clause-ok
returns-in-Ok-clause-ok g c =
    let rack = c.unwrap-disk.result in
    let was : c.args.racks.now.items ≡ c.pop.new.self.items ++ rack ∷ [] =
    c.pop.ensures.items ∙ ap (λ (o : _). c.pop.new.self.items ++ option_to_list o) c.unwrap-disk.ensures in
    let (tells, empty) = c.requires.blank c.pop.new.self.items rack was in
    record {
      rack = rack;
      was = was;
      opened = record {
        me = c.in-Ok.ensures.me;
        roster_is = c.in-Ok.ensures.roster;
        on_rack = record { ring = c.in-Ok.ensures.ring; later = c.in-Ok.ensures.later };
        empty = c.in-Ok.ensures.blank tells empty;
        read = c.in-Ok.ensures.read.read;
        told = c.in-Ok.ensures.told ∙ tells;
      };
    }

pub returns-in-Err-clause-err : goal.returns-in-Err-clause-err
returns-in-Err-clause-err g c =
    let rack = c.unwrap-disk.result in
    record {
      front = c.pop.new.self.items;
      old = rack;
      new = record { disk = c.in-Err.disk; ring = c.in-Err.ring };
      was = c.pop.ensures.items ∙ ap (λ (o : _). c.pop.new.self.items ++ option_to_list o) c.unwrap-disk.ensures;
      is = c.push_reserved.ensures.items;
      same = record { ring = c.in-Err.ensures.ring; later = c.in-Err.ensures.later };
      rose = c.in-Err.ensures.failed;
    }
