use Rattle.std.proofs.Common.{◌≡◌, ◌++◌, ◌∷◌, [], List, map, reverse, sym, ap, subst, ◌∙◌, append_assoc, arith}
use Rattle.std.proofs.lemmas.List.{map-append, nil_from_length, reverse-append}
use Rattle.std.proofs.lemmas.List.Elements.{All-cons}
use Rattle.platform_world.specs.Platforms.{AllHold, AllTell}
use Rattle.platform_world.proofs.Shards.{told_in}
use Rattle.platform_world.proofs.platforms.racks_of.Goals as goal

pub loop-shard-preserved : goal.loop-shard-preserved
loop-shard-preserved g c =
    let rack = g.M.Machine.rack in
    let shard = c.in-Some.shard in
    let new = c.pop.new.self.items in
    let rs = c.loop-shard.racks.items in
    let old = c.loop-shard.invariant in
    let popped : c.loop-shard.shards.items ≡ new ++ shard ∷ [] = c.in-Some.ensures.items in
    let (behind, parts, hold) = old.hold in
    let all_parts : c.args.shards.items ≡ new ++ shard ∷ behind =
    parts ∙ ap (λ (xs : List _). xs ++ behind) popped ∙ append_assoc new (shard ∷ []) behind in
    record {
      racks = ap (λ (xs : List _). map rack new ++ reverse xs) c.push_reserved.ensures.items
          ∙ ap (λ (xs : List _). map rack new ++ xs) (reverse-append rs (c.close.result ∷ []))
          ∙ ap (λ (x : _). map rack new ++ x ∷ reverse rs) c.close.ensures.rack
          ∙ sym (append_assoc (map rack new) (rack shard ∷ []) (reverse rs))
          ∙ ap (λ (xs : List _). xs ++ reverse rs) (sym (map-append rack new (shard ∷ [])))
          ∙ ap (λ (xs : List _). map rack xs ++ reverse rs) (sym popped)
          ∙ old.racks;
      room = omega (arith, c.push_reserved.ensures.len, c.push_reserved.ensures.capacity, c.in-Some.ensures.len, old.room);
      hold = (
        shard ∷ behind,
        all_parts,
        λ all. All-cons (λ m. g.M.Machine.holds (rack m) (g.M.Machine.seen m)) shard behind
            (subst (λ (x : _). g.M.Machine.holds x (g.M.Machine.seen shard)) c.close.ensures.rack
            (c.close.ensures.holds
            (told_in g.M.Machine.tells new shard behind (subst (AllTell g.M.Machine.tells) all_parts all))))
            (hold all),
      );
    }

pub returns-clause-hold : goal.returns-clause-hold
returns-clause-hold g c = λ all.
    let (behind, parts, hold) = c.loop-shard.invariant.hold in
    let none : c.loop-shard.shards.items ≡ [] =
    nil_from_length c.loop-shard.shards.items (grind (arith, c.in_default.ensures.cases, c.loop-shard.shards.ok)) in
    subst (AllHold g.M.Machine.holds g.M.Machine.rack g.M.Machine.seen)
    (sym (parts ∙ ap (λ (xs : List _). xs ++ behind) none)) (hold all)
