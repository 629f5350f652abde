use Rattle.std.proofs.Common.{◌≡◌, ◌*◌, Bool, List, [], None, length, map, reverse, take, ap, refl, subst, sym, ◌∙◌, arith}
use Rattle.std.proofs.lemmas.List.{reverse-reverse, take_all}
use Rattle.ebl_base.specs.declared.platform_code.PlatformCode.{PlatformCode}
use Rattle.journaled_shard.specs.Shard.{JournaledShardRecord}
use Rattle.journaled_shard.specs.declared.rack.Rack.{Rack}
use Rattle.platform_world.specs.Journaled.{loose_mark}
use Rattle.platform_world.specs.Opening.{AreBlank, AreOnRacks, IsOpening, IsStopped}
use Rattle.platform_world.specs.Platforms.{PlatformsRecord, codes_of}
use Rattle.platform_world.specs.State.{AreFresh}
use Rattle.platform_world.proofs.Racks.{all_codes, left_behind, on_racks, opened_all, opened_by, opened_keys, opened_me, stopped_back, stopped_further, stopped_rose}
use Rattle.platform_world.proofs.Rings.{are-of, opened-by}
use Rattle.platform_world.proofs.Shards.{codes-length}
use Rattle.platform_world.proofs.opening.World+JournaledShard+D+G.open.Goals as goal

pub open_shards-requires-clause-blank : goal.open_shards-requires-clause-blank
open_shards-requires-clause-blank g c =
    let given = c.args.racks.items in
    let tells = g.D.Disk.tells in
    let back : reverse c.reverse.new.self.items ≡ given = ap reverse c.reverse.ensures.items ∙ reverse-reverse given in
    subst (λ (rs : List (Rack _ _)). AreBlank tells g.D.Disk.seen (take (16 * length c.platforms.result.now) rs)) (sym back)
    (subst (λ (ps : List PlatformCode). AreBlank tells g.D.Disk.seen (take (16 * length ps) given))
    (sym c.platforms.ensures) c.requires.blank)

pub new-requires-clause-shards : goal.new-requires-clause-shards
new-requires-clause-shards g c =
    let roster = c.args.roster in
    let codes = codes_of roster.platforms in
    let given = c.args.racks.items in
    let n = 16 * length roster.platforms in
    let shards = c.open_shards.new.shards.items in
    let left = reverse c.open_shards.new.racks.items in
    let tells = g.D.Disk.tells in
    let faults = g.D.Disk.faults in
    let back : reverse c.reverse.new.self.items ≡ given = ap reverse c.reverse.ensures.items ∙ reverse-reverse given in
    let so : IsOpening tells faults roster codes given shards left =
    subst (λ (rs : List (Rack _ _)). IsOpening tells faults roster codes rs shards left) back c.in-Ok.ensures.ok in
    let count : length shards ≡ n = c.in-Ok.ensures.all ∙ ap (λ (ps : List PlatformCode). 16 * length ps) c.platforms.ensures in
    let front = all_codes tells faults roster codes given shards left so (count ∙ sym (codes-length roster.platforms)) in
    let long = codes-length roster.platforms in
    let whole = take_all n codes (omega (arith, long)) in
    are-of (λ s. record {
      me = s.me;
      roster = s.roster;
      keys = g.G.KeyRing.keys s.ring;
      diary = s.written.diary;
      loose = loose_mark s.written.unread s.written.loose;
    }) shards roster n
    (opened_me tells faults roster so.front so.taken shards so.opened ∙ front ∙ sym whole)
    (opened_by tells faults roster so.front so.taken shards so.opened
    ∙ ap (map (λ p. roster)) (front ∙ sym whole)) refl

pub new-requires-clause-told : goal.new-requires-clause-told
new-requires-clause-told g c =
    let roster = c.args.roster in
    let codes = codes_of roster.platforms in
    let given = c.args.racks.items in
    let shards = c.open_shards.new.shards.items in
    let left = reverse c.open_shards.new.racks.items in
    let tells = g.D.Disk.tells in
    let faults = g.D.Disk.faults in
    let back : reverse c.reverse.new.self.items ≡ given = ap reverse c.reverse.ensures.items ∙ reverse-reverse given in
    let so : IsOpening tells faults roster codes given shards left =
    subst (λ (rs : List (Rack _ _)). IsOpening tells faults roster codes rs shards left) back c.in-Ok.ensures.ok in
    opened_all tells faults roster (λ s. tells s.written.journal.disk ≡ _) (λ p r s is. is.told) so.front so.taken shards
    so.opened

pub new-requires-in-Ok : goal.new-requires-in-Ok
new-requires-in-Ok g c =
    let roster = c.args.roster in
    let codes = codes_of roster.platforms in
    let given = c.args.racks.items in
    let shards = c.open_shards.new.shards.items in
    let left = reverse c.open_shards.new.racks.items in
    let tells = g.D.Disk.tells in
    let faults = g.D.Disk.faults in
    let back : reverse c.reverse.new.self.items ≡ given = ap reverse c.reverse.ensures.items ∙ reverse-reverse given in
    let so : IsOpening tells faults roster codes given shards left =
    subst (λ (rs : List (Rack _ _)). IsOpening tells faults roster codes rs shards left) back c.in-Ok.ensures.ok in
    record {
      fresh = subst (λ (ss : List (JournaledShardRecord _ _)). AreFresh (λ s. record {
        me = s.me;
        roster = s.roster;
        keys = g.G.KeyRing.keys s.ring;
        diary = s.written.diary;
        loose = loose_mark s.written.unread s.written.loose;
      }) ss) (sym c.new.ensures.shards)
          (opened_all tells faults roster
          (λ s. (s.written.diary ≡ []) × (loose_mark s.written.unread s.written.loose ≡ None))
          (λ p r s is. (is.empty, ap (λ (b : Bool). loose_mark b s.written.loose) is.read)) so.front so.taken shards so.opened);
    }

pub returns-in-Ok-clause-opening : goal.returns-in-Ok-clause-opening
returns-in-Ok-clause-opening g c =
    let roster = c.args.roster in
    let codes = codes_of roster.platforms in
    let given = c.args.racks.items in
    let n = 16 * length roster.platforms in
    let shards = c.open_shards.new.shards.items in
    let left = reverse c.open_shards.new.racks.items in
    let tells = g.D.Disk.tells in
    let faults = g.D.Disk.faults in
    let back : reverse c.reverse.new.self.items ≡ given = ap reverse c.reverse.ensures.items ∙ reverse-reverse given in
    let so : IsOpening tells faults roster codes given shards left =
    subst (λ (rs : List (Rack _ _)). IsOpening tells faults roster codes rs shards left) back c.in-Ok.ensures.ok in
    let count : length shards ≡ n = c.in-Ok.ensures.all ∙ ap (λ (ps : List PlatformCode). 16 * length ps) c.platforms.ensures in
    let parts = left_behind tells faults roster codes given shards left n so count in
    opened-by (λ s. g.G.KeyRing.keys s.ring) (λ r. g.G.KeyRing.keys r.ring) _ roster c.new.result.roster shards
    c.new.result.shards so.taken given n c.new-in-Ok.ensures.opening c.new.ensures.roster c.new.ensures.shards
    (opened_keys tells faults roster g.G.KeyRing.keys so.front so.taken shards so.opened) parts.0 refl

pub returns-in-Ok-clause-count : goal.returns-in-Ok-clause-count
returns-in-Ok-clause-count g c =
    ap (λ (ps : PlatformsRecord _ _). length ps.shards) c.new-in-Ok.ensures.platforms ∙ ap length c.new.ensures.shards
    ∙ c.in-Ok.ensures.all ∙ ap (λ (ps : List PlatformCode). 16 * length ps) c.platforms.ensures

pub returns-in-Ok-clause-shards : goal.returns-in-Ok-clause-shards
returns-in-Ok-clause-shards g c =
    let roster = c.args.roster in
    let codes = codes_of roster.platforms in
    let given = c.args.racks.items in
    let shards = c.open_shards.new.shards.items in
    let left = reverse c.open_shards.new.racks.items in
    let tells = g.D.Disk.tells in
    let faults = g.D.Disk.faults in
    let back : reverse c.reverse.new.self.items ≡ given = ap reverse c.reverse.ensures.items ∙ reverse-reverse given in
    let so : IsOpening tells faults roster codes given shards left =
    subst (λ (rs : List (Rack _ _)). IsOpening tells faults roster codes rs shards left) back c.in-Ok.ensures.ok in
    let same = ap (λ (ps : PlatformsRecord _ _). ps.shards) c.new-in-Ok.ensures.platforms ∙ c.new.ensures.shards in
    subst (λ (ss : List (JournaledShardRecord _ _)). AreOnRacks faults given ss) (sym same)
    (subst (λ (rs : List (Rack _ _)). AreOnRacks faults rs shards) (sym so.racks_are)
    (on_racks tells faults roster so.front so.taken left shards so.opened))

pub returns-in-Ok-clause-spare : goal.returns-in-Ok-clause-spare
returns-in-Ok-clause-spare g c =
    let roster = c.args.roster in
    let codes = codes_of roster.platforms in
    let given = c.args.racks.items in
    let n = 16 * length roster.platforms in
    let shards = c.open_shards.new.shards.items in
    let left = reverse c.open_shards.new.racks.items in
    let tells = g.D.Disk.tells in
    let faults = g.D.Disk.faults in
    let back : reverse c.reverse.new.self.items ≡ given = ap reverse c.reverse.ensures.items ∙ reverse-reverse given in
    let so : IsOpening tells faults roster codes given shards left =
    subst (λ (rs : List (Rack _ _)). IsOpening tells faults roster codes rs shards left) back c.in-Ok.ensures.ok in
    let count : length shards ≡ n = c.in-Ok.ensures.all ∙ ap (λ (ps : List PlatformCode). 16 * length ps) c.platforms.ensures in
    let parts = left_behind tells faults roster codes given shards left n so count in
    ap (λ (ps : PlatformsRecord _ _). reverse ps.spare) c.new-in-Ok.ensures.platforms ∙ ap reverse c.new.ensures.spare
    ∙ parts.1

pub returns-in-Err-clause-back : goal.returns-in-Err-clause-back
returns-in-Err-clause-back g c =
    let roster = c.args.roster in
    let codes = codes_of roster.platforms in
    let given = c.args.racks.items in
    let n = 16 * length roster.platforms in
    let shards = c.open_shards.new.shards.items in
    let left = reverse c.open_shards.new.racks.items in
    let tells = g.D.Disk.tells in
    let faults = g.D.Disk.faults in
    let back : reverse c.reverse.new.self.items ≡ given = ap reverse c.reverse.ensures.items ∙ reverse-reverse given in
    let so : IsStopped tells faults roster n given shards left c.in-Err.fault =
    subst (λ (rs : List (Rack _ _)). IsStopped tells faults roster n rs shards left c.in-Err.fault) back
    (subst (λ (m : _). IsStopped tells faults roster m (reverse c.reverse.new.self.items) shards left c.in-Err.fault)
    (ap (λ (ps : List PlatformCode). 16 * length ps) c.platforms.ensures) c.in-Err.ensures.err) in
    stopped_back tells faults roster codes given n shards left c.in-Err.fault c.racks_of.result.items so
    c.racks_of.ensures.racks

pub returns-in-Err-clause-further : goal.returns-in-Err-clause-further
returns-in-Err-clause-further g c =
    let roster = c.args.roster in
    let codes = codes_of roster.platforms in
    let given = c.args.racks.items in
    let n = 16 * length roster.platforms in
    let shards = c.open_shards.new.shards.items in
    let left = reverse c.open_shards.new.racks.items in
    let tells = g.D.Disk.tells in
    let faults = g.D.Disk.faults in
    let back : reverse c.reverse.new.self.items ≡ given = ap reverse c.reverse.ensures.items ∙ reverse-reverse given in
    let so : IsStopped tells faults roster n given shards left c.in-Err.fault =
    subst (λ (rs : List (Rack _ _)). IsStopped tells faults roster n rs shards left c.in-Err.fault) back
    (subst (λ (m : _). IsStopped tells faults roster m (reverse c.reverse.new.self.items) shards left c.in-Err.fault)
    (ap (λ (ps : List PlatformCode). 16 * length ps) c.platforms.ensures) c.in-Err.ensures.err) in
    stopped_further tells faults roster codes given n shards left c.in-Err.fault c.racks_of.result.items so
    c.racks_of.ensures.racks

pub returns-in-Err-clause-failed : goal.returns-in-Err-clause-failed
returns-in-Err-clause-failed g c =
    let roster = c.args.roster in
    let codes = codes_of roster.platforms in
    let given = c.args.racks.items in
    let n = 16 * length roster.platforms in
    let shards = c.open_shards.new.shards.items in
    let left = reverse c.open_shards.new.racks.items in
    let tells = g.D.Disk.tells in
    let faults = g.D.Disk.faults in
    let back : reverse c.reverse.new.self.items ≡ given = ap reverse c.reverse.ensures.items ∙ reverse-reverse given in
    let so : IsStopped tells faults roster n given shards left c.in-Err.fault =
    subst (λ (rs : List (Rack _ _)). IsStopped tells faults roster n rs shards left c.in-Err.fault) back
    (subst (λ (m : _). IsStopped tells faults roster m (reverse c.reverse.new.self.items) shards left c.in-Err.fault)
    (ap (λ (ps : List PlatformCode). 16 * length ps) c.platforms.ensures) c.in-Err.ensures.err) in
    λ i is. stopped_rose tells faults roster codes given n shards left c.in-Err.fault c.racks_of.result.items i so
    c.racks_of.ensures.racks is
