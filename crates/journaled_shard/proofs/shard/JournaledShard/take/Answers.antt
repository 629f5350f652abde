use Rattle.platform_requests.specs.Request.{request_view}
use Rattle.std.proofs.Common.{subst}
use Rattle.journaled_shard.specs.Shard.{HasNoRoom, IsTaken, JournaledShardRecord}
use Rattle.journaled_shard.specs.View.{written_view}
use Rattle.journaled_shard.specs.Written.{IsKeptOrDropped}
use Rattle.journaled_shard.proofs.ShardLemmas.{taken_damaged, taken_disk, taken_refused, taken_settled, taken_short, taken_step, taken_untouched}
use Rattle.journaled_shard.proofs.shard.JournaledShard.take.Goals as goal

pub returns-clause-step : goal.returns-clause-step
returns-clause-step g c = λ fine.
    let s = c.args.self.now in
    let keys = g.G.KeyRing.keys s.ring in
    let request = request_view c.args.request in
    let out = c.take_by.result in
    let after = written_view c.take_by.new.written in
    let taken : IsTaken s.roster keys s.me s.written c.args.now request out after =
    subst (λ (r : JournaledShardRecord g.row.D.Denot g.row.G.Denot). IsTaken r.roster (g.G.KeyRing.keys r.ring) r.me
    r.written c.args.now request out after) c.self.view_is c.take_by.ensures.taken in
    taken_step s.roster keys s.me c.args.now request s.written after out fine taken

pub returns-clause-refused : goal.returns-clause-refused
returns-clause-refused g c = λ refusal.
    let s = c.args.self.now in
    let keys = g.G.KeyRing.keys s.ring in
    let request = request_view c.args.request in
    let out = c.take_by.result in
    let after = written_view c.take_by.new.written in
    let taken : IsTaken s.roster keys s.me s.written c.args.now request out after =
    subst (λ (r : JournaledShardRecord g.row.D.Denot g.row.G.Denot). IsTaken r.roster (g.G.KeyRing.keys r.ring) r.me
    r.written c.args.now request out after) c.self.view_is c.take_by.ensures.taken in
    taken_refused s.roster keys s.me c.args.now request s.written after out
    (λ diary step. c.refusals_change_nothing.ensures s.roster keys s.me diary c.args.now request step) refusal taken

pub returns-clause-untouched : goal.returns-clause-untouched
returns-clause-untouched g c = λ read refusal other.
    let s = c.args.self.now in
    let keys = g.G.KeyRing.keys s.ring in
    let request = request_view c.args.request in
    let out = c.take_by.result in
    let after = written_view c.take_by.new.written in
    let taken : IsTaken s.roster keys s.me s.written c.args.now request out after =
    subst (λ (r : JournaledShardRecord g.row.D.Denot g.row.G.Denot). IsTaken r.roster (g.G.KeyRing.keys r.ring) r.me
    r.written c.args.now request out after) c.self.view_is c.take_by.ensures.taken in
    taken_untouched s.roster keys s.me c.args.now request s.written after out
    (λ diary step. c.refusals_change_nothing.ensures s.roster keys s.me diary c.args.now request step) read refusal
    other taken

pub returns-clause-full : goal.returns-clause-full
returns-clause-full g c = λ full.
    let request = request_view c.args.request in
    let after = written_view c.take_by.new.written in
    subst (λ (r : JournaledShardRecord g.row.D.Denot g.row.G.Denot). IsKeptOrDropped r.written.diary r.written.loose
    after.diary × HasNoRoom r.roster (g.G.KeyRing.keys r.ring) r.me after.diary c.args.now request) c.self.view_is
    (c.take_by.ensures.full full)

pub returns-clause-disk : goal.returns-clause-disk
returns-clause-disk g c = λ disk.
    let s = c.args.self.now in
    let keys = g.G.KeyRing.keys s.ring in
    let request = request_view c.args.request in
    let out = c.take_by.result in
    let after = written_view c.take_by.new.written in
    let taken : IsTaken s.roster keys s.me s.written c.args.now request out after =
    subst (λ (r : JournaledShardRecord g.row.D.Denot g.row.G.Denot). IsTaken r.roster (g.G.KeyRing.keys r.ring) r.me
    r.written c.args.now request out after) c.self.view_is c.take_by.ensures.taken in
    taken_disk s.roster keys s.me c.args.now request s.written after out
    (λ diary step. c.steps_reply_no_failure.ensures s.roster keys s.me diary c.args.now request step) disk taken

pub returns-clause-damaged : goal.returns-clause-damaged
returns-clause-damaged g c = λ place damaged.
    let s = c.args.self.now in
    let keys = g.G.KeyRing.keys s.ring in
    let request = request_view c.args.request in
    let out = c.take_by.result in
    let after = written_view c.take_by.new.written in
    let taken : IsTaken s.roster keys s.me s.written c.args.now request out after =
    subst (λ (r : JournaledShardRecord g.row.D.Denot g.row.G.Denot). IsTaken r.roster (g.G.KeyRing.keys r.ring) r.me
    r.written c.args.now request out after) c.self.view_is c.take_by.ensures.taken in
    taken_damaged s.roster keys s.me c.args.now request s.written after out place
    (λ diary step. c.steps_reply_no_failure.ensures s.roster keys s.me diary c.args.now request step) damaged taken

pub returns-clause-short : goal.returns-clause-short
returns-clause-short g c = λ short.
    let s = c.args.self.now in
    let keys = g.G.KeyRing.keys s.ring in
    let request = request_view c.args.request in
    let out = c.take_by.result in
    let after = written_view c.take_by.new.written in
    let taken : IsTaken s.roster keys s.me s.written c.args.now request out after =
    subst (λ (r : JournaledShardRecord g.row.D.Denot g.row.G.Denot). IsTaken r.roster (g.G.KeyRing.keys r.ring) r.me
    r.written c.args.now request out after) c.self.view_is c.take_by.ensures.taken in
    taken_short s.roster keys s.me c.args.now request s.written after out short taken

pub returns-clause-read : goal.returns-clause-read
returns-clause-read g c = λ other.
    let s = c.args.self.now in
    let keys = g.G.KeyRing.keys s.ring in
    let request = request_view c.args.request in
    let out = c.take_by.result in
    let after = written_view c.take_by.new.written in
    let taken : IsTaken s.roster keys s.me s.written c.args.now request out after =
    subst (λ (r : JournaledShardRecord g.row.D.Denot g.row.G.Denot). IsTaken r.roster (g.G.KeyRing.keys r.ring) r.me
    r.written c.args.now request out after) c.self.view_is c.take_by.ensures.taken in
    taken_settled s.roster keys s.me c.args.now request s.written after out other taken
