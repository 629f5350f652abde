-- The request came back, and goes to the same shard; the pass knows of more passes at most.
use Rattle.std.proofs.Common.{◌≡◌, ◌<◌}
use Rattle.platform_requests.specs.Request.{request_view}
use Rattle.platform_requests.specs.Shard.{shard_of}
use Rattle.platform_office.specs.Office.{IsPassOf, KnowsOfMore}
use Rattle.platform_office.proofs.office.Office.take.Given as goal

abbrev pub invariant-loop : goal.invariant-loop
invariant-loop g l = record {
  next : (goal.iterator-loop g).can_next l.iterator';
  finite : (goal.iterator-loop g).is_finite l.iterator';
  of : IsPassOf l.self l.pass;
  asked : l.asked ≡ l.fn.request;
  goes : shard_of (request_view l.fn.request) ≡ l.shard;
  place : l.shard < 16;
  more : KnowsOfMore l.initial.pass.knows l.pass.knows;
}
