-- A request on its way to a shard, as contracts see it.
use Rattle.std.specs.Prelude.{ℕ}
use Rattle.ebl_base.specs.declared.moment.Moment.{Moment}
use Rattle.platform_requests.specs.declared.request.Request.{Request}

-- the shard, the moment and the request
pub record AskRecord : Type 0 where
  pub shard : ℕ
  pub now : Moment
  pub request : Request
