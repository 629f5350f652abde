-- An office as its callers see it, and its passes.
use Rattle.std.specs.Prelude.{◌≡◌, ℕ, ◌<◌, ◌≤◌, Bool, List, Option, Some, None, take}
use Rattle.atomic_table.specs.Seated.{TableId}
use Rattle.ebl_base.specs.declared.moment.Moment.{Moment}
use Rattle.ebl_base.specs.declared.platform_code.PlatformCode.{PlatformCode}
use Rattle.signed_envelope.specs.KeyRing.{Keys}
use Rattle.party_roster.specs.RosterRecord.{RosterRecord}
use Rattle.platform_requests.specs.Request.{RequestRecord}
use Rattle.bill_diary.specs.declared.frame.Frame.{Frame}
use Rattle.bill_locks.specs.declared.view.View.{View}
use Rattle.bill_locks.specs.Pass.{PassRecord}
use Rattle.bill_locks.specs.View.{mark_at, opened_at}
use Rattle.platform_office.specs.declared.served.Served.{Served}
use Rattle.platform_office.specs.declared.post.Post.{Post}
use Rattle.platform_office.specs.Served.{IsServedBy}

-- its table, its platform and the roster
pub record OfficeRecord : Type 0 where
  pub table : TableId
  pub me : PlatformCode
  pub roster : RosterRecord

-- what a pass knows
abbrev pub Knows : Type 0 → Type 0 → Type 0
Knows D G = View Frame (Post D G)

module _ {D G : Type 0} where
  -- the post of a shard, as it was when the office opened
  abbrev pub post_at : ℕ → Knows D G → Option (Post D G)
  post_at k v = (opened_at k v).fixed

  -- the frames of a shard that a pass has seen
  abbrev pub front_at : ℕ → Knows D G → List Frame
  front_at k v = (mark_at k v).front

  -- a post in the office
  abbrev pub IsPostIn : OfficeRecord → ℕ → Option (Post D G) → Type 0
  IsPostIn o k None = ⊥
  IsPostIn o k (Some post) = (post.me ≡ o.me) × (post.roster ≡ o.roster) × (post.number ≡ k)

  -- a pass of the office: it is of the office's table, and knows each shard's post
  pub record IsPassOf (o : OfficeRecord) (p : PassRecord Frame (Post D G)) : Type 0 where
    pub table : p.table ≡ o.table
    pub posts : (k : ℕ) → k < 16 → IsPostIn o k (post_at k p.knows)

  -- a pass learned of other passes at most
  abbrev pub KnowsOfMore : Knows D G → Knows D G → Type 0
  KnowsOfMore v w = (known : ℕ) × (v.known ≤ known) × (w ≡ record v { known = known })

  -- an answer was made at one state of its shard: over the first `before` frames of what the pass has seen of it then
  pub record IsServedAt (tells : D → Bool) (keys : G → Keys) (v : Knows D G) (now : Moment) (request : RequestRecord)
      (s : Served) : Type 0 where
    pub post : Post D G
    pub post_is : post_at s.shard v ≡ Some post
    pub served : IsServedBy tells keys post now request (take s.before (front_at s.shard v)) (front_at s.shard v)
        s.outcome
