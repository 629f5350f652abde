-- A pass of an office stays one, and what an answer was made at.
use Rattle.std.proofs.Common.{◌≡◌, ◌⊎◌, ⊎_elim, ℕ, ◌+◌, ◌<◌, ◌≤◌, Bool, max, List, [], ◌∷◌, ◌++◌, length, map, take, get_or, Option, Some, None, refl, sym, ap, subst, ◌∙◌, arith, All}
use Rattle.std.specs.Prelude.{is_some, slice_get}
use mathlib.Core.List.{IsPrefix}
use Rattle.ebl_base.specs.declared.moment.Moment.{Moment}
use Rattle.signed_envelope.specs.KeyRing.{Keys}
use Rattle.platform_requests.specs.Request.{RequestRecord}
use Rattle.bill_diary.specs.declared.frame.Frame.{Frame}
use Rattle.bill_locks.specs.declared.view.Opened.{Opened}
use Rattle.bill_locks.specs.declared.view.View.{View}
use Rattle.bill_locks.specs.declared.job.Told.{Told}
use Rattle.bill_locks.specs.declared.fault.CloseFault.{CloseFault}
use Rattle.bill_locks.specs.declared.fault.CloseFault.TheVariants as closing
use Rattle.bill_locks.specs.Pass.{PassRecord}
use Rattle.bill_locks.specs.Turn.{Turned}
use Rattle.bill_locks.specs.View.{knows_of_another, mark_at, opened_at, unopened}
use Rattle.platform_office.specs.declared.served.Served.{Served}
use Rattle.platform_office.specs.Answered.{told_by}
use Rattle.platform_office.specs.Office.{IsPassOf, IsPostIn, IsServedAt, Knows, KnowsOfMore, OfficeRecord, front_at, post_at}
use Rattle.platform_office.specs.declared.post.Post.{Post}
use Rattle.platform_office.specs.Served.{IsServedBy}

module _ {D G : Type 0} where
  -- a pass that knows the same posts, of the same table
  pub pass_stays : (o : OfficeRecord) (p q : PassRecord Frame (Post D G)) → IsPassOf o p → q.table ≡ p.table
      → q.knows.opened ≡ p.knows.opened → IsPassOf o q
  pass_stays o p q is table opened = record {
    table = table ∙ is.table;
    posts = λ k lt. subst (λ (l : List (Opened (Post D G))). IsPostIn o k (get_or l k unopened).fixed) (sym opened)
        (is.posts k lt);
  }

  -- a pass that comes back from a closing
  pub pass_back : (o : OfficeRecord) (p q : PassRecord Frame (Post D G)) (fault : CloseFault) → IsPassOf o p
      → q.table ≡ p.table → (fault ≡ closing.Passes → q.knows ≡ knows_of_another p.knows)
      → (fault ≡ closing.NoMemory → q.knows ≡ p.knows) → IsPassOf o q
  pass_back o p q closing.Passes is table passes no_memory =
      pass_stays o p q is table (ap (λ (v : Knows D G). v.opened) (passes refl))
  pass_back o p q closing.NoMemory is table passes no_memory =
      pass_stays o p q is table (ap (λ (v : Knows D G). v.opened) (no_memory refl))

  pub turned_opened : (k : ℕ) (t : Told) (v w : Knows D G) → Turned k t v w → w.opened ≡ v.opened
  turned_opened k t v w turned = ap (λ (u : Knows D G). u.opened) turned.changes

  -- while it waits, a pass learns of other passes at most
  pub knows_no_more : (v : Knows D G) → KnowsOfMore v v
  knows_no_more v = (v.known, omega arith, refl)

  pub knows_one_more : (v w u : Knows D G) → KnowsOfMore v w → u ≡ knows_of_another w → KnowsOfMore v u
  knows_one_more v w u (known, more, is) found = (
    max known (v.stands + 1),
    omega (arith, more),
    found ∙ ap (λ (x : Knows D G). knows_of_another x) is,
  )

  -- an answer of a turn was made at one state of its shard
  pub served_at : (tells : D → Bool) (keys : G → Keys) (k : ℕ) (v w : Knows D G) (now : Moment)
      (request : RequestRecord) (s : Served) (post : Post D G) → w.opened ≡ v.opened
      → (opened_at k v).fixed ≡ Some post → s.shard ≡ k
      → IsServedBy tells keys post now request (take s.before (mark_at k w).front) (mark_at k w).front s.outcome
      → IsServedAt tells keys w now request s
  served_at tells keys k v w now request s post opened is shard served = record {
    post = post;
    post_is = ap (λ (n : ℕ). post_at n w) shard
        ∙ (ap (λ (l : List (Opened (Post D G))). (get_or l k unopened).fixed) opened ∙ is);
    served = subst
        (λ (n : ℕ). IsServedBy tells keys post now request (take s.before (front_at n w)) (front_at n w) s.outcome)
        (sym shard) served;
  }
