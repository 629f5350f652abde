-- Shards that are taken apart in their order, and what is left of them.
use Rattle.std.proofs.Common.{◌≡◌, ℕ, zero, suc, ◌<◌, Bool, true, List, [], ◌∷◌, ◌++◌, length, map, reverse, get_or, Option, Some, None, refl, sym, ap, subst, ◌∙◌, arith, All, append_assoc}
use Rattle.std.specs.Prelude.{is_some, slice_get}
use Rattle.std.proofs.lemmas.List.{append-nil, map-append, reverse-append, reverse-reverse}
use Rattle.std.proofs.lemmas.List.Elements.{All-append, All-cons, All-nil}
use Rattle.signed_envelope.specs.KeyRing.{Keys}
use Rattle.bill_diary.specs.declared.frame.Frame.{Frame}
use Rattle.bill_locks.specs.declared.view.Mark.{Mark}
use Rattle.bill_locks.specs.declared.view.Opened.{Opened}
use Rattle.bill_locks.specs.Turn.{HandedOut}
use Rattle.bill_locks.specs.View.{mark_at, opened_at}
use Rattle.journaled_shard.specs.declared.rack.Rack.{Rack}
use Rattle.platform_office.specs.Closed.{IsHandedOut, IsLeft, LeftShard}
use Rattle.platform_office.specs.Office.{IsPostIn, Knows, OfficeRecord, post_at}
use Rattle.platform_office.specs.Opening.{rack_of}
use Rattle.platform_office.specs.declared.post.Post.{Post}
use Rattle.platform_office.specs.Post.{IsAtPost, IsOfShard, OfficeShardRecord, post_of}
use Rattle.platform_office.proofs.BesideLemmas.{all_at, get_map}

module _ {D G : Type 0} (tells : D → Bool) (keys : G → Keys) (seen : D → List ℕ) (may_leave : D → List ℕ → Type 0) where
  -- ---- taking apart

  -- the first of the shards are taken apart; the rest stand in the opposite order
  pub record AreTaken (shards rest : List (OfficeShardRecord D G)) (racks : List (Rack D G))
      (diaries : List (List Frame)) : Type 0 where
    pub front : List (OfficeShardRecord D G)
    pub parts : shards ≡ front ++ reverse rest
    pub racks_are : racks ≡ map rack_of front
    pub diaries_are : diaries ≡ map (λ (x : OfficeShardRecord D G). x.shard.written.diary) front
    pub posts : All (IsAtPost tells keys seen may_leave) front

  pub none_taken : (shards rest : List (OfficeShardRecord D G)) (racks : List (Rack D G)) (diaries : List (List Frame))
      → rest ≡ reverse shards → racks ≡ [] → diaries ≡ [] → AreTaken shards rest racks diaries
  none_taken shards rest racks diaries is no_racks none = record {
    front = [];
    parts = sym (ap reverse is ∙ reverse-reverse shards);
    racks_are = no_racks;
    diaries_are = none;
    posts = All-nil (IsAtPost tells keys seen may_leave);
  }

  pub one_taken : (shards rest left : List (OfficeShardRecord D G)) (racks more : List (Rack D G))
      (diaries diaries' : List (List Frame)) (s : OfficeShardRecord D G) (rack : Rack D G) (diary : List Frame)
      → AreTaken shards rest racks diaries → rest ≡ left ++ s ∷ [] → more ≡ racks ++ rack ∷ []
      → diaries' ≡ diaries ++ diary ∷ [] → rack ≡ rack_of s → diary ≡ s.shard.written.diary
      → IsAtPost tells keys seen may_leave s → AreTaken shards left more diaries'
  one_taken shards rest left racks more diaries diaries' s rack diary was popped pushed added is same post = record {
    front = was.front ++ s ∷ [];
    parts = was.parts ∙ ap (λ (l : List (OfficeShardRecord D G)). was.front ++ reverse l) popped
        ∙ ap (λ (l : List (OfficeShardRecord D G)). was.front ++ l) (reverse-append left (s ∷ []))
        ∙ sym (append_assoc was.front (s ∷ []) (reverse left));
    racks_are = pushed ∙ ap (λ (l : List (Rack D G)). l ++ rack ∷ []) was.racks_are
        ∙ ap (λ (r : Rack D G). map rack_of was.front ++ r ∷ []) is
        ∙ sym (map-append rack_of was.front (s ∷ []));
    diaries_are = added ∙ ap (λ (l : List (List Frame)). l ++ diary ∷ []) was.diaries_are
        ∙ ap (λ (d : List Frame). map (λ (x : OfficeShardRecord D G). x.shard.written.diary) was.front ++ d ∷ []) same
        ∙ sym (map-append (λ (x : OfficeShardRecord D G). x.shard.written.diary) was.front (s ∷ []));
    posts = All-append (IsAtPost tells keys seen may_leave) was.front (s ∷ []) was.posts
        (All-cons (IsAtPost tells keys seen may_leave) s [] post (All-nil (IsAtPost tells keys seen may_leave)));
  }

  -- at the end all are
  pub all_front : (shards rest : List (OfficeShardRecord D G)) (racks : List (Rack D G)) (diaries : List (List Frame))
      (taken : AreTaken shards rest racks diaries) → rest ≡ [] → taken.front ≡ shards
  all_front shards rest racks diaries taken none =
      sym (taken.parts ∙ ap (λ (l : List (OfficeShardRecord D G)). taken.front ++ reverse l) none
      ∙ append-nil taken.front)

  -- ---- what is left of a shard

  abbrev left_shard : (D → ℕ) → (G → ℕ) → OfficeShardRecord D G → LeftShard D G
  left_shard disk_faults ring_faults s = record {
    post = post_of s;
    diary = s.shard.written.diary;
    loose = s.shard.written.loose;
    disk = disk_faults s.shard.written.journal.disk;
    ring = ring_faults s.shard.ring;
  }

  pub shard_left : (disk_faults : D → ℕ) (ring_faults : G → ℕ) (o : OfficeRecord) (k : ℕ) (v : Knows D G)
      (shards : List (OfficeShardRecord D G)) (racks : List (Rack D G)) (diaries : List (List Frame))
      (s : OfficeShardRecord D G) → IsPostIn o k (post_at k v) → slice_get shards k ≡ Some s
      → HandedOut post_of (λ x. x.shard.written.diary) (λ x. is_some x.shard.written.loose)
      (λ x. disk_faults x.shard.written.journal.disk) (λ x. ring_faults x.shard.ring) (opened_at k v) (mark_at k v) s
      → racks ≡ map rack_of shards → diaries ≡ map (λ (x : OfficeShardRecord D G). x.shard.written.diary) shards
      → All (IsAtPost tells keys seen may_leave) shards
      → IsLeft tells seen disk_faults keys ring_faults k v racks diaries
  shard_left disk_faults ring_faults o k v shards racks diaries s posts there handed racks_are diaries_are at_posts =
      let post = all_at (IsAtPost tells keys seen may_leave) shards k s at_posts there in
      let in_office : IsPostIn o k (Some (post_of s)) = subst (IsPostIn o k) handed.same posts in
      let number : s.number ≡ k = in_office.2 in
      record {
        rack = rack_of s;
        rack_is = ap (λ (l : List (Rack D G)). slice_get l k) racks_are ∙ get_map rack_of shards k s there;
        shard = left_shard disk_faults ring_faults s;
        diary_is = ap (λ (l : List (List Frame)). slice_get l k) diaries_are
            ∙ get_map (λ (x : OfficeShardRecord D G). x.shard.written.diary) shards k s there;
        disk_is = refl;
        ring_is = refl;
        keys_are = post.ring;
        told = post.disk;
        number_is = number;
        handed = record {
          same = handed.same;
          begins = handed.begins;
          grown = handed.grown;
          once = handed.once;
          within = handed.within;
          made = handed.made;
          disks = handed.disks;
          rings = handed.rings;
        };
        legal = post.order.legal.dropped;
        own = subst (λ (n : ℕ). All (IsOfShard n) s.shard.written.diary) number post.order.own;
        on_disk = λ told. (post.order.on_disk told).now;
      }
