-- Threads may share the offices, and passes may go to another thread. What crosses is shown by hand, since a shard of an
-- office has a note of its rack that no program reads.
use Prim.Native.Nat.{ℕ}
use mathlib.Core.List.{List, [], ◌∷◌}
use denote.RattleType.{RattleType}
use denote.Ref.{NamedLft}
use denote.Param.{param}
use denote.Param.Send.{IsSend, IsSync, view_send, view_sync, recorded_send, recorded_sync, struct_send, struct_sync, plain_send, sendable}
use denote.Struct.Declared as Declared
use denote.Struct.Field.{shr_ref_field, u32-field}
use denote.Struct.Tuple.{TupleAt, field_at, type_at}
use mir.Syntax.{given}
use Rattle.std.proofs.Crossing.{crosses}
use Rattle.std.specs.Prelude.{codes}
use Rattle.std.specs.contracts.option.Option as Option
use Rattle.std.proofs.option.Option.TheSendSync as option
use Rattle.std.specs.contracts.alloc.Global as Global
use Rattle.std.proofs.alloc.Global.TheSendSync as heap
use Rattle.ebl_base.proofs.platform_code.PlatformCode.TheSendSync as code
use Rattle.party_roster.proofs.roster.Roster.TheSendSync as roster
use Rattle.disk_model.specs.declared.disk.Disk as Disk
use Rattle.test_signer.specs.contracts.keyed_ring.KeyedRing as Ring
use Rattle.test_signer.specs.contracts.keyed_ring.KeyedRingKeyRing.TheImpl as rings
use Rattle.test_signer.proofs.keyed_ring.KeyedRing.TheSendSync as ring
use Rattle.journaled_shard.proofs.shard.JournaledShard.TheSendSync as journaled
use Rattle.bill_locks.proofs.turns.Turns.TheSendSync as turns
use Rattle.bill_locks.proofs.pass.Pass.TheSendSync as passes
use Rattle.bill_locks.specs.contracts.pass.Pass as Pass
use Rattle.bill_diary.specs.contracts.frame.Frame as Frame
use Rattle.platform_office.specs.contracts.post.Post as Post
use Rattle.platform_office.specs.contracts.shard.OfficeShard as Shard
use Rattle.platform_office.specs.contracts.shard.OfficeShard.TheInside as Inside
use Rattle.platform_office.specs.contracts.shard.OfficeShardGrows.TheImpl as grows
use Rattle.platform_office.specs.contracts.office.Office as Office
use Rattle.platform_office.specs.contracts.office.Office.TheInside as OfficeInside
use Rattle.office_bench.specs.contracts.offices.Offices as Offices
use Rattle.office_bench.specs.contracts.offices.Passes as Passes
use Rattle.office_bench.specs.contracts.serving.Replies as Replies
use Rattle.office_bench.proofs.serving.Replies.TheSendSync as replies
use Rattle.office_bench.specs.contracts.threads.Work as Work
use Rattle.office_bench.proofs.threads.Work.TheSendSync as work

module _ (T : RattleType) (g : Disk.Ghosts T.Denot) where
  abbrev Shards : RattleType
  Shards = Shard.the_row T Ring.the_row g rings.ghosts

  abbrev Posts : RattleType
  Posts = Post.the_row T Ring.the_row

  shard_send : IsSend T → IsSend Shards
  shard_send s = view_send (Inside.the_row T Ring.the_row g rings.ghosts) _ _ _ _
      (recorded_send (Inside.the_field T Ring.the_row g rings.ghosts).row _ _
      (Inside.the_type T Ring.the_row g rings.ghosts).to_one
      (struct_send (Declared.shape (Inside.the_type T Ring.the_row g rings.ghosts)) (
        journaled.the_send T Ring.the_row g rings.ghosts s ring.the_send,
        (plain_send _ _ _ _ _, (search crosses, tt)),
      )))

  office_sync : IsSend T → IsSync (Office.the_row T Ring.the_row g rings.ghosts)
  office_sync s = view_sync (OfficeInside.the_row T Ring.the_row g rings.ghosts) _ _ _ _
      (recorded_sync (OfficeInside.the_field T Ring.the_row g rings.ghosts).row _ _
      (OfficeInside.the_type T Ring.the_row g rings.ghosts).to_one
      (struct_sync (Declared.shape (OfficeInside.the_type T Ring.the_row g rings.ghosts)) (
        heap.the_field_sync,
        (
          code.the_field_sync,
          (
            roster.the_sync,
            (
              turns.the_sync Shards Frame.the_row Posts
                  (grows.ghosts T Ring.the_row g (given 0) rings.ghosts (given 1)) (shard_send s),
              tt,
            ),
          ),
        ),
      )))

  pass_send : IsSend T → IsSend (Pass.the_row Shards Frame.the_row Posts
      (grows.ghosts T Ring.the_row g (given 0) rings.ghosts (given 1)))
  pass_send s = passes.the_send Shards Frame.the_row Posts
      (grows.ghosts T Ring.the_row g (given 0) rings.ghosts (given 1)) (shard_send s)

  pub offices_sync : IsSend T → IsSync (Offices.the_row T g)
  offices_sync s = recorded_sync (Offices.the_field T g).row _ _ (Offices.the_type T g).to_one
      (struct_sync (Declared.shape (Offices.the_type T g)) (office_sync s, (office_sync s, tt)))

  pub passes_send : IsSend T → IsSend (Passes.the_row T g)
  passes_send s = recorded_send (Passes.the_field T g).row _ _ (Passes.the_type T g).to_one
      (struct_send (Declared.shape (Passes.the_type T g)) (pass_send s, (pass_send s, tt)))

  -- what a thread takes with it
  abbrev pub Taken : RattleType → NamedLft → NamedLft → List RattleType
  Taken R ℓ ℓ' = (shr_ref_field ℓ (param 1 R) tt).row ∷ Global.the_row ∷ (shr_ref_field ℓ' (Offices.the_row T g) tt).row
      ∷ Passes.the_row T g ∷ Work.the_row ∷ u32-field.row ∷ []

  pub taken_send : (ν : List ℕ) (R : RattleType) (ℓ ℓ' : NamedLft) → IsSync (param 1 R) → IsSend T → IsSend (TupleAt ν (Taken R ℓ ℓ'))
  taken_send ν R ℓ ℓ' r s =
      let offices = offices_sync s in
      recorded_send (field_at ν (Taken R ℓ ℓ')).row _ _ (type_at ν (Taken R ℓ ℓ')).to_one
      (struct_send (Declared.shape (type_at ν (Taken R ℓ ℓ'))) (
        search (sendable, r),
        (
          heap.the_send,
          (
            search (sendable, offices),
            (
              passes_send s,
              (
                work.the_send,
                (plain_send _ _ _ _ _, tt),
              ),
            ),
          ),
        ),
      ))

  -- what it gives back
  abbrev pub Given : RattleType
  Given = TupleAt (codes "(,)") (Passes.the_row T g ∷ Replies.the_row ∷ [])

  pub given_send : IsSend T → IsSend (Option.the_row Given)
  given_send s =
      let Ts : List RattleType = Passes.the_row T g ∷ Replies.the_row ∷ [] in
      option.the_send Given (recorded_send (field_at (codes "(,)") Ts).row _ _ (type_at (codes "(,)") Ts).to_one
      (struct_send (Declared.shape (type_at (codes "(,)") Ts)) (passes_send s, (replies.the_send, tt))))
