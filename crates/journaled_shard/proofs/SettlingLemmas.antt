-- A shard whose journal was read again where it had to be.
use Rattle.std.proofs.Common.{◌≡◌, true, false, List, Option, Some, None, refl, sym, subst, ◌∙◌}
use Rattle.std.specs.Prelude.{OnErr, OnOk, Result, Ok, Err}
use Rattle.ebl_base.specs.declared.platform_code.PlatformCode.{PlatformCode}
use Rattle.signed_envelope.specs.KeyRing.{Keys}
use Rattle.party_roster.specs.RosterRecord.{RosterRecord}
use Rattle.bill_diary.specs.declared.frame.Frame.{Frame}
use Rattle.bill_journal.specs.declared.fault.OpenFault.{OpenFault}
use Rattle.journaled_shard.specs.Shard.{HasRoomWith, IsLegalWith}
use Rattle.journaled_shard.specs.Written.{IsKeptOrDropped, IsRead, IsStill, WrittenRecord}
use Rattle.journaled_shard.proofs.ShardLemmas.{found_has_room, found_legal}

-- its diary stays legal
pub settled_legal : {D : Type 0} (roster : RosterRecord) (keys : Keys) (me : PlatformCode)
    (before after : WrittenRecord D) (result : Result (Unit {0}) OpenFault)
    → OnOk result (IsKeptOrDropped before.diary before.loose after.diary) → OnOk result (IsRead after)
    → OnErr result (IsStill before after) → IsLegalWith roster keys me before.diary before.loose
    → IsLegalWith roster keys me after.diary after.loose
settled_legal roster keys me before after (Ok done) found read still legal = record {
  dropped = found_legal roster keys me before.diary after.diary before.loose found legal;
  kept = λ frame loose. let clash : None ≡ Some frame = sym read.nothing_loose ∙ loose in cc clash;
}
settled_legal roster keys me before after (Err fault) found read still legal =
    subst (λ (d : List Frame). IsLegalWith roster keys me d after.loose) (sym still.diary)
    (subst (λ (o : Option Frame). IsLegalWith roster keys me before.diary o) (sym still.loose) legal)

-- and has room
pub settled_room : {D : Type 0} (before after : WrittenRecord D) (result : Result (Unit {0}) OpenFault)
    → OnOk result (IsKeptOrDropped before.diary before.loose after.diary) → OnOk result (IsRead after)
    → OnErr result (IsStill before after) → HasRoomWith before.diary before.loose → HasRoomWith after.diary after.loose
settled_room before after (Ok done) found read still room = record {
  dropped = found_has_room before.diary after.diary before.loose found room;
  kept = λ frame loose. let clash : None ≡ Some frame = sym read.nothing_loose ∙ loose in cc clash;
}
settled_room before after (Err fault) found read still room =
    subst (λ (d : List Frame). HasRoomWith d after.loose) (sym still.diary)
    (subst (λ (o : Option Frame). HasRoomWith before.diary o) (sym still.loose) room)

-- where nothing has to be read any more, nothing is loose
pub settled_read : {D : Type 0} (before after : WrittenRecord D) (result : Result (Unit {0}) OpenFault)
    → OnOk result (IsRead after) → OnErr result (IsStill before after) → after.unread ≡ false → IsRead after
settled_read before after (Ok done) is_read still read = is_read
settled_read before after (Err fault) is_read still read = let clash : true ≡ false = sym still.unread ∙ read in cc clash
