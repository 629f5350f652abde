-- The bill of the frame is kept as with it, and the frame's number stands under its keys; all else is as before.
use Rattle.std.proofs.Common.{◌≡◌, ◌∷◌, [], ◌++◌, List, Some, arith, length, sym, ap, subst, ◌∙◌}
use Rattle.bill_diary.specs.declared.frame.Frame.{Frame}
use Rattle.bill_diary.specs.History.{history}
use Rattle.title_register.specs.declared.room.Room.{Room}
use Rattle.title_register.specs.BillState.{state_of}
use Rattle.title_register.specs.Frames.{number_of}
use Rattle.title_register.specs.Register.{IsRoomFor, Registered, frames_in, room_in}
use Rattle.title_register.proofs.AddLemmas.{numbers_put, one_room, states_more}
use Rattle.title_register.proofs.register.Register.add.Goals as goal

pub invariant_of-self : goal.invariant_of-self
invariant_of-self c =
    let frame = c.args.frame in
    let reserved = c.in-Some.reserved in
    let room = reserved.room in
    let diary = reserved.frames.items in
    let reserved_is : c.self.inside.reserved ≡ Some reserved = sym c.take.ensures.value ∙ c.in-Some.is in
    let diary_is : frames_in c.self.inside.diary c.self.inside.reserved ≡ diary =
    ap (frames_in c.self.inside.diary) reserved_is in
    let same : c.requires.room ≡ room =
    one_room (sym c.requires.room_is ∙ sym (ap (λ (r : Registered). r.room) c.self.view_is)
    ∙ ap room_in reserved_is) in
    let is_for : IsRoomFor frame diary room =
    subst (λ (d : List Frame). IsRoomFor frame d room)
    (sym (ap (λ (r : Registered). r.diary) c.self.view_is) ∙ diary_is)
    (subst (λ (r : Room). IsRoomFor frame c.args.self.now.diary r) same c.requires.is_for) in
    let number_is : c.len-number.result ≡ length diary = omega arith in
    let more : diary ++ frame ∷ [] ≡ frames_in c.from_vec.result c.take.new.self =
    sym (ap (frames_in c.from_vec.result) c.take.ensures.after ∙ c.from_vec.ensures ∙ c.push_reserved.ensures.items) in
    record {
      states = λ q.
          states_more diary frame c.self.inside.bills c.put-4.new.bills room
          (λ b. c.self.invariant.states b ∙ ap (λ (d : List Frame). state_of (history b d)) diary_is) is_for
          c.put-4.ensures q
          ∙ ap (λ (d : List Frame). state_of (history q d)) more;
      numbers_are = λ k.
          numbers_put diary frame room c.self.inside.numbers c.put.new.self c.put-2.new.self
          c.put-3.new.self c.len-number.result number_is
          (λ q. c.self.invariant.numbers_are q ∙ ap (λ (d : List Frame). number_of q d) diary_is) is_for
          c.put.ensures.numbers c.put-2.ensures.numbers c.put-3.ensures.numbers k
          ∙ ap (λ (d : List Frame). number_of k d) more;
      bill_room = rw c.take.ensures.after tt;
      kept_room = rw c.take.ensures.after tt;
      came_room = rw c.take.ensures.after tt;
      taken_room = rw c.take.ensures.after tt;
      space = rw c.take.ensures.after tt;
    }
