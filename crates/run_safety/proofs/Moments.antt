-- Later moments of a run: each history goes on.
use Rattle.std.proofs.Common.{inl, inr, List, [], ◌++◌, Option, Some, None, refl, sym, ap, subst, ◌∙◌}
use Rattle.std.proofs.lemmas.List.{append_assoc}
use Rattle.party_roster.specs.RosterRecord.{RosterRecord}
use Rattle.bill_diary.specs.declared.record.Record.{Record}
use Rattle.bill_diary.specs.declared.frame.Frame.{Frame}
use Rattle.closed_family.specs.declared.family.Member.{Member}
use Rattle.closed_family.specs.Later.{IsLaterThan}
use Rattle.run_safety.specs.Network.{Network, written}
use Rattle.run_safety.specs.Run.{Happens, LeadsTo, Reaches, after_event, and_on, at_once}
use Rattle.run_safety.specs.Steady.{Rings}
use Rattle.run_safety.proofs.Longer.{longer_is_later}

same_is_later : (family : List Member) → IsLaterThan family family
same_is_later family bill p = record { more = []; history_is = refl }

later_still : (a b c : List Member) → IsLaterThan a b → IsLaterThan b c → IsLaterThan a c
later_still a b c first second bill p =
    let one = first bill p in
    let two = second bill p in
    record {
      more = two.more ++ one.more;
      history_is = two.history_is ∙ ap (λ (h : List Record). two.more ++ h) one.history_is
          ∙ sym (append_assoc two.more one.more _);
    }

event_is_later : (roster : RosterRecord) (rings : Rings) (before after : Network) → Happens roster rings before after
    → IsLaterThan before.family after.family
event_is_later roster rings before after (inl w) =
    subst (IsLaterThan before.family) (sym w.family_is) (on_frame w.asked.step.frame)
  where
    on_frame : (o : Option Frame) → IsLaterThan before.family (written w.asked.p w.asked.i o before.family)
    on_frame None = same_is_later before.family
    on_frame (Some frame) =
        longer_is_later w.asked.p w.asked.i frame before.family w.asked.diary w.asked.has_diary
event_is_later roster rings before after (inr (inl w)) =
    subst (IsLaterThan before.family) (sym w.family_is) (same_is_later before.family)
event_is_later roster rings before after (inr (inr (inl w))) =
    subst (IsLaterThan before.family) (sym w.family_is)
    (longer_is_later w.p w.i w.frame before.family w.diary w.has_diary)
event_is_later roster rings before after (inr (inr (inr w))) =
    subst (IsLaterThan before.family) (sym w.family_is) (same_is_later before.family)

pub leads_later : (roster : RosterRecord) (rings : Rings) (n later : Network) → LeadsTo roster rings n later
    → IsLaterThan n.family later.family
leads_later roster rings n later at_once = same_is_later n.family
leads_later roster rings n later (and_on before after leads happens) =
    later_still n.family before.family after.family (leads_later roster rings n before leads)
    (event_is_later roster rings before after happens)

pub leads_reached : (roster : RosterRecord) (rings : Rings) (n later : Network) → Reaches roster rings n
    → LeadsTo roster rings n later → Reaches roster rings later
leads_reached roster rings n later reached at_once = reached
leads_reached roster rings n later reached (and_on before after leads happens) =
    after_event before after (leads_reached roster rings n before reached leads) happens
