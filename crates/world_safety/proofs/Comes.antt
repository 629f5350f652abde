-- What an event brings to a shard was sent, or it is honest.
use Rattle.std.proofs.Common.{◌≡◌, inl, inr, ℕ, ◌-◌, ◌==◌, Bool, true, false, cond, List, Option, Some, None, refl, sym, subst}
use Rattle.std.specs.Prelude.{slice_get}
use Rattle.std.specs.Option.{option_or}
use Rattle.ebl_base.specs.declared.checksum.Checksum.{Checksum}
use Rattle.ebl_base.specs.declared.moment.Moment.{Moment}
use Rattle.ebl_base.specs.declared.party.Party.{Party}
use Rattle.ebl_base.specs.declared.platform_code.PlatformCode.{PlatformCode}
use Rattle.signed_envelope.specs.KeyRing.{Keys}
use Rattle.signed_envelope.specs.SignedText.{IsSigned}
use Rattle.party_roster.specs.RosterRecord.{RosterRecord, has_platform}
use Rattle.platform_requests.specs.Request.{RequestRecord}
use Rattle.platform_requests.specs.Request as requests
use Rattle.holder_commands.specs.Command as commands
use Rattle.closed_family.specs.Chains.{IsAmong}
use Rattle.world_script.specs.Event.{DeedRecord, EventRecord, ForeignRecord}
use Rattle.world_script.specs.Event as events
use Rattle.answer_lines.specs.declared.parcel.Parcel.{Parcel}
use Rattle.answer_lines.specs.declared.parcel.Content.{Content}
use Rattle.answer_lines.specs.declared.parcel.Content.TheVariants as contents
use Rattle.platform_world.specs.World.{WorldRecord}
use Rattle.world_events.specs.Happening.{Asking, Happening, asked, asks, at_command, at_delivery, at_foreign, at_show, bill_named, comes_to, delivered_to, numbered, on_bill, request_in}
use Rattle.run_safety.specs.Network.{Sent, sent_start, sent_reply}
use Rattle.run_safety.specs.Steady.{Rings}
use Rattle.run_safety.specs.Honest.{Comes, IsHonestBody, IsHonestReply, IsSignedByListed}
use Rattle.world_safety.specs.Safety.{AreHonestBytes, IsHonestEvent}
use Rattle.world_safety.specs.Worlds.{rings_of, sent_by, sent_in}
use Rattle.world_safety.proofs.Sent.{from_parcels, got_among}

-- ---- who is asked

-- what is so of a request is so of the one that is asked
asked_so : (P : RequestRecord → Type 0) (at : PlatformCode) (now : Option Moment) (request : RequestRecord) (a : Asking)
    → asked at now request ≡ asks a → P request → P a.request
asked_so P at now request a is so =
    let same : record { at = at; now = now; request = request; sender = None } ≡ a = cc is in
    subst (λ (x : Asking). P x.request) same so

on_bill_so : (P : RequestRecord → Type 0) (o : Option Checksum) (f : Checksum → Happening) (a : Asking)
    → on_bill o f ≡ asks a → ((name : Checksum) → f name ≡ asks a → P a.request) → P a.request
on_bill_so P None f a is each = cc is
on_bill_so P (Some name) f a is each = each name is

-- ---- parcels

number_among : (number : ℕ) (sent : List Parcel) (parcel : Parcel) → numbered number sent ≡ Some parcel
    → IsAmong parcel sent
number_among number sent parcel is = on_test (number == 0) is
  where
    on_test : (none : Bool) → cond none None (slice_get sent (number - 1)) ≡ Some parcel → IsAmong parcel sent
    on_test true found = cc found
    on_test false found = got_among sent (number - 1) parcel found

module _ (roster : RosterRecord) (rings : Rings) (w : WorldRecord) where
  parcel_comes : (parcel : Parcel) → IsAmong parcel w.sent
      → Comes roster rings (sent_by w) (request_in parcel.bill parcel.content)
  parcel_comes parcel among = by_content parcel.content refl
    where
      there : (c : Content) → parcel.content ≡ c → (s : Sent) → IsAmong s (sent_in parcel.from c)
          → IsAmong s (sent_by w)
      there c is s it =
          from_parcels w.sent parcel s among (subst (λ (x : Content). IsAmong s (sent_in parcel.from x)) (sym is) it)

      by_content : (c : Content) → parcel.content ≡ c → Comes roster rings (sent_by w) (request_in parcel.bill c)
      by_content (contents.Start body) is =
          inl (parcel.from, there (contents.Start body) is (sent_start parcel.from body) (inl refl))
      by_content (contents.StartReply bytes) is =
          inl (parcel.from, there (contents.StartReply bytes) is (sent_reply parcel.from bytes) (inl refl))
      by_content (contents.FinishReply bytes) is =
          inl (parcel.from, there (contents.FinishReply bytes) is (sent_reply parcel.from bytes) (inl refl))
      by_content (contents.Put reference checksum bytes) is = tt
      by_content (contents.Finish reference) is = tt

  delivery_comes : (at : Option PlatformCode) (o : Option Parcel) → ((parcel : Parcel) → o ≡ Some parcel → IsAmong parcel w.sent)
      → (a : Asking) → at_delivery at o ≡ asks a → Comes roster rings (sent_by w) a.request
  delivery_comes at None each a is = cc is
  delivery_comes at (Some parcel) each a is = on_place (option_or at parcel.to) is
    where
      on_place : (to : Option PlatformCode) → delivered_to to parcel ≡ asks a → Comes roster rings (sent_by w) a.request
      on_place None no_place = cc no_place
      on_place (Some q) goes =
          let same : record {
            at = q;
            now = None;
            request = request_in parcel.bill parcel.content;
            sender = Some (record { platform = parcel.from; bill = parcel.bill });
          } ≡ a = cc goes in
          subst (λ (x : Asking). Comes roster rings (sent_by w) x.request) same
          (parcel_comes parcel (each parcel refl))

  -- ---- texts from outside

  module _ (same_roster : w.roster ≡ roster) (same_keys : (p : PlatformCode) (i : ℕ) → rings_of w p i ≡ rings p i) where
    signed_as : (most : ℕ) (text : List ℕ) → IsSignedByListed roster rings most text
        → IsSignedByListed w.roster (rings_of w) most text
    signed_as most text x = record {
      who = x.who;
      listed = subst (λ (r : RosterRecord). has_platform r x.who ≡ true) (sym same_roster) x.listed;
      p = x.p;
      i = x.i;
      value = x.value;
      signed = subst (λ (k : Keys). IsSigned k most text x.who x.value) (sym (same_keys x.p x.i)) x.signed;
    }

    honest_body : (body : List ℕ) → IsHonestBody w.roster (rings_of w) (sent_by w) body
        → IsHonestBody roster rings (sent_by w) body
    honest_body body honest = λ parts reads text among x. honest parts reads text among (signed_as 16384 text.0 x)

    honest_reply : (bytes : List ℕ) → IsHonestReply w.roster (rings_of w) (sent_by w) bytes
        → IsHonestReply roster rings (sent_by w) bytes
    honest_reply bytes honest = λ x. honest (signed_as 65536 bytes x)

    foreign_comes : (at : PlatformCode) (bytes : ForeignRecord) → AreHonestBytes w bytes → (a : Asking)
        → at_foreign w.signed at bytes ≡ asks a → Comes roster rings (sent_by w) a.request
    foreign_comes at (events.starts body) honest a is =
        asked_so (Comes roster rings (sent_by w)) at None (requests.starts body) a is (inr (honest_body body honest))
    foreign_comes at (events.puts reference checksum bytes) honest a is =
        asked_so (Comes roster rings (sent_by w)) at None (requests.puts reference checksum bytes) a is tt
    foreign_comes at (events.finishes reference) honest a is =
        asked_so (Comes roster rings (sent_by w)) at None (requests.finishes reference) a is tt
    foreign_comes at (events.start_replies bill text) honest a is =
        on_bill_so (Comes roster rings (sent_by w)) (bill_named w.signed bill)
        (λ name. asked at None (requests.start_replies name text)) a is
        (λ name here. asked_so (Comes roster rings (sent_by w)) at None (requests.start_replies name text) a here
        (inr (honest_reply text honest)))
    foreign_comes at (events.finish_replies bill text) honest a is =
        on_bill_so (Comes roster rings (sent_by w)) (bill_named w.signed bill)
        (λ name. asked at None (requests.finish_replies name text)) a is
        (λ name here. asked_so (Comes roster rings (sent_by w)) at None (requests.finish_replies name text) a here
        (inr (honest_reply text honest)))

    command_comes : (at : PlatformCode) (party : Party) (now : Moment) (deed : DeedRecord) (a : Asking)
        → at_command w.signed at party now deed ≡ asks a → Comes roster rings (sent_by w) a.request
    command_comes at party now (events.signs document) a is =
        asked_so (Comes roster rings (sent_by w)) at (Some now) (requests.commands party (commands.signs document)) a is tt
    command_comes at party now (events.acts bill kind recipient) a is =
        on_bill_so (Comes roster rings (sent_by w)) (bill_named w.signed bill)
        (λ name. asked at (Some now) (requests.commands party (commands.acts name kind recipient))) a is
        (λ name here. asked_so (Comes roster rings (sent_by w)) at (Some now)
        (requests.commands party (commands.acts name kind recipient)) a here tt)
    command_comes at party now (events.attaches bill name media bytes) a is =
        on_bill_so (Comes roster rings (sent_by w)) (bill_named w.signed bill)
        (λ checksum. asked at (Some now) (requests.commands party (commands.attaches checksum name media bytes))) a is
        (λ checksum here. asked_so (Comes roster rings (sent_by w)) at (Some now)
        (requests.commands party (commands.attaches checksum name media bytes)) a here tt)

    show_comes : (o : Option Parcel) (a : Asking) → at_show o ≡ asks a → Comes roster rings (sent_by w) a.request
    show_comes None a is = cc is
    show_comes (Some parcel) a is = cc is

    pub event_comes : (event : EventRecord) → IsHonestEvent w event → (a : Asking)
        → comes_to w.signed w.sent event ≡ asks a → Comes roster rings (sent_by w) a.request
    event_comes (events.commands at party now deed) honest a is = command_comes at party now deed a is
    event_comes (events.delivers number at) honest a is =
        delivery_comes at (numbered number w.sent) (λ parcel found. number_among number w.sent parcel found) a is
    event_comes (events.restarts at) honest a is = cc is
    event_comes (events.resends at bill) honest a is =
        on_bill_so (Comes roster rings (sent_by w)) (bill_named w.signed bill)
        (λ name. asked at None (requests.resends name)) a is
        (λ name here. asked_so (Comes roster rings (sent_by w)) at None (requests.resends name) a here tt)
    event_comes (events.asks at bill) honest a is =
        on_bill_so (Comes roster rings (sent_by w)) (bill_named w.signed bill)
        (λ name. asked at None (requests.asks name)) a is
        (λ name here. asked_so (Comes roster rings (sent_by w)) at None (requests.asks name) a here tt)
    event_comes (events.receives at bytes) honest a is = foreign_comes at bytes honest a is
    event_comes (events.shows number) honest a is = show_comes (numbered number w.sent) a is
