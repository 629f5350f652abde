-- What a step owes at a party's command.
use Rattle.std.proofs.Common.{◌≡◌, ◌⊎◌, inl, inr, ℕ, true, false, List, [], ◌∷◌, ◌++◌, Option, Some, None, Ok, Err, refl, sym, subst}
use Rattle.ebl_base.specs.declared.checksum.Checksum.{Checksum}
use Rattle.ebl_base.specs.declared.chain.ChainLink.{ChainLink}
use Rattle.ebl_base.specs.declared.kind.Kind.TheVariants.{Sign}
use Rattle.ebl_base.specs.declared.moment.Moment.{Moment}
use Rattle.ebl_base.specs.declared.party.Party.{Party}
use Rattle.ebl_base.specs.declared.platform_code.PlatformCode.{PlatformCode}
use Rattle.ebl_base.specs.declared.signed_text.SignedText.{SignedText}
use Rattle.ebl_base.specs.declared.transaction.Transaction.{Transaction}
use Rattle.party_roster.specs.RosterRecord.{RosterRecord, carrier}
use Rattle.title_fold.specs.Movement.{moves}
use Rattle.transport_document.specs.DocumentRecord.{DocumentRecord, bill_of}
use Rattle.transport_document.specs.Reading.{document_of}
use Rattle.envelope_manifest.specs.declared.manifest.Manifest.{Manifest}
use Rattle.envelope_manifest.specs.declared.piece.Piece.{Piece}
use Rattle.holder_commands.specs.Command.{CommandRecord, signs, acts, attaches}
use Rattle.platform_requests.specs.declared.message.Message.TheVariants.{Start}
use Rattle.platform_requests.specs.declared.reply.Reply.TheVariants as replies
use Rattle.bill_diary.specs.declared.record.Record.{Record}
use Rattle.bill_diary.specs.declared.record.Record.TheVariants.{Signed, Acted, Attached, Parted}
use Rattle.bill_diary.specs.declared.frame.Frame.{Frame}
use Rattle.bill_diary.specs.declared.frame.Frame.TheVariants.{One}
use Rattle.bill_diary.specs.declared.bill_place.BillPlace.{BillPlace}
use Rattle.bill_diary.specs.declared.bill_place.BillPlace.TheVariants.{Held}
use Rattle.bill_diary.specs.History as histories
use Rattle.bill_diary.specs.History.{history, newest_first, of_bill}
use Rattle.bill_diary.specs.Place.{chain_at, place_of}
use Rattle.bill_diary.specs.Sound.{MayPart}
use Rattle.bill_diary.specs.Texts.{IsCompactText, LinksAreTheirTexts, LinkIsItsText}
use Rattle.bill_diary.proofs.HistoryLemmas.{history_of_sound, newest_first-append}
use Rattle.bill_diary.proofs.TextLemmas.{chain_at_texts}
use Rattle.transfer_judge.specs.Legal.{IsLegal}
use Rattle.transfer_judge.specs.Plan.{Plan, plan_of, transaction_by}
use Rattle.transfer_judge.specs.declared.planned.Planned.TheVariants.{Nothing, Add, Part}
use Rattle.transfer_judge.specs.declared.planned.PlanRefusal.{PlanRefusal}
use Rattle.transfer_judge.specs.declared.planned.PlanRefusal.TheVariants as refusals
use Rattle.transfer_judge.proofs.LegalLemmas.{legal_is_sound}
use Rattle.transfer_judge.proofs.PlanLemmas.{Attaches, IsAttached, IsPlanned, Moves, Stays, act_planned, attach_planned, one_planned, past_absent, past_carrier, past_document, past_ours}
use Rattle.platform_machine.specs.declared.step.Step.{Step}
use Rattle.platform_machine.specs.Commanding.{FollowsPlan, IsThere, PartsWith, StepsAtCommand, manifest_for, reply_to}
use Rattle.platform_machine.specs.Step.{view_of, with_frame}
use Rattle.platform_machine.specs.Transfer.{SendsStart}
use Rattle.closed_family.specs.declared.family.Member.{Member}
use Rattle.closed_family.specs.Chains.{IsAmong}
use Rattle.closed_family.specs.Family.{histories_of}
use Rattle.run_safety.specs.Network.{Network, sent_start}
use Rattle.run_safety.specs.Steady.{FrameIsMet, HasCause, Rings}
use Rattle.run_safety.proofs.Diaries.{among_own}
use Rattle.run_safety.proofs.Hearing.{held_came}
use Rattle.run_safety.proofs.Heard.{came_parted, own_sound, owes_done, start_caused, the_start}
use Rattle.run_safety.proofs.Judged.{Becomes, IsAtShard, one_is_met, own_place}
use Rattle.run_safety.proofs.Links.{follows_among, record_parted}
use Rattle.run_safety.proofs.Needs.{every_parted_later}
use Rattle.run_safety.proofs.Owed.{HasNoText, Owes, met_by, no_text, owes_only}

-- ---- refusals

refusal_has_no_text : (refusal : PlanRefusal) → HasNoText (reply_to refusal)
refusal_has_no_text refusals.NotOurs bytes text = text
refusal_has_no_text (refusals.Document fault) bytes text = text
refusal_has_no_text refusals.NotCarrier bytes text = text
refusal_has_no_text refusals.KnownBill bytes text = text
refusal_has_no_text (refusals.NotHere place) bytes text = text
refusal_has_no_text (refusals.NoParty party) bytes text = text
refusal_has_no_text (refusals.NotAllowed rule) bytes text = text
refusal_has_no_text (refusals.Limit limit) bytes text = text
refusal_has_no_text refusals.NoMemory bytes text = text

-- ---- one record

-- the record that a command adds
abbrev pub IsOwnRecord : CommandRecord → Record → Type 0
IsOwnRecord (signs value) r =
    (document : DocumentRecord) × (t : Transaction) × (document_of value ≡ Ok document)
    × (r ≡ Signed (bill_of document) document.text t)
IsOwnRecord (acts bill kind recipient) r = (t : Transaction) × (r ≡ Acted bill t)
IsOwnRecord (attaches bill name media bytes) r = (piece : Piece) × (r ≡ Attached bill piece bytes)

added : (a r : Record) → Add a ≡ Add r → r ≡ a
added a r is = cc is

pub own_record : (roster : RosterRecord) (me : PlatformCode) (rs : List Record) (party : Party)
    (command : CommandRecord) (now : Moment) (r : Record) → plan_of roster me rs party command now ≡ Ok (Add r)
    → IsOwnRecord command r
own_record roster me rs party (signs value) now r is =
    let (ours, is1) = past_ours me party _ (Add r) is in
    let (document, read, is2) = past_document (document_of value) _ (Add r) is1 in
    let (by, is3) = past_carrier (carrier roster document.provider document.code) party _ (Add r) is2 in
    let (absent, is4) = past_absent (place_of (of_bill (bill_of document) rs)) _ (Add r) is3 in
    let t = transaction_by party now Sign None in (
      document,
      t,
      read,
      added (Signed (bill_of document) document.text t) r
          (one_planned (Add (Signed (bill_of document) document.text t)) (Add r)
          (Ok (Add (Signed (bill_of document) document.text t))) refl is4),
    )
own_record roster me rs party (acts bill kind recipient) now r is =
    let (ours, is1) = past_ours me party _ (Add r) is in
    let t = transaction_by party now kind recipient in
    let planned : IsPlanned roster me (of_bill bill rs) bill t (Add r)
    = act_planned roster me (of_bill bill rs) bill t (Add r) is1 in
    on_comes t planned planned.comes
  where
    on_comes : (t : Transaction) (x : IsPlanned roster me (of_bill bill rs) bill t (Add r))
        → ((moves x.before x.after ≡ true) × Moves me (of_bill bill rs) bill t x.known x.since x.after (Add r))
        ⊎ ((moves x.before x.after ≡ false) × Stays bill t x.since (Add r))
        → (u : Transaction) × (r ≡ Acted bill u)
    on_comes t x (inl (moved, (few, room, is_part))) = cc is_part
    on_comes t x (inr (stays, (room, is_add))) = (t, added (Acted bill t) r is_add)
own_record roster me rs party (attaches bill name media bytes) now r is =
    let (ours, is1) = past_ours me party _ (Add r) is in
    let x : IsAttached (of_bill bill rs) bill party name media bytes (Add r)
    = attach_planned (of_bill bill rs) bill party name media bytes (Add r) is1 in
    on_comes x.comes
  where
    on_comes : Attaches bill (of_bill bill rs) name media bytes (Add r)
        → (piece : Piece) × (r ≡ Attached bill piece bytes)
    on_comes (inl (listed, is_nothing)) = cc is_nothing
    on_comes (inr (new, few, room, is_add)) = (_, added (Attached bill _ bytes) r is_add)

module _ (roster : RosterRecord) (rings : Rings) (n : Network) (p : PlatformCode) (i : ℕ) (d : List Frame)
    (at : IsAtShard roster rings n p i d) where
  own_is_met : (command : CommandRecord) (r : Record) → IsOwnRecord command r → FrameIsMet n.family p (One r)
  own_is_met (signs value) r (document, t, read, is) =
      subst (λ (x : Record). FrameIsMet n.family p (One x)) (sym is)
      (one_is_met roster rings n p i d at (Signed (bill_of document) document.text t) tt)
  own_is_met (acts bill kind recipient) r (t, is) =
      subst (λ (x : Record). FrameIsMet n.family p (One x)) (sym is)
      (one_is_met roster rings n p i d at (Acted bill t) tt)
  own_is_met (attaches bill name media bytes) r (piece, is) =
      subst (λ (x : Record). FrameIsMet n.family p (One x)) (sym is)
      (one_is_met roster rings n p i d at (Attached bill piece bytes) tt)

  -- ---- an entry that parts

  links_with : (K : List ChainLink) (e : ChainLink) → LinksAreTheirTexts K → LinkIsItsText e
      → LinksAreTheirTexts (K ++ e ∷ [])
  links_with [] e are is = (is, tt)
  links_with (x ∷ K) e are is = (are.0, links_with K e are.1 is)

  -- in the diary with the frame, the record follows as a Parted does
  record ParsedAs (link : ChainLink) (text : SignedText) : Type 0 where
    link_is : LinkIsItsText link
    compact : IsCompactText text

  parted_follows : (bill : Checksum) (link : ChainLink) (manifest : Manifest) (text : SignedText)
      → IsLegal roster (rings p i) p (with_frame d (Some (One (Parted bill link manifest text))))
      → ParsedAs link text
  parted_follows bill link manifest text legal =
      let r : Record = Parted bill link manifest text in
      let longer : List Frame = d ++ One r ∷ [] in
      let among : IsAmong r (newest_first longer)
      = subst (IsAmong r) (sym (newest_first-append d (One r ∷ []))) (inl refl) in
      let (older, follows) = follows_among p (history bill longer) r
      (history_of_sound p longer bill (legal_is_sound roster (rings p i) p longer legal))
      (among_own (newest_first longer) r among) in
      let may : MayPart p older bill link manifest text = follows in
      record {
        link_is = may.link_is;
        compact = (may.manifest_is.has_payload.parts, may.manifest_is.has_payload.compact);
      }

  parts_owes : (link : ChainLink) (manifest : Manifest) (text : SignedText) (to : PlatformCode) (step : Step)
      → IsLegal roster (rings p i) p (with_frame d step.frame) → PartsWith d link manifest text to step → Owes n p step
  parts_owes link manifest text to step legal parts = record {
    met = met_by n p step.frame (Some (One r)) parts.done.frame_is (one_is_met roster rings n p i d at r tt);
    starts = λ after becomes to1 b body among.
        subst (λ (x : List ℕ). HasCause after (sent_start p x))
        (the_start to manifest.bill sends.body parts.sent sends.sent_is to1 b body
        (subst (IsAmong (Start to1 b body)) parts.done.messages_are among))
        (caused after becomes);
    replies = λ after becomes bytes reply.
        absurd (no_text step.reply (replies.Done (view_of manifest.bill (with_frame d (Some (One r))))) parts.done.reply_is
        (λ x y. y) bytes reply);
  }
    where
      r : Record
      r = Parted manifest.bill link manifest text

      sends : SendsStart manifest.bill (history manifest.bill d) (parts.sends.known ++ link ∷ []) text to parts.sent
      sends = parts.sends.sends

      made : ParsedAs link text
      made = parted_follows manifest.bill link manifest text
          (subst (λ (f : Option Frame). IsLegal roster (rings p i) p (with_frame d f)) parts.done.frame_is legal)

      known_texts : LinksAreTheirTexts parts.sends.known
      known_texts =
          subst (λ (place : BillPlace). LinksAreTheirTexts (chain_at place)) parts.sends.held
          (chain_at_texts p (history manifest.bill d) (own_sound roster rings n p i d at manifest.bill))

      caused : (after : List Member) → Becomes n p step.frame after → HasCause after (sent_start p sends.body)
      caused after becomes =
          let came = held_came roster rings n at.steady at.grounds at.distinct manifest.bill p parts.sends.known
          parts.sends.since
          (own_place roster rings n p i d at manifest.bill (Held parts.sends.known parts.sends.since)
          (λ no_way. cc no_way) parts.sends.held) in
          start_caused after p (history manifest.bill d) manifest.bill p parts.sends.known link text sends.body
          (own_sound roster rings n p i d at manifest.bill)
          (links_with parts.sends.known link known_texts made.link_is) made.compact sends.body_is
          (every_parted_later (histories_of manifest.bill n.family) (histories_of manifest.bill after)
          (λ q. ((becomes.later manifest.bill q).more, (becomes.later manifest.bill q).history_is)) parts.sends.known
          (came_parted roster rings n p i d at manifest.bill parts.sends.known came))
          (record_parted manifest.bill link manifest text (histories_of manifest.bill after p)
          (becomes.stands (One r) parts.done.frame_is r (inl refl)))

  -- ---- a command

  there_owes : (command : CommandRecord) (step : Step) → IsThere d command step → Owes n p step
  there_owes (signs value) step there = absurd there
  there_owes (acts bill kind recipient) step there = absurd there
  there_owes (attaches bill name media bytes) step there =
      owes_done n p step bill d None [] there tt (λ to b body among. among)

  pub command_owes : (now : Moment) (party : Party) (command : CommandRecord) (step : Step)
      → IsLegal roster (rings p i) p (with_frame d step.frame)
      → StepsAtCommand roster (rings p i) p d now party command step → Owes n p step
  command_owes now party command step legal steps =
      on_plan (plan_of roster p (newest_first d) party command now) refl steps
    where
      on_plan : (plan : Plan) → plan_of roster p (newest_first d) party command now ≡ plan
          → FollowsPlan (rings p i) p d command plan step → Owes n p step
      on_plan (Err refusal) is only = owes_only n p step (reply_to refusal) only (refusal_has_no_text refusal)
      on_plan (Ok Nothing) is there = there_owes command step there
      on_plan (Ok (Add r)) is done =
          owes_done n p step (histories.bill_of r) d (Some (One r)) [] done
          (own_is_met command r (own_record roster p (newest_first d) party command now r is))
          (λ to b body among. among)
      on_plan (Ok (Part entry documents to)) is parted =
          parts_owes parted.link (manifest_for entry.bill parted.link.name documents) parted.manifest_text to step legal
          parted.parts
