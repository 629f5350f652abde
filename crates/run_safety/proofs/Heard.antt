-- What a step owes at the replies of other platforms, at a start that is sent again, and at a question.
use Rattle.std.proofs.Common.{◌≡◌, ◌⊎◌, inl, inr, ℕ, Bool, true, false, cond, List, [], ◌∷◌, ◌++◌, Option, Some, None, sym, ap, subst, ◌∙◌}
use Rattle.std.specs.Prelude.{IfSome, option_map}
use Rattle.std.specs.List.{flat_map}
use Rattle.std.specs.Option.{option_to_list}
use Rattle.std.specs.Set.{is_member}
use Rattle.ebl_base.specs.Checksum.{checksum_eq}
use Rattle.ebl_base.specs.declared.checksum.Checksum.{Checksum}
use Rattle.ebl_base.specs.declared.chain.ChainLink.{ChainLink}
use Rattle.ebl_base.specs.declared.platform_code.PlatformCode.{PlatformCode}
use Rattle.ebl_base.specs.declared.signed_text.SignedText.{SignedText}
use Rattle.party_roster.specs.RosterRecord.{RosterRecord}
use Rattle.envelope_manifest.specs.Body.{BodyRecord}
use Rattle.envelope_manifest.specs.declared.piece.Piece.{Piece}
use Rattle.envelope_manifest.proofs.WholeBodies.{body_once}
use Rattle.platform_requests.specs.declared.message.Message.{Message}
use Rattle.platform_requests.specs.declared.message.Message.TheVariants.{Start, Put, Finish}
use Rattle.platform_requests.specs.declared.reply.Reply.TheVariants as replies
use Rattle.bill_chain.specs.Chain.{destination}
use Rattle.transfer_chain.specs.Checked.{texts_of}
use Rattle.bill_diary.specs.declared.record.Record.{Record}
use Rattle.bill_diary.specs.declared.record.Record.TheVariants.{Parted, Settled, Regained}
use Rattle.bill_diary.specs.declared.frame.Frame.{Frame}
use Rattle.bill_diary.specs.declared.frame.Frame.TheVariants.{One}
use Rattle.bill_diary.specs.declared.bill_place.BillPlace.{BillPlace}
use Rattle.bill_diary.specs.declared.bill_place.BillPlace.TheVariants.{Parting}
use Rattle.bill_diary.specs.History.{history}
use Rattle.bill_diary.specs.Place.{chain_at, place_of, tag_of, taken_chains}
use Rattle.bill_diary.specs.Searches.{first_bytes}
use Rattle.bill_diary.specs.Sound.{IsSoundHistory, MayPart, is_parted}
use Rattle.bill_diary.specs.Texts.{IsCompactText, LinksAreTheirTexts}
use Rattle.bill_diary.proofs.HistoryLemmas.{history_of_sound}
use Rattle.bill_diary.proofs.TextLemmas.{chain_at_texts}
use Rattle.transfer_judge.proofs.LegalLemmas.{legal_is_sound}
use Rattle.platform_machine.specs.declared.ending.Ending.{Ending}
use Rattle.platform_machine.specs.declared.ending.Ending.TheVariants as endings
use Rattle.platform_machine.specs.declared.step.Step.{Step}
use Rattle.platform_machine.specs.Hearing.{EndsBy, StepsAtAnswer, StepsAtStartReply, record_for}
use Rattle.platform_machine.specs.Machine.{StepsAtAsk, StepsAtResend}
use Rattle.platform_machine.specs.Step.{IsDone, view_of, with_frame}
use Rattle.platform_machine.specs.Transfer.{IsStartBody, IsUnderWay, TransferRecord, put_of, reference_at, uploads_of}
use Rattle.closed_family.specs.declared.family.Member.{Member}
use Rattle.closed_family.specs.Chains.{IsAmong}
use Rattle.closed_family.specs.Closed.{EveryEntryWasParted, HasParted}
use Rattle.closed_family.specs.Family.{histories_of}
use Rattle.closed_family.specs.Histories.{is_signed}
use Rattle.closed_family.proofs.Records.{among_either}
use Rattle.closed_family.proofs.Standing.{CameBy}
use Rattle.run_safety.specs.Network.{Network, sent_start}
use Rattle.run_safety.specs.Steady.{FrameIsMet, HasCause, IsPartedText, Rings}
use Rattle.run_safety.specs.Honest.{IsHonestReply, WasSentAsReply}
use Rattle.run_safety.proofs.Hearing.{PartsThere, parts_there, regained_need, says_declined, says_received, settled_need}
use Rattle.run_safety.proofs.Judged.{IsAtShard, one_is_met, own_place}
use Rattle.run_safety.proofs.Later.{cause_later}
use Rattle.run_safety.proofs.Links.{HasRecord, follows_among, has_record, of_its_bill, parted_on_has}
use Rattle.run_safety.proofs.Needs.{taken_parted}
use Rattle.run_safety.proofs.Owed.{Owes, find_among, met_by, no_text, owes_only}
use Rattle.run_safety.proofs.Starts.{start_reads}

-- ---- what is done

-- what is done, and sends no start
pub owes_done : (n : Network) (p : PlatformCode) (step : Step) (bill : Checksum) (d : List Frame) (frame : Option Frame)
    (sent : List Message) → IsDone bill d frame sent step → IfSome frame (FrameIsMet n.family p)
    → ((to : PlatformCode) (b : Checksum) (body : List ℕ) → IsAmong (Start to b body) sent → ⊥) → Owes n p step
owes_done n p step bill d frame sent done met none = record {
  met = met_by n p step.frame frame done.frame_is met;
  starts = λ after becomes to b body among.
      absurd (none to b body (subst (IsAmong (Start to b body)) done.messages_are among));
  replies = λ after becomes bytes text.
      absurd (no_text step.reply (replies.Done (view_of bill (with_frame d frame))) done.reply_is (λ x t. t) bytes text);
}

-- ---- starts

-- the text of a link that was parted
text_of_link : (family : List Member) (bill : Checksum) (q : PlatformCode) (link : ChainLink) (text : SignedText)
    → HasParted link (histories_of bill family q) → link.text ≡ text → IsPartedText family text
text_of_link family bill q link text has is =
    let r : HasRecord link (histories_of bill family q) = has_record link (histories_of bill family q) has in
    record {
      p = q;
      bill = r.bill;
      link = link;
      manifest = r.manifest;
      manifest_text = r.text;
      stands = subst (λ (b : Checksum). IsAmong (Parted r.bill link r.manifest r.text) (histories_of b family q))
          (sym (of_its_bill bill family q (Parted r.bill link r.manifest r.text) r.among)) r.among;
      text_is = is;
    }

texts_parted : (family : List Member) (bill : Checksum) (q : PlatformCode) (K : List ChainLink) (e : ChainLink)
    → EveryEntryWasParted (histories_of bill family) K → HasParted e (histories_of bill family q)
    → (text : SignedText) → IsAmong text (texts_of (K ++ e ∷ [])) → IsPartedText family text
texts_parted family bill q [] e every has text (inl is) = text_of_link family bill q e text has is
texts_parted family bill q [] e every has text (inr no_more) = absurd no_more
texts_parted family bill q (x ∷ K) e every has text (inl is) =
    text_of_link family bill x.entry.platform x text every.0 is
texts_parted family bill q (x ∷ K) e every has text (inr more) =
    texts_parted family bill q K e every.1 has text more

-- a start of a chain whose entries were parted has its cause
pub start_caused : (family : List Member) (p : PlatformCode) (h : List Record) (bill : Checksum) (q : PlatformCode)
    (K : List ChainLink) (e : ChainLink) (manifest_text : SignedText) (body : List ℕ)
    → IsSoundHistory p h → LinksAreTheirTexts (K ++ e ∷ []) → IsCompactText manifest_text
    → IsStartBody h (K ++ e ∷ []) manifest_text body
    → EveryEntryWasParted (histories_of bill family) K → HasParted e (histories_of bill family q)
    → HasCause family (sent_start p body)
start_caused family p h bill q K e manifest_text body sound links compact is every has = λ parts reads text among.
    let same : parts ≡ is.parts
    = body_once body parts is.parts reads (start_reads p h (K ++ e ∷ []) manifest_text body sound links compact is) in
    texts_parted family bill q K e every has text
    (subst (IsAmong text) (ap (λ (x : BodyRecord). x.chain) same ∙ is.chain_is) among)

-- the one start that is sent
pub the_start : (to : PlatformCode) (bill : Checksum) (body : List ℕ) (sent : List Message)
    → sent ≡ Start to bill body ∷ [] → (to1 : PlatformCode) (bill1 : Checksum) (body1 : List ℕ)
    → IsAmong (Start to1 bill1 body1) sent → body ≡ body1
the_start to bill body sent is to1 bill1 body1 among = on_first (subst (IsAmong (Start to1 bill1 body1)) is among)
  where
    on_first : IsAmong (Start to1 bill1 body1) (Start to bill body ∷ []) → body ≡ body1
    on_first (inl same) = cc same
    on_first (inr no_more) = absurd no_more

-- ---- uploads

no_start_put : (o : Option (List ℕ)) (asked : Bool) (make : List ℕ → Message)
    → ((bytes : List ℕ) (to : PlatformCode) (bill : Checksum) (body : List ℕ) → make bytes ≡ Start to bill body → ⊥)
    → (to : PlatformCode) (bill : Checksum) (body : List ℕ)
    → IsAmong (Start to bill body) (option_to_list (cond asked (option_map make o) None)) → ⊥
no_start_put o false make never to bill body among = among
no_start_put None true make never to bill body among = among
no_start_put (Some bytes) true make never to bill body (inl same) = never bytes to bill body same
no_start_put (Some bytes) true make never to bill body (inr no_more) = no_more

no_start_among : (bill : Checksum) (h : List Record) (t : TransferRecord) (missing : List Checksum)
    (pieces : List Piece) (to : PlatformCode) (b : Checksum) (body : List ℕ)
    → IsAmong (Start to b body) (flat_map (λ piece. option_to_list (put_of bill h t missing piece)) pieces) → ⊥
no_start_among bill h t missing [] to b body among = among
no_start_among bill h t missing (piece ∷ pieces) to b body among =
    on_place (among_either (Start to b body) (option_to_list (put_of bill h t missing piece))
    (flat_map (λ (x : Piece). option_to_list (put_of bill h t missing x)) pieces) among)
    (no_start_among bill h t missing pieces to b body)
  where
    on_place : IsAmong (Start to b body) (option_to_list (put_of bill h t missing piece))
        ⊎ IsAmong (Start to b body) (flat_map (λ (x : Piece). option_to_list (put_of bill h t missing x)) pieces)
        → (IsAmong (Start to b body) (flat_map (λ (x : Piece). option_to_list (put_of bill h t missing x)) pieces) → ⊥)
        → ⊥
    on_place (inl here) further =
        no_start_put (first_bytes piece.checksum h) (is_member checksum_eq missing piece.checksum)
        (λ (bytes : List ℕ). Put t.to bill (reference_at bill t) piece.checksum bytes)
        (λ bytes to1 bill1 body1 same. cc same) to b body here
    on_place (inr later) further = further later

no_start_uploaded : (bill : Checksum) (h : List Record) (t : TransferRecord) (missing : List Checksum)
    (to : PlatformCode) (b : Checksum) (body : List ℕ) → IsAmong (Start to b body) (uploads_of bill h t missing) → ⊥
no_start_uploaded bill h t missing to b body among =
    on_place (among_either (Start to b body)
    (flat_map (λ (x : Piece). option_to_list (put_of bill h t missing x)) t.manifest.documents)
    (Finish t.to bill (reference_at bill t) ∷ []) among)
  where
    on_place : IsAmong (Start to b body) (flat_map (λ (x : Piece). option_to_list (put_of bill h t missing x)) t.manifest.documents)
        ⊎ IsAmong (Start to b body) (Finish t.to bill (reference_at bill t) ∷ []) → ⊥
    on_place (inl put) = no_start_among bill h t missing t.manifest.documents to b body put
    on_place (inr (inl same)) = let no_way : Finish t.to bill (reference_at bill t) ≡ Start to b body = same in cc no_way
    on_place (inr (inr no_more)) = no_more

-- ---- at a shard

module _ (roster : RosterRecord) (rings : Rings) (n : Network) (p : PlatformCode) (i : ℕ) (d : List Frame)
    (at : IsAtShard roster rings n p i d) where
  pub own_sound : (bill : Checksum) → IsSoundHistory p (history bill d)
  own_sound bill =
      history_of_sound p d bill (legal_is_sound roster (rings p i) p d (at.steady.legal p i d at.has_diary))

  pub came_parted : (bill : Checksum) (K : List ChainLink)
      → CameBy (is_signed (histories_of bill n.family p)) (taken_chains (histories_of bill n.family p)) K
      → EveryEntryWasParted (histories_of bill n.family) K
  came_parted bill K (inl (none, signed)) = subst (EveryEntryWasParted (histories_of bill n.family)) (sym none) tt
  came_parted bill K (inr among) =
      taken_parted (histories_of bill n.family) (histories_of bill n.family p) (at.steady.met bill p) K among

  parting_there : (bill : Checksum) (K : List ChainLink) (e : ChainLink) → place_of (history bill d) ≡ Parting K e
      → PartsThere roster rings n at.steady at.grounds at.distinct bill p K e
  parting_there bill K e place =
      parts_there roster rings n at.steady at.grounds at.distinct bill p K e
      (own_place roster rings n p i d at bill (Parting K e) (λ no_way. cc no_way) place)

  -- ---- an answer

  ending_met : (bill : Checksum) (bytes : List ℕ) (t : TransferRecord) (ending : Ending)
      → IsUnderWay bill (history bill d) t → EndsBy (rings p i) t bytes ending
      → WasSentAsReply n.sent bytes ⊎ IsHonestReply roster rings n.sent bytes
      → FrameIsMet n.family p (One (record_for bill t.entry.name ending))
  ending_met bill bytes t endings.Received under (r, sealed, says) comes =
      one_is_met roster rings n p i d at (Settled bill t.entry.name)
      (settled_need roster rings n at.steady at.grounds at.distinct bill p under.known t.entry
      (parting_there bill under.known t.entry under.parting) i bytes t.to r
      (ap destination (sym under.chain_is) ∙ under.goes) sealed (says_received t.entry.name r says) comes)
  ending_met bill bytes t endings.Declined under (r, sealed, says) comes =
      one_is_met roster rings n p i d at (Regained bill t.entry.name)
      (regained_need roster rings n at.steady at.grounds at.distinct bill p under.known t.entry
      (parting_there bill under.known t.entry under.parting) i bytes t.to r
      (ap destination (sym under.chain_is) ∙ under.goes) sealed (says_declined t.entry.name r says) comes)

  pub answer_owes : (bill : Checksum) (bytes : List ℕ) (step : Step)
      → WasSentAsReply n.sent bytes ⊎ IsHonestReply roster rings n.sent bytes
      → StepsAtAnswer (rings p i) d bill bytes step → Owes n p step
  answer_owes bill bytes step comes (inl (reason, ignored, only)) =
      owes_only n p step (replies.Ignored reason) only (λ b text. text)
  answer_owes bill bytes step comes (inr (written, (t, ending, under, ends, is), done)) =
      owes_done n p step bill d (Some (One written)) [] done
      (subst (λ (r : Record). FrameIsMet n.family p (One r)) (sym is) (ending_met bill bytes t ending under ends comes))
      (λ to b body among. among)

  -- ---- a reply to a start

  pub start_reply_owes : (bill : Checksum) (bytes : List ℕ) (step : Step)
      → WasSentAsReply n.sent bytes ⊎ IsHonestReply roster rings n.sent bytes
      → StepsAtStartReply (rings p i) d bill bytes step → Owes n p step
  start_reply_owes bill bytes step comes (inr (answer, steps)) = answer_owes bill bytes step comes steps
  start_reply_owes bill bytes step comes (inl (object, inl (reason, ignored, only))) =
      owes_only n p step (replies.Ignored reason) only (λ b text. text)
  start_reply_owes bill bytes step comes (inl (object, inr (sent, (t, started, under, reads, same, is), done))) =
      owes_done n p step bill d None sent done tt
      (λ to b body among.
      no_start_uploaded bill (history bill d) t started.missing to b body (subst (IsAmong (Start to b body)) is among))

  -- ---- a start again

  parting_compact : (bill : Checksum) (t : TransferRecord) → IsUnderWay bill (history bill d) t
      → IsCompactText t.manifest_text
  parting_compact bill t under =
      let r : Record = Parted bill t.entry t.manifest t.manifest_text in
      let (older, follows) = follows_among p (history bill d) r (own_sound bill)
      (find_among is_parted (history bill d) r under.parted) in
      let may : MayPart p older bill t.entry t.manifest t.manifest_text = follows in
      (may.manifest_is.has_payload.parts, may.manifest_is.has_payload.compact)

  resent_caused : (bill : Checksum) (t : TransferRecord) (body : List ℕ) → IsUnderWay bill (history bill d) t
      → IsStartBody (history bill d) t.chain t.manifest_text body → HasCause n.family (sent_start p body)
  resent_caused bill t body under is =
      let there = parting_there bill under.known t.entry under.parting in
      start_caused n.family p (history bill d) bill p under.known t.entry t.manifest_text body (own_sound bill)
      (subst (λ (place : BillPlace). LinksAreTheirTexts (chain_at place)) under.parting
      (chain_at_texts p (history bill d) (own_sound bill)))
      (parting_compact bill t under)
      (subst (λ (chain : List ChainLink). IsStartBody (history bill d) chain t.manifest_text body) under.chain_is is)
      (came_parted bill under.known there.came)
      (parted_on_has under.known t.entry (histories_of bill n.family p) there.on)

  pub resend_owes : (bill : Checksum) (step : Step) → StepsAtResend d bill step → Owes n p step
  resend_owes bill step (inl (nothing, only)) =
      owes_only n p step (replies.NotParting (tag_of (place_of (history bill d)))) only (λ b text. text)
  resend_owes bill step (inr (sent, (t, under, sends), done)) = record {
    met = met_by n p step.frame None done.frame_is tt;
    starts = λ after becomes to b body among.
        subst (λ (x : List ℕ). HasCause after (sent_start p x))
        (the_start t.to bill sends.body sent sends.sent_is to b body
        (subst (IsAmong (Start to b body)) done.messages_are among))
        (cause_later n.family after becomes.later (sent_start p sends.body)
        (resent_caused bill t sends.body under sends.body_is));
    replies = λ after becomes bytes text.
        absurd (no_text step.reply (replies.Done (view_of bill (with_frame d None))) done.reply_is (λ x y. y) bytes text);
  }

  pub ask_owes : (bill : Checksum) (step : Step) → StepsAtAsk d bill step → Owes n p step
  ask_owes bill step done = owes_done n p step bill d None [] done tt (λ to b body among. among)
