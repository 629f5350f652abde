-- Every legal diary is sound.
use Rattle.std.proofs.Common.{◌≡◌, ℕ, ◌≤◌, Bool, true, false, ◌||◌, cond, List, [], ◌∷◌, length, Option, Some, None, Ok, Err, refl, ap, sym, subst, ◌∙◌}
use Rattle.std.proofs.lemmas.List.{length-map}
use Rattle.ebl_base.specs.Checksum.{checksum_eq}
use Rattle.ebl_base.specs.PlatformCode.{code_eq}
use Rattle.ebl_base.specs.declared.chain.ChainLink.{ChainLink}
use Rattle.ebl_base.specs.declared.checksum.Checksum.{Checksum}
use Rattle.ebl_base.specs.declared.code.Code.{Code}
use Rattle.ebl_base.specs.declared.evidence.Evidence.{Evidence}
use Rattle.ebl_base.specs.declared.party.Party.{Party}
use Rattle.ebl_base.specs.declared.platform_code.PlatformCode.{PlatformCode}
use Rattle.ebl_base.specs.declared.reason.Reason.{Reason}
use Rattle.ebl_base.specs.declared.signed_text.SignedText.{SignedText}
use Rattle.ebl_base.proofs.SameLemmas.{code_eq-Decides}
use Rattle.document_checksum.specs.Digest.{checksum_of}
use Rattle.signed_envelope.specs.Compact.{IsCompact}
use Rattle.signed_envelope.specs.KeyRing.{Keys}
use Rattle.envelope_manifest.specs.declared.manifest.Manifest.{Manifest}
use Rattle.party_roster.specs.RosterRecord.{RosterRecord, knows}
use Rattle.title_fold.specs.Title.{possessor}
use Rattle.title_fold.specs.Fold.{Folded}
use Rattle.bill_chain.specs.Chain.{last_of, platform_with, possessor_with, title_after_chain, IsChainOfBill}
use Rattle.transfer_chain.specs.GoodChain.{IsLink, AreLinks}
use Rattle.bill_diary.specs.declared.record.Record.{Record}
use Rattle.bill_diary.specs.declared.record.Record.TheVariants.{Signed, Acted, Attached, Parted, Settled, Regained, Begun, Stored, Taken, Declined}
use Rattle.bill_diary.specs.declared.frame.Frame.{Frame}
use Rattle.bill_diary.specs.History.{bill_of, records_of, newest_first, of_bill}
use Rattle.bill_diary.specs.Texts.{LinkIsItsText, LinksAreTheirTexts}
use Rattle.bill_diary.specs.Pieces.{missing_of}
use Rattle.bill_diary.specs.Place.{place_of, chain_at}
use Rattle.bill_diary.specs.Receiving.{Declination, continues, is_declined, is_taken, last_declined}
use Rattle.bill_diary.specs.Sound.{MayReceive, MayFollow, MayFollowEach, MayFollowDiary, AreSound, IsSound}
use Rattle.transfer_judge.specs.declared.judgement.Judgement.{Judgement}
use Rattle.transfer_judge.specs.declared.judgement.Judgement.TheVariants as judgements
use Rattle.transfer_judge.specs.Dispute.{evidence_of}
use Rattle.transfer_judge.specs.Judgement.{receiver_of, on_missing, on_receiver, on_dispute, on_declined, on_taken, on_receiver_here, on_last, judgement_of}
use Rattle.transfer_judge.specs.Legal.{IsReceivable, FollowsLegally, FollowEachLegally, FollowsDiaryLegally, AreLegal, IsLegal}

-- ---- a chain that isn't refused

-- ---- past each case, for a fact that its refusal excludes

pub past_last : (P : Judgement → Type 0) → (P judgements.Elsewhere → ⊥) → (last : Option ChainLink)
    (rest : ChainLink → Judgement) → P (on_last last rest) → (link : ChainLink) × (last ≡ Some link) × P (rest link)
past_last P not_so None rest p = absurd (not_so p)
past_last P not_so (Some link) rest p = (link, refl, p)

past_here_on : (P : Judgement → Type 0) → (P judgements.Elsewhere → ⊥) → (me : PlatformCode) (receiver : Party)
    (test : Bool) (rest : Party → Judgement) → (test ≡ true → receiver.platform ≡ me)
    → P (cond test (rest receiver) judgements.Elsewhere) → (receiver.platform ≡ me) × P (rest receiver)
past_here_on P not_so me receiver true rest decides p = (decides refl, p)
past_here_on P not_so me receiver false rest decides p = absurd (not_so p)

pub past_here : (P : Judgement → Type 0) → (P judgements.Elsewhere → ⊥) → (me : PlatformCode) (party : Option Party)
    (rest : Party → Judgement) → P (on_receiver_here me party rest)
    → (receiver : Party) × (party ≡ Some receiver) × (receiver.platform ≡ me) × P (rest receiver)
past_here P not_so me None rest p = absurd (not_so p)
past_here P not_so me (Some receiver) rest p =
    let (here, further) =
    past_here_on P not_so me receiver (code_eq receiver.platform me) rest
    (code_eq-Decides receiver.platform me).0 p in
    (receiver, refl, here, further)

pub past_taken : (P : Judgement → Type 0) → (P judgements.Duplicate → ⊥) → (taken : Bool) (rest : Judgement)
    → P (on_taken taken rest) → (taken ≡ false) × P rest
past_taken P not_so true rest p = absurd (not_so p)
past_taken P not_so false rest p = (refl, p)

pub past_declined : (P : Judgement → Type 0)
    → ((code : Code) (reason : Reason) (evidence : Evidence) → P (judgements.Declined code reason evidence) → ⊥)
    → (declined : Option Declination) (rest : Judgement)
    → P (on_declined declined rest) → (declined ≡ None) × P rest
past_declined P not_so None rest p = (refl, p)
past_declined P not_so (Some d) rest p = absurd (not_so d.code d.reason d.evidence p)

pub past_dispute : (P : Judgement → Type 0) → ((evidence : Evidence) → P (judgements.Parts evidence) → ⊥)
    → (goes : Bool) (evidence : Evidence) (rest : Judgement)
    → P (on_dispute (cond goes None (Some evidence)) rest) → (goes ≡ true) × P rest
past_dispute P not_so true evidence rest p = (refl, p)
past_dispute P not_so false evidence rest p = absurd (not_so evidence p)

pub past_receiver : (P : Judgement → Type 0) → (P judgements.Unknown → ⊥) → (known : Bool) (rest : Judgement)
    → P (cond known rest judgements.Unknown) → (known ≡ true) × P rest
past_receiver P not_so true rest p = (refl, p)
past_receiver P not_so false rest p = absurd (not_so p)

-- a fact that no refusal by name or place has
record NoRefusal (P : Judgement → Type 0) : Type 0 where
  elsewhere : P judgements.Elsewhere → ⊥
  duplicate : P judgements.Duplicate → ⊥
  declined : (code : Code) (reason : Reason) (evidence : Evidence) → P (judgements.Declined code reason evidence) → ⊥
  parts : (evidence : Evidence) → P (judgements.Parts evidence) → ⊥

-- ---- what it says

-- the destination is the platform of the possessor
destination_on : (folded : Folded) (receiver : Party) → possessor_with folded ≡ Some receiver
    → platform_with folded ≡ Some receiver.platform
destination_on (Err at) receiver is = absurd (let no : None ≡ Some receiver = is in cc)
destination_on (Ok None) receiver is = absurd (let no : None ≡ Some receiver = is in cc)
destination_on (Ok (Some title)) receiver is =
    let same : possessor title ≡ receiver = let whole : Some (possessor title) ≡ Some receiver = is in cc in
    ap (λ (party : Party). Some party.platform) same

not_declined_on : (test : Bool) (declination : Declination) (rest : Option Declination) (declined : Bool)
    → (rest ≡ None → declined ≡ false) → cond test (Some declination) rest ≡ None → (test || declined) ≡ false
not_declined_on true declination rest declined further none = absurd (let no : Some declination ≡ None = none in cc)
not_declined_on false declination rest declined further none = further none

-- where no Declined of an entry is found, none is there
pub not_declined : (entry : Checksum) (records : List Record) → last_declined entry records ≡ None
    → is_declined entry records ≡ false
not_declined entry [] none = refl
not_declined entry (Declined bill other code reason evidence ∷ records) none =
    not_declined_on (checksum_eq other entry) (record { code = code; reason = reason; evidence = evidence })
    (last_declined entry records) (is_declined entry records) (not_declined entry records) none
not_declined entry (Signed bill document t ∷ records) none = not_declined entry records none
not_declined entry (Acted bill t ∷ records) none = not_declined entry records none
not_declined entry (Attached bill piece bytes ∷ records) none = not_declined entry records none
not_declined entry (Parted bill link manifest manifest_text ∷ records) none = not_declined entry records none
not_declined entry (Settled bill other ∷ records) none = not_declined entry records none
not_declined entry (Regained bill other ∷ records) none = not_declined entry records none
not_declined entry (Begun bill chain manifest body ∷ records) none = not_declined entry records none
not_declined entry (Stored bill other checksum bytes ∷ records) none = not_declined entry records none
not_declined entry (Taken bill other ∷ records) none = not_declined entry records none

-- a chain that isn't refused may be received; what is left is whether its possessor is known and its documents are
-- there
record Passes (P : Judgement → Type 0) (roster : RosterRecord) (me : PlatformCode) (bill : Checksum)
    (records : List Record) (chain : List ChainLink) (manifest : Manifest) : Type 0 where
  receives : MayReceive me records (of_bill bill records) chain
  receiver : Party
  rest : P (on_receiver roster receiver (on_missing (missing_of manifest (of_bill bill records))))

received : (P : Judgement → Type 0) (free : NoRefusal P) (roster : RosterRecord) (me : PlatformCode) (bill : Checksum)
    (records : List Record) (chain : List ChainLink) (manifest : Manifest)
    → P (judgement_of roster me bill records chain manifest) → Passes P roster me bill records chain manifest
received P free roster me bill records chain manifest p =
    let h = of_bill bill records in
    let (last, last_is, p1) = past_last P free.elsewhere (last_of chain) _ p in
    let (receiver, receiver_is, here, p2) = past_here P free.elsewhere me (receiver_of chain) _ p1 in
    let (not_taken, p3) = past_taken P free.duplicate (is_taken last.name records) _ p2 in
    let (none, p4) = past_declined P free.declined (last_declined last.name records) _ p3 in
    let (goes, p5) =
    past_dispute P free.parts (continues (place_of h) chain) (evidence_of (chain_at (place_of h)) chain) _ p4 in
    record {
      receives = record {
        last = last;
        last_is = last_is;
        destination_is = destination_on (title_after_chain chain) receiver receiver_is ∙ ap Some here;
        not_taken = not_taken;
        not_declined = not_declined last.name records none;
        continues_place = goes;
      };
      receiver = receiver;
      rest = p5;
    }

-- a welcome chain, and an accepted one
welcome : NoRefusal IsReceivable
welcome = record {
  elsewhere = λ p. p;
  duplicate = λ p. p;
  declined = λ code reason evidence p. p;
  parts = λ evidence p. p;
}

abbrev IsAccepted : Judgement → Type 0
IsAccepted judgement = judgement ≡ judgements.Accept

accepted : NoRefusal IsAccepted
accepted = record {
  elsewhere = λ p. cc;
  duplicate = λ p. cc;
  declined = λ code reason evidence p. cc;
  parts = λ evidence p. cc;
}

none_missing : (checksums : List Checksum) → on_missing checksums ≡ judgements.Accept → checksums ≡ []
none_missing [] is = refl
none_missing (checksum ∷ checksums) is =
    absurd (let no : judgements.Missing (checksum ∷ checksums) ≡ judgements.Accept = is in cc)

-- ---- good chains

-- a link that was checked is its text's
pub link_is : (keys : Keys) (text : SignedText) (link : ChainLink) → IsLink keys text link → LinkIsItsText link
link_is keys text link is =
    let same : text ≡ link.text = sym is.text in
    record {
      name = is.name ∙ ap (λ (t : SignedText). checksum_of t.0) same;
      payload = is.value;
      has_payload = record {
        parts = is.signed.parts;
        compact = subst (λ (t : SignedText). IsCompact 16384 t.0 is.signed.parts) same is.signed.compact;
        reads = is.signed.payload;
      };
      reads_as = is.entry;
    }

pub links_are : (keys : Keys) (texts : List SignedText) (chain : List ChainLink) → AreLinks keys texts chain
    → LinksAreTheirTexts chain
links_are keys [] [] are = tt
links_are keys [] (link ∷ chain) are = absurd are
links_are keys (text ∷ texts) [] are = tt
links_are keys (text ∷ texts) (link ∷ chain) are =
    (link_is keys text link are.0, links_are keys texts chain are.1)

-- ---- each record

sound_record : (roster : RosterRecord) (keys : Keys) (me : PlatformCode) (records : List Record) (r : Record)
    → FollowsLegally roster keys me records (of_bill (bill_of r) records) r
    → MayFollow me records (of_bill (bill_of r) records) r
sound_record roster keys me records (Signed bill document t) follows = follows.sound
sound_record roster keys me records (Acted bill t) follows = follows
sound_record roster keys me records (Attached bill piece bytes) follows = follows
sound_record roster keys me records (Parted bill link manifest manifest_text) follows = follows.sound
sound_record roster keys me records (Settled bill entry) follows = follows
sound_record roster keys me records (Regained bill entry) follows = follows
sound_record roster keys me records (Begun bill chain manifest body) follows =
    let all = received IsReceivable welcome roster me bill records chain manifest follows.welcome in
    let same : Some follows.last ≡ Some all.receives.last = sym follows.last_is ∙ all.receives.last_is in
    let last_same : follows.last ≡ all.receives.last = cc in
    record {
      body_is = follows.body_is;
      room = subst (λ (n : ℕ). n ≤ 64)
          (ap length follows.body_is.chain_is ∙ length-map chain (λ (link : ChainLink). link.text)) follows.good.most;
      good = subst (λ (b : Checksum). IsChainOfBill b chain) follows.body_is.document_is.names follows.good.entries;
      links_are = links_are keys follows.body_is.parts.chain chain follows.good.links;
      receives = all.receives;
      manifest_form = follows.manifest_form;
      names_bill = follows.names_bill;
      names_last = follows.names_last ∙ ap (λ (l : ChainLink). l.name) last_same;
    }
sound_record roster keys me records (Stored bill entry checksum bytes) follows = follows
sound_record roster keys me records (Taken bill entry) follows =
    let all = received IsAccepted accepted roster me bill records follows.begun.chain follows.begun.manifest
    follows.accepted in
    let h = of_bill bill records in
    record {
      begun = follows.begun;
      begun_is = follows.begun_is;
      receives = all.receives;
      whole = none_missing (missing_of follows.begun.manifest h)
          (past_receiver IsAccepted (λ p. cc) (knows roster all.receiver)
          (on_missing (missing_of follows.begun.manifest h)) all.rest).1;
    }
sound_record roster keys me records (Declined bill entry code reason evidence) follows = follows

sound_records : (roster : RosterRecord) (keys : Keys) (me : PlatformCode) (records : List Record)
    → AreLegal roster keys me records → AreSound me records
sound_records roster keys me [] legal = tt
sound_records roster keys me (r ∷ records) legal =
    (sound_record roster keys me records r legal.0, legal.1, sound_records roster keys me records legal.2)

-- a legal diary is sound
pub legal_is_sound : (roster : RosterRecord) (keys : Keys) (me : PlatformCode) (diary : List Frame)
    → IsLegal roster keys me diary → IsSound me diary
legal_is_sound roster keys me diary legal = record {
  frames = legal.frames;
  records = sound_records roster keys me (newest_first diary) legal.records;
}

sound_each : (roster : RosterRecord) (keys : Keys) (me : PlatformCode) (rs records : List Record)
    → FollowEachLegally roster keys me records rs → MayFollowEach me records rs
sound_each roster keys me [] records follow = tt
sound_each roster keys me (r ∷ rs) records follow =
    (sound_record roster keys me records r follow.0, follow.1, sound_each roster keys me rs (r ∷ records) follow.2)

-- a frame that may follow a legal diary may follow it as a sound one
pub legal_frame_is_sound : (roster : RosterRecord) (keys : Keys) (me : PlatformCode) (diary : List Frame)
    (frame : Frame) → FollowsDiaryLegally roster keys me diary frame → MayFollowDiary me diary frame
legal_frame_is_sound roster keys me diary frame follows = record {
  is_frame = follows.is_frame;
  records = sound_each roster keys me (records_of frame) (newest_first diary) follows.records;
}
