-- A steady family is sound and closed; its histories are sound, and what parts goes to platforms of the roster.
use Rattle.std.proofs.Common.{◌≡◌, inl, inr, ◌≤◌, length, ℕ, true, List, [], ◌∷◌, ◌++◌, Option, Some, None, refl, sym, ap, subst, ◌∙◌}
use Rattle.std.specs.Option.{option_map_or}
use Rattle.ebl_base.specs.declared.carrier_code.CarrierCode.{CarrierCode}
use Rattle.ebl_base.specs.declared.checksum.Checksum.{Checksum}
use Rattle.ebl_base.specs.declared.chain.ChainLink.{ChainLink}
use Rattle.ebl_base.specs.declared.party.Party.{Party}
use Rattle.ebl_base.specs.declared.platform_code.PlatformCode.{PlatformCode}
use Rattle.ebl_base.specs.declared.provider.Provider.{Provider}
use Rattle.ebl_base.specs.declared.transaction.Transaction.{Transaction}
use Rattle.party_roster.specs.RosterRecord.{RosterRecord, carrier, has_platform}
use Rattle.ebl_base.specs.PlatformCode.{IsCode, code_of, code_text}
use Rattle.ebl_base.specs.declared.moment.Moment.{Moment}
use Rattle.platform_requests.specs.Request.{RequestRecord}
use Rattle.platform_machine.specs.declared.step.Step.{Step}
use Rattle.platform_machine.specs.Machine.{MayBeAsked, Steps}
use Rattle.platform_machine.specs.Step.{with_frame}
use Rattle.ebl_base.specs.declared.signature.Signature.{Signature}
use Rattle.signed_envelope.specs.KeyRing.{Keys}
use Rattle.signed_envelope.specs.SignedText.{IsComposed}
use Rattle.pint_responses.specs.Response.{IsAllowed}
use Rattle.pint_responses.specs.Sealed.{IsSealed}
use Rattle.pint_responses.specs.Writing.{response_value}
use Rattle.pint_responses.specs.declared.response.Response.{Response}
use Rattle.bill_chain.specs.Chain.{destination}
use Rattle.bill_diary.specs.declared.record.Record.{Record}
use Rattle.bill_diary.specs.declared.record.Record.TheVariants.{Signed, Acted, Attached, Parted, Settled, Regained, Begun, Stored, Taken, Declined}
use Rattle.bill_diary.specs.declared.frame.Frame.{Frame}
use Rattle.bill_diary.specs.History.{IsRecordOf, bill_of, newest_first, history}
use Rattle.bill_diary.specs.Sound.{IsSoundHistory}
use Rattle.bill_diary.proofs.HistoryLemmas.{history_of_sound}
use Rattle.transfer_judge.specs.Legal.{IsLegal}
use Rattle.transfer_judge.proofs.LegalLemmas.{legal_is_sound}
use Rattle.closed_family.specs.declared.family.Member.{Member}
use Rattle.closed_family.specs.Chains.{IsAmong}
use Rattle.closed_family.specs.Histories.{PartedOn}
use Rattle.closed_family.specs.Closed.{IsCorroborated}
use Rattle.closed_family.specs.Family.{shard_of, histories_of, SignsDocument, StandsIn, IsSoundFamily, IsClosedFamily}
use Rattle.closed_family.proofs.Complete.{place_among}
use Rattle.run_safety.specs.Network.{Network, diary_of}
use Rattle.run_safety.specs.Steady.{Rings, IsSteady, StandsOn}
use Rattle.run_safety.proofs.Diaries.{among_own, history_there, history_by_diary, listed_diary}
use Rattle.run_safety.proofs.Links.{parted_listed}
use Rattle.run_safety.proofs.Needs.{met_corroborated}

-- of diaries that are legal under a roster no two platforms have signed one document
abbrev pub HasOneSigner : RosterRecord → Type 0
HasOneSigner roster =
    (keys others : Keys) (me other : PlatformCode) (diary of_other : List Frame) (bill bill1 : Checksum)
    (document : List ℕ) (t u : Transaction)
    → IsLegal roster keys me diary → IsLegal roster others other of_other
    → IsRecordOf diary (Signed bill document t) → IsRecordOf of_other (Signed bill1 document u)
    → me ≡ other

-- what is known beside: a roster's carriers are on listed platforms, and its platforms have well-formed codes; a document
-- has one signer; a step keeps a legal diary legal; and a response is read as it was sealed
pub record Grounds (roster : RosterRecord) : Type 0 where
  pub codes : (p : PlatformCode) → IsAmong p roster.platforms → IsCode p
  pub carriers : (provider : Provider) (code : CarrierCode) (party : Party) → carrier roster provider code ≡ Some party
      → has_platform roster party.platform ≡ true
  pub one_signer : HasOneSigner roster
  pub keeps : (keys : Keys) (me : PlatformCode) (diary : List Frame) (now : Moment) (request : RequestRecord) (step : Step)
      → IsLegal roster keys me diary → MayBeAsked diary now request → Steps roster keys me diary now request step
      → IsLegal roster keys me (with_frame diary step.frame)
  pub sealed : (keys : Keys) (text : List ℕ) (who : PlatformCode) (r : Response) (s : Signature)
      → IsComposed keys text who (response_value r) s → length text ≤ 65536 → code_of (code_text who) ≡ Some who
      → IsAllowed r → IsSealed keys text who r

-- ---- the Signed of a document

pub record HasSigned (text : List ℕ) (r : Record) : Type 0 where
  pub bill : Checksum
  pub transaction : Transaction
  pub is : r ≡ Signed bill text transaction

has_signed : (r : Record) (text : List ℕ) → SignsDocument text r → HasSigned text r
has_signed (Signed bill document t) text signs =
    record { bill = bill; transaction = t; is = ap (λ (x : List ℕ). Signed bill x t) signs }
has_signed (Acted b t) text signs = absurd signs
has_signed (Attached b p t) text signs = absurd signs
has_signed (Parted b l m t) text signs = absurd signs
has_signed (Settled b e) text signs = absurd signs
has_signed (Regained b e) text signs = absurd signs
has_signed (Begun b c m t) text signs = absurd signs
has_signed (Stored b e c t) text signs = absurd signs
has_signed (Taken b e) text signs = absurd signs
has_signed (Declined b e c q v) text signs = absurd signs

-- a record among others, with those before and behind it
record IsBetween (records : List Record) (r : Record) : Type 0 where
  newer : List Record
  older : List Record
  parts : records ≡ newer ++ r ∷ older

between : (records : List Record) (r : Record) → IsAmong r records → IsBetween records r
between [] r among = absurd among
between (x ∷ xs) r (inl same) =
    record { newer = []; older = xs; parts = ap (λ (y : Record). y ∷ xs) same }
between (x ∷ xs) r (inr later) =
    let b = between xs r later in
    record { newer = x ∷ b.newer; older = b.older; parts = ap (λ (ys : List Record). x ∷ ys) b.parts }

record_of : (diary : List Frame) (r : Record) → IsAmong r (newest_first diary) → IsRecordOf diary r
record_of diary r among =
    let b = between (newest_first diary) r among in
    record { newer = b.newer; older = b.older; parts = b.parts }

-- ---- a steady family

module _ (roster : RosterRecord) (rings : Rings) (n : Network) (S : IsSteady roster rings n) where
  -- a diary of a member, with its shard
  record IsPlaced (m : Member) (d : List Frame) : Type 0 where
    i : ℕ
    there : diary_of n.family m.platform i ≡ Some d

  placed : (m : Member) → IsAmong m n.family → (d : List Frame) → IsAmong d m.diaries → IsPlaced m d
  placed m listed d among =
      let (i, is) = place_among m.diaries d among in
      record { i = i; there = listed_diary n.family m i S.apart listed ∙ is }

  legal_in : (m : Member) (d : List Frame) (at : IsPlaced m d) → IsLegal roster (rings m.platform at.i) m.platform d
  legal_in m d at = S.legal m.platform at.i d at.there

  one_signer_in : HasOneSigner roster → (a b : Member) (r s : Record) (text : List ℕ)
      → StandsIn n.family a r → StandsIn n.family b s → SignsDocument text r → SignsDocument text s
      → a.platform ≡ b.platform
  one_signer_in one_signer a b r s text on_a on_b signs_r signs_s =
      let x = has_signed r text signs_r in
      let y = has_signed s text signs_s in
      let at_a = placed a on_a.listed on_a.diary on_a.has_diary in
      let at_b = placed b on_b.listed on_b.diary on_b.has_diary in
      one_signer (rings a.platform at_a.i) (rings b.platform at_b.i) a.platform b.platform on_a.diary on_b.diary
      x.bill y.bill text x.transaction y.transaction (legal_in a on_a.diary at_a) (legal_in b on_b.diary at_b)
      (record_of on_a.diary (Signed x.bill text x.transaction)
      (subst (λ (z : Record). IsAmong z (newest_first on_a.diary)) x.is on_a.has_record))
      (record_of on_b.diary (Signed y.bill text y.transaction)
      (subst (λ (z : Record). IsAmong z (newest_first on_b.diary)) y.is on_b.has_record))

  pub steady_sound : HasOneSigner roster → IsSoundFamily n.family
  steady_sound one_signer = record {
    apart = S.apart;
    sixteen = S.sixteen;
    sound = λ m listed d among.
        let at = placed m listed d among in
        legal_is_sound roster (rings m.platform at.i) m.platform d (legal_in m d at);
    in_shard = λ m listed i d there r among.
        S.in_shard m.platform i d (listed_diary n.family m i S.apart listed ∙ there) r among;
    signed_on_one = λ a b r s text on_a on_b signs_r signs_s. one_signer_in one_signer a b r s text on_a on_b signs_r signs_s;
  }

  pub steady_closed : IsClosedFamily n.family
  steady_closed bill m listed =
      subst (IsCorroborated (histories_of bill n.family))
      (history_by_diary bill n.family m.platform
      ∙ ap (λ (o : Option (List Frame)). option_map_or (history bill) o [])
      (listed_diary n.family m (shard_of bill) S.apart listed))
      (met_corroborated (histories_of bill n.family) (histories_of bill n.family m.platform) (S.met bill m.platform))

  -- ---- histories

  pub steady_history : (bill : Checksum) (p : PlatformCode) → IsSoundHistory p (histories_of bill n.family p)
  steady_history bill p = on_diary (diary_of n.family p (shard_of bill)) refl
    where
      on_diary : (o : Option (List Frame)) → diary_of n.family p (shard_of bill) ≡ o
          → IsSoundHistory p (histories_of bill n.family p)
      on_diary None is =
          subst (IsSoundHistory p)
          (sym (history_by_diary bill n.family p
          ∙ ap (λ (o : Option (List Frame)). option_map_or (history bill) o []) is)) tt
      on_diary (Some d) is =
          subst (IsSoundHistory p) (sym (history_there bill n.family p d is))
          (history_of_sound p d bill
          (legal_is_sound roster (rings p (shard_of bill)) p d (S.legal p (shard_of bill) d is)))

  -- what parts goes to a platform of the roster
  pub steady_listed : (bill : Checksum) (p : PlatformCode) (K : List ChainLink) (e : ChainLink)
      → PartedOn K e (histories_of bill n.family p)
      → (to : PlatformCode) → destination (K ++ e ∷ []) ≡ Some to → has_platform roster to ≡ true
  steady_listed bill p K e parted to goes = on_diary (diary_of n.family p (shard_of bill)) refl
    where
      on_diary : (o : Option (List Frame)) → diary_of n.family p (shard_of bill) ≡ o → has_platform roster to ≡ true
      on_diary None is =
          absurd (subst (PartedOn K e)
          (history_by_diary bill n.family p
          ∙ ap (λ (o : Option (List Frame)). option_map_or (history bill) o []) is) parted)
      on_diary (Some d) is =
          parted_listed roster (rings p (shard_of bill)) p bill (newest_first d)
          (S.legal p (shard_of bill) d is).records K e
          (subst (PartedOn K e) (history_there bill n.family p d is) parted) to goes

  -- a record of a diary stands in the history of its bill
  pub stands_there : (p : PlatformCode) (i : ℕ) (d : List Frame) → diary_of n.family p i ≡ Some d
      → (r : Record) → IsAmong r (newest_first d) → StandsOn n.family p r
  stands_there p i d there r among =
      subst (IsAmong r)
      (sym (history_there (bill_of r) n.family p d
      (ap (diary_of n.family p) (S.in_shard p i d there r among) ∙ there)))
      (among_own (newest_first d) r among)
