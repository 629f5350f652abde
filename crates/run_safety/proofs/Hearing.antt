-- What an answer says of an entry that is parting is so: it was taken, or declined, where it moves possession.
use Rattle.std.proofs.Common.{◌≡◌, ◌⊎◌, inl, inr, ℕ, Bool, true, false, cond, List, [], ◌∷◌, ◌++◌, Option, Some, None, Result, Ok, Err, refl, sym, ap, subst, ◌∙◌}
use Rattle.std.specs.Prelude.{IfSome, option_and_then}
use Rattle.std.specs.List.{list_any}
use Rattle.ebl_base.specs.declared.checksum.Checksum.{Checksum}
use Rattle.ebl_base.specs.declared.chain.ChainLink.{ChainLink}
use Rattle.ebl_base.specs.declared.code.Code.{Code}
use Rattle.ebl_base.specs.declared.code.Code.TheVariants as codes
use Rattle.ebl_base.specs.declared.platform_code.PlatformCode.{PlatformCode}
use Rattle.ebl_base.specs.declared.transaction.Transaction.{Transaction}
use Rattle.party_roster.specs.RosterRecord.{RosterRecord, has_platform}
use Rattle.pint_responses.specs.Sealed.{IsSealed}
use Rattle.pint_responses.specs.declared.response.Response.{Response}
use Rattle.platform_requests.specs.declared.ignore_reason.IgnoreReason.{IgnoreReason}
use Rattle.bill_chain.specs.Chain.{destination}
use Rattle.bill_diary.specs.declared.record.Record.{Record}
use Rattle.bill_diary.specs.declared.record.Record.TheVariants.{Taken, Declined}
use Rattle.bill_diary.specs.declared.bill_place.BillPlace.TheVariants.{Held, Parting}
use Rattle.bill_diary.specs.Known.{settled_chain}
use Rattle.bill_diary.specs.Place.{place_of, taken_chains}
use Rattle.bill_diary.specs.Receiving.{takes, declines, is_taken, is_declined}
use Rattle.platform_machine.specs.declared.ending.Ending.{Ending}
use Rattle.platform_machine.specs.declared.ending.Ending.TheVariants as endings
use Rattle.platform_machine.specs.Hearing.{is_for, ending_by, ending_in}
use Rattle.closed_family.specs.Chains.{IsAmong}
use Rattle.closed_family.specs.Histories.{PartedOn, is_signed}
use Rattle.closed_family.specs.Closed.{Histories, HasParted, EveryEntryWasParted, destination_of}
use Rattle.closed_family.specs.Family.{histories_of, HasDistinctNames}
use Rattle.closed_family.proofs.Names.{checksum_eq-itself, checksum_eq-same, or_left, or_right}
use Rattle.closed_family.proofs.Standing.{CameBy, stands_held, stands_parting}
use Rattle.closed_family.proofs.History.{taken_by_chain}
use Rattle.closed_family.proofs.Line.{AreClosed, stands_at}
use Rattle.closed_family.proofs.Families.{links_in}
use Rattle.run_safety.specs.Network.{Network, sent_reply}
use Rattle.run_safety.specs.Steady.{Rings, IsSteady, IsReceipt, IsTrueOf, WasTakenOn, WasDeclinedOn}
use Rattle.run_safety.specs.Honest.{IsHonestReply, WasSentAsReply}
use Rattle.run_safety.proofs.Needs.{met_among, taken_parted}
use Rattle.run_safety.proofs.Links.{has_named, of_one_bill, parted_on_has}
use Rattle.run_safety.proofs.Sound.{Grounds, steady_history, steady_listed}
use Rattle.run_safety.proofs.Bodies.{closed_of}

-- ---- what an answer says

-- a response by which the transfer of an entry ends: it is for this entry, and a receipt, or it stands
pub record SaysReceived (entry : Checksum) (r : Response) : Type 0 where
  pub last_is : r.last ≡ Some entry
  pub receipt : IsReceipt r.code

pub record SaysDeclined (entry : Checksum) (r : Response) : Type 0 where
  pub last_is : r.last ≡ Some entry
  pub stands : r.standing ≡ true

is_for-same : (entry : Checksum) (last : Option Checksum) → is_for entry last ≡ true → last ≡ Some entry
is_for-same entry None is = cc is
is_for-same entry (Some last) is = ap Some (checksum_eq-same last entry is)

receipt_by : (code : Code) (standing : Bool) → ending_by code standing ≡ Ok endings.Received → IsReceipt code
receipt_by codes.Received standing is = tt
receipt_by codes.Duplicate standing is = tt
receipt_by codes.BadSignature true is = cc is
receipt_by codes.BadSignature false is = cc is
receipt_by codes.BadEnvelope true is = cc is
receipt_by codes.BadEnvelope false is = cc is
receipt_by codes.InconsistentDocument true is = cc is
receipt_by codes.InconsistentDocument false is = cc is
receipt_by codes.MissingDocuments true is = cc is
receipt_by codes.MissingDocuments false is = cc is
receipt_by codes.DisputedEnvelope true is = cc is
receipt_by codes.DisputedEnvelope false is = cc is

standing_by : (code : Code) (standing : Bool) → ending_by code standing ≡ Ok endings.Declined → standing ≡ true
standing_by code true is = refl
standing_by codes.Received false is = cc is
standing_by codes.Duplicate false is = cc is
standing_by codes.BadSignature false is = cc is
standing_by codes.BadEnvelope false is = cc is
standing_by codes.InconsistentDocument false is = cc is
standing_by codes.MissingDocuments false is = cc is
standing_by codes.DisputedEnvelope false is = cc is

past_entry : (for_it : Bool) (rest : Result Ending IgnoreReason) (other : IgnoreReason) (ending : Ending)
    → cond for_it rest (Err other) ≡ Ok ending → (for_it ≡ true) × (rest ≡ Ok ending)
past_entry true rest other ending is = (refl, is)
past_entry false rest other ending is = cc is

pub says_received : (entry : Checksum) (r : Response) → ending_in entry r ≡ Ok endings.Received → SaysReceived entry r
says_received entry r is =
    let (for_it, by) = past_entry (is_for entry r.last) (ending_by r.code r.standing) _ endings.Received is in
    record { last_is = is_for-same entry r.last for_it; receipt = receipt_by r.code r.standing by }

pub says_declined : (entry : Checksum) (r : Response) → ending_in entry r ≡ Ok endings.Declined → SaysDeclined entry r
says_declined entry r is =
    let (for_it, by) = past_entry (is_for entry r.last) (ending_by r.code r.standing) _ endings.Declined is in
    record { last_is = is_for-same entry r.last for_it; stands = standing_by r.code r.standing by }

-- ---- lists

among_any : (test : Record → Bool) (r : Record) (h : List Record) → test r ≡ true → IsAmong r h
    → list_any test h ≡ true
among_any test r [] is among = absurd among
among_any test r (x ∷ h) is (inl same) = or_left (test x) (list_any test h) (ap test same ∙ is)
among_any test r (x ∷ h) is (inr old) = or_right (test x) (list_any test h) (among_any test r h is old)

pub every_last : (at : Histories) (front : List ChainLink) (e : ChainLink) → EveryEntryWasParted at (front ++ e ∷ [])
    → HasParted e (at e.entry.platform)
every_last at [] e g = g.0
every_last at (x ∷ front) e g = every_last at front e g.1

module _ (roster : RosterRecord) (rings : Rings) (n : Network) (S : IsSteady roster rings n) (G : Grounds roster)
    (distinct : HasDistinctNames n.family) where
  closed : (bill : Checksum) → AreClosed (links_in bill n.family) (histories_of bill n.family)
  closed bill = closed_of roster rings n S G distinct bill

  -- ---- where an entry is parting

  pub record PartsThere (bill : Checksum) (p : PlatformCode) (K : List ChainLink) (e : ChainLink) : Type 0 where
    pub on : PartedOn K e (histories_of bill n.family p)
    pub goes : destination_of e.name (histories_of bill n.family p) ≡ destination (K ++ e ∷ [])
    pub came : CameBy (is_signed (histories_of bill n.family p)) (taken_chains (histories_of bill n.family p)) K

  pub parts_there : (bill : Checksum) (p : PlatformCode) (K : List ChainLink) (e : ChainLink)
      → place_of (histories_of bill n.family p) ≡ Parting K e → PartsThere bill p K e
  parts_there bill p K e place =
      let h = histories_of bill n.family p in
      let there = stands_parting (links_in bill n.family) p h K e
      (stands_at (links_in bill n.family) (histories_of bill n.family) (closed bill) p) place in
      let s = there.1.0 in
      let same = there.1.1 in
      record {
        on = subst (λ (x : ChainLink). PartedOn K x h) same s.parted;
        goes = ap (option_and_then destination)
            (subst (λ (x : ChainLink). settled_chain x.name h ≡ Some (K ++ x ∷ [])) same s.told);
        came = s.came;
      }

  pub held_came : (bill : Checksum) (p : PlatformCode) (K : List ChainLink) (since : List Transaction)
      → place_of (histories_of bill n.family p) ≡ Held K since
      → CameBy (is_signed (histories_of bill n.family p)) (taken_chains (histories_of bill n.family p)) K
  held_came bill p K since place =
      (stands_held (links_in bill n.family) p (histories_of bill n.family p) K since
      (stands_at (links_in bill n.family) (histories_of bill n.family) (closed bill) p) place).1.came

  -- ---- of one bill

  -- what was taken of some bill was taken of the bill that is parting
  taken_of_bill : (bill : Checksum) (p : PlatformCode) (K : List ChainLink) (e : ChainLink)
      → PartsThere bill p K e → (to : PlatformCode) → WasTakenOn n.family to e.name
      → is_taken e.name (histories_of bill n.family to) ≡ true
  taken_of_bill bill p K e there to w =
      let h = histories_of w.bill n.family to in
      let taken : is_taken e.name h ≡ true
      = among_any (takes e.name) (Taken w.bill e.name) h (checksum_eq-itself e.name) w.stands in
      let c = closed w.bill in
      let t = taken_by_chain (links_in w.bill n.family) to h (c.sound to) (c.among to) e.name taken in
      let g = taken_parted (histories_of w.bill n.family) h (S.met w.bill to) (t.front ++ t.last ∷ []) t.chain in
      let bills = of_one_bill n.family distinct (steady_history roster rings n S) w.bill bill t.last.entry.platform p
      t.last e (every_last (histories_of w.bill n.family) t.front t.last g)
      (parted_on_has K e (histories_of bill n.family p) there.on) t.named in
      subst (λ (b : Checksum). is_taken e.name (histories_of b n.family to) ≡ true) bills taken

  -- so it is of what was declined
  declined_of_bill : (bill : Checksum) (p : PlatformCode) (K : List ChainLink) (e : ChainLink)
      → PartsThere bill p K e → (to : PlatformCode) → WasDeclinedOn n.family to e.name
      → is_declined e.name (histories_of bill n.family to) ≡ true
  declined_of_bill bill p K e there to w =
      let h = histories_of w.bill n.family to in
      let declined : is_declined e.name h ≡ true
      = among_any (declines e.name) (Declined w.bill e.name w.code w.reason w.evidence) h (checksum_eq-itself e.name)
      w.stands in
      let (before, need) = met_among (histories_of w.bill n.family) h
      (Declined w.bill e.name w.code w.reason w.evidence) (S.met w.bill to) w.stands in
      let was = need.1 in
      let named = has_named e.name (histories_of w.bill n.family was.0) was.1 in
      let bills = of_one_bill n.family distinct (steady_history roster rings n S) w.bill bill was.0 p named.link e
      named.parted (parted_on_has K e (histories_of bill n.family p) there.on) named.named in
      subst (λ (b : Checksum). is_declined e.name (histories_of b n.family to) ≡ true) bills declined

  -- ---- answers

  -- a response of a listed platform that was sent, or is honest, is so
  true_answer : (p : PlatformCode) (i : ℕ) (bytes : List ℕ) (who : PlatformCode) (r : Response)
      → IsSealed (rings p i) bytes who r → has_platform roster who ≡ true
      → WasSentAsReply n.sent bytes ⊎ IsHonestReply roster rings n.sent bytes → IsTrueOf n.family who who r
  true_answer p i bytes who r sealed listed (inl (from, among)) =
      let t = S.caused (sent_reply from bytes) among (rings p i) who r sealed in
      subst (λ (q : PlatformCode). IsTrueOf n.family q who r) (sym t.signer) t
  true_answer p i bytes who r sealed listed (inr honest) =
      let (from, among) = honest (record {
        who = who;
        listed = listed;
        p = p;
        i = i;
        value = sealed.payload;
        signed = sealed.signed;
      }) in
      let t = S.caused (sent_reply from bytes) among (rings p i) who r sealed in
      subst (λ (q : PlatformCode). IsTrueOf n.family q who r) (sym t.signer) t

  if_goes : (P : PlatformCode → Type 0) (o : Option PlatformCode) (to : PlatformCode) → o ≡ Some to → P to → IfSome o P
  if_goes P o to is p = subst (λ (x : Option PlatformCode). IfSome x P) (sym is) p

  -- so the entry was taken where it goes
  pub settled_need : (bill : Checksum) (p : PlatformCode) (K : List ChainLink) (e : ChainLink)
      → PartsThere bill p K e → (i : ℕ) (bytes : List ℕ) (to : PlatformCode) (r : Response)
      → destination (K ++ e ∷ []) ≡ Some to → IsSealed (rings p i) bytes to r → SaysReceived e.name r
      → WasSentAsReply n.sent bytes ⊎ IsHonestReply roster rings n.sent bytes
      → IfSome (destination_of e.name (histories_of bill n.family p))
      (λ (q : PlatformCode). is_taken e.name (histories_of bill n.family q) ≡ true)
  settled_need bill p K e there i bytes to r goes sealed says comes =
      let t = true_answer p i bytes to r sealed (steady_listed roster rings n S bill p K e there.on to goes) comes in
      if_goes (λ (q : PlatformCode). is_taken e.name (histories_of bill n.family q) ≡ true)
      (destination_of e.name (histories_of bill n.family p)) to (there.goes ∙ goes)
      (taken_of_bill bill p K e there to (t.receipt says.receipt e.name says.last_is))

  -- or declined there
  pub regained_need : (bill : Checksum) (p : PlatformCode) (K : List ChainLink) (e : ChainLink)
      → PartsThere bill p K e → (i : ℕ) (bytes : List ℕ) (to : PlatformCode) (r : Response)
      → destination (K ++ e ∷ []) ≡ Some to → IsSealed (rings p i) bytes to r → SaysDeclined e.name r
      → WasSentAsReply n.sent bytes ⊎ IsHonestReply roster rings n.sent bytes
      → IfSome (destination_of e.name (histories_of bill n.family p))
      (λ (q : PlatformCode). is_declined e.name (histories_of bill n.family q) ≡ true)
  regained_need bill p K e there i bytes to r goes sealed says comes =
      let t = true_answer p i bytes to r sealed (steady_listed roster rings n S bill p K e there.on to goes) comes in
      if_goes (λ (q : PlatformCode). is_declined e.name (histories_of bill n.family q) ≡ true)
      (destination_of e.name (histories_of bill n.family p)) to (there.goes ∙ goes)
      (declined_of_bill bill p K e there to (t.standing says.stands e.name says.last_is))
