-- Each chain that a legal diary knows has the links of its own texts, under the diary's keys.
use Rattle.std.proofs.Common.{◌≡◌, Bool, true, false, List, [], ◌∷◌, ◌++◌, Option, Some, None, cond, length, nat_lt, refl, sym, ap, ◌∙◌, subst, append-nil}
use Rattle.std.specs.Prelude.{All, option_map}
use Rattle.std.specs.Option.{option_to_list}
use Rattle.std.proofs.lemmas.List.Elements.{All-nil, All-cons, All-head, All-tail, All-append, All-filter}
use Rattle.canonical_json.specs.Value.{Value}
use Rattle.canonical_json.proofs.Parts.{Reads_once}
use Rattle.chain_entry.specs.Reading.{entry_of}
use Rattle.ebl_base.specs.Checksum.{checksum_eq}
use Rattle.ebl_base.specs.declared.chain.ChainLink.{ChainLink}
use Rattle.ebl_base.specs.declared.checksum.Checksum.{Checksum}
use Rattle.ebl_base.specs.declared.platform_code.PlatformCode.{PlatformCode}
use Rattle.signed_envelope.specs.KeyRing.{Keys}
use Rattle.signed_envelope.specs.SignedText.{IsSigned}
use Rattle.signed_envelope.specs.declared.compact.Parts.{Parts}
use Rattle.signed_envelope.proofs.Readings.{same_parts}
use Rattle.canonical_json.specs.Reading.{Reads}
use Rattle.envelope_manifest.specs.declared.manifest.Manifest.{Manifest}
use Rattle.party_roster.specs.RosterRecord.{RosterRecord}
use Rattle.bill_chain.specs.Chain.{ends_in}
use Rattle.transfer_chain.specs.Checked.{texts_of}
use Rattle.transfer_chain.specs.GoodChain.{IsLink, AreLinks}
use Rattle.transfer_chain.proofs.GoodChainLemmas.{links-front}
use Rattle.bill_diary.specs.declared.frame.Frame.{Frame}
use Rattle.bill_diary.specs.declared.record.Record.{Record}
use Rattle.bill_diary.specs.declared.record.Record.TheVariants.{Signed, Acted, Attached, Parted, Settled, Regained, Begun, Stored, Taken, Declined}
use Rattle.bill_diary.specs.History.{bill_of, history, newest_first, of_bill}
use Rattle.bill_diary.specs.Known.{Received, known, told, longer, longest, settled_chain, taken_chain, last_begun}
use Rattle.bill_diary.specs.Texts.{LinkIsItsText}
use Rattle.transfer_judge.specs.Legal.{FollowsLegally, AreLegal, IsLegal}

abbrev AreOwn : Keys → List ChainLink → Type 0
AreOwn keys chain = AreLinks keys (texts_of chain) chain

-- the same of a chain that is there
abbrev AreOwnIn : Keys → Option (List ChainLink) → Type 0
AreOwnIn keys None = Unit {0}
AreOwnIn keys (Some chain) = AreOwn keys chain

-- the links in a record are those of their own texts
abbrev HasOwn : Keys → Record → Type 0
HasOwn keys (Parted bill link manifest manifest_text) = IsLink keys link.text link
HasOwn keys (Begun bill chain manifest body) = AreOwn keys chain
HasOwn keys r = Unit {0}

-- ---- records

-- a link is that of its own text, where this is signed by the entry's platform
signed_link : (keys : Keys) (link : ChainLink) (who : PlatformCode) (value : Value) → link.entry.platform ≡ who
    → LinkIsItsText link → IsSigned keys 16384 link.text.0 who value → IsLink keys link.text link
signed_link keys link who value by is signed =
    let same = same_parts 16384 link.text.0 is.has_payload.parts signed.parts is.has_payload.compact signed.compact in
    let read : is.payload ≡ value =
    Reads_once signed.parts.payload is.payload value
    (subst (λ (p : Parts). Reads p.payload is.payload) same is.has_payload.reads) signed.payload in
    record {
      text = refl;
      name = is.name;
      value = value;
      signed = subst (λ p. IsSigned keys 16384 link.text.0 p value) (sym by) signed;
      entry = ap entry_of (sym read) ∙ is.reads_as;
    }

record_has_own : (roster : RosterRecord) (keys : Keys) (me : PlatformCode) (records : List Record) (r : Record)
    → FollowsLegally roster keys me records (of_bill (bill_of r) records) r → HasOwn keys r
record_has_own roster keys me records (Parted bill link manifest manifest_text) follows =
    signed_link keys link me follows.entry_signed.0 follows.sound.platform follows.sound.link_is follows.entry_signed.1
record_has_own roster keys me records (Begun bill chain manifest body) follows =
    links-front keys follows.body_is.parts.chain chain []
    (subst (AreLinks keys follows.body_is.parts.chain) (sym (append-nil chain)) follows.good.links)
record_has_own roster keys me records (Signed bill document t) follows = tt
record_has_own roster keys me records (Acted bill t) follows = tt
record_has_own roster keys me records (Attached bill piece bytes) follows = tt
record_has_own roster keys me records (Settled bill other) follows = tt
record_has_own roster keys me records (Regained bill other) follows = tt
record_has_own roster keys me records (Stored bill other checksum bytes) follows = tt
record_has_own roster keys me records (Taken bill other) follows = tt
record_has_own roster keys me records (Declined bill other code reason evidence) follows = tt

records_have_own : (roster : RosterRecord) (keys : Keys) (me : PlatformCode) (records : List Record)
    → AreLegal roster keys me records → All (HasOwn keys) records
records_have_own roster keys me [] legal = All-nil (HasOwn keys)
records_have_own roster keys me (r ∷ records) legal =
    All-cons (HasOwn keys) r records (record_has_own roster keys me records r legal.0)
    (records_have_own roster keys me records legal.2)

-- ---- chains

own-push : (keys : Keys) (chain : List ChainLink) (link : ChainLink) → AreOwn keys chain → IsLink keys link.text link
    → AreOwn keys (chain ++ link ∷ [])
own-push keys [] link are is = (is, tt)
own-push keys (first ∷ chain) link are is = (are.0, own-push keys chain link are.1 is)

own-followed : (keys : Keys) (chain : Option (List ChainLink)) (link : ChainLink) → AreOwnIn keys chain
    → IsLink keys link.text link → AreOwnIn keys (option_map (λ (ls : List ChainLink). ls ++ link ∷ []) chain)
own-followed keys None link are is = tt
own-followed keys (Some chain) link are is = own-push keys chain link are is

longer-own : (keys : Keys) (chain : List ChainLink) (other : Option (List ChainLink)) → AreOwn keys chain
    → AreOwnIn keys other → AreOwn keys (longer chain other)
longer-own keys chain None own others = own
longer-own keys chain (Some other) own others = by_test (nat_lt (length chain) (length other))
  where
    by_test : (test : Bool) → AreOwn keys (cond test other chain)
    by_test true = others
    by_test false = own

longest-own : (keys : Keys) (chains : List (List ChainLink)) → All (AreOwn keys) chains → AreOwnIn keys (longest chains)
longest-own keys [] all = tt
longest-own keys (chain ∷ chains) all =
    longer-own keys chain (longest chains) (All-head (AreOwn keys) chain chains all)
    (longest-own keys chains (All-tail (AreOwn keys) chain chains all))

listed-own : (keys : Keys) (chain : Option (List ChainLink)) → AreOwnIn keys chain
    → All (AreOwn keys) (option_to_list chain)
listed-own keys None own = All-nil (AreOwn keys)
listed-own keys (Some chain) own = All-cons (AreOwn keys) chain [] own (All-nil (AreOwn keys))

begun_on : (keys : Keys) (test : Bool) (chain : List ChainLink) (manifest : Manifest) (rest : Option Received)
    → AreOwn keys chain → AreOwnIn keys (option_map (λ (came : Received). came.chain) rest)
    → AreOwnIn keys (option_map (λ (came : Received). came.chain)
    (cond test (Some (record { chain = chain; manifest = manifest })) rest))
begun_on keys true chain manifest rest own others = own
begun_on keys false chain manifest rest own others = others

one_of : (keys : Keys) (test : Bool) (a b : Option (List ChainLink)) → AreOwnIn keys a → AreOwnIn keys b
    → AreOwnIn keys (cond test a b)
one_of keys true a b own others = own
one_of keys false a b own others = others

taken-own : (keys : Keys) (entry : Checksum) (h : List Record) → All (HasOwn keys) h
    → AreOwnIn keys (taken_chain entry h)
taken-own keys entry [] all = tt
taken-own keys entry (Begun bill chain manifest body ∷ h) all =
    begun_on keys (ends_in entry chain) chain manifest (last_begun entry h)
    (All-head (HasOwn keys) (Begun bill chain manifest body) h all)
    (taken-own keys entry h (All-tail (HasOwn keys) (Begun bill chain manifest body) h all))
taken-own keys entry (Signed bill document t ∷ h) all = taken-own keys entry h (All-tail (HasOwn keys) (Signed bill document t) h all)
taken-own keys entry (Acted bill t ∷ h) all = taken-own keys entry h (All-tail (HasOwn keys) (Acted bill t) h all)
taken-own keys entry (Attached bill piece bytes ∷ h) all = taken-own keys entry h (All-tail (HasOwn keys) (Attached bill piece bytes) h all)
taken-own keys entry (Parted bill link manifest manifest_text ∷ h) all = taken-own keys entry h (All-tail (HasOwn keys) (Parted bill link manifest manifest_text) h all)
taken-own keys entry (Settled bill other ∷ h) all = taken-own keys entry h (All-tail (HasOwn keys) (Settled bill other) h all)
taken-own keys entry (Regained bill other ∷ h) all = taken-own keys entry h (All-tail (HasOwn keys) (Regained bill other) h all)
taken-own keys entry (Stored bill other checksum bytes ∷ h) all = taken-own keys entry h (All-tail (HasOwn keys) (Stored bill other checksum bytes) h all)
taken-own keys entry (Taken bill other ∷ h) all = taken-own keys entry h (All-tail (HasOwn keys) (Taken bill other) h all)
taken-own keys entry (Declined bill other code reason evidence ∷ h) all = taken-own keys entry h (All-tail (HasOwn keys) (Declined bill other code reason evidence) h all)

mutual
  told-own : (keys : Keys) (h : List Record) → All (HasOwn keys) h → All (AreOwn keys) (told h)
  told-own keys [] all = All-nil (AreOwn keys)
  told-own keys (Signed bill document t ∷ h) all =
      All-cons (AreOwn keys) [] (told h) tt
      (told-own keys h (All-tail (HasOwn keys) (Signed bill document t) h all))
  told-own keys (Taken bill entry ∷ h) all =
      let behind = All-tail (HasOwn keys) (Taken bill entry) h all in
      All-append (AreOwn keys) (option_to_list (taken_chain entry h)) (told h)
      (listed-own keys (taken_chain entry h) (taken-own keys entry h behind)) (told-own keys h behind)
  told-own keys (Settled bill entry ∷ h) all =
      let behind = All-tail (HasOwn keys) (Settled bill entry) h all in
      All-append (AreOwn keys) (option_to_list (settled_chain entry h)) (told h)
      (listed-own keys (settled_chain entry h) (settled-own keys entry h behind)) (told-own keys h behind)
  told-own keys (Acted bill t ∷ h) all = told-own keys h (All-tail (HasOwn keys) (Acted bill t) h all)
  told-own keys (Attached bill piece bytes ∷ h) all = told-own keys h (All-tail (HasOwn keys) (Attached bill piece bytes) h all)
  told-own keys (Parted bill link manifest manifest_text ∷ h) all = told-own keys h (All-tail (HasOwn keys) (Parted bill link manifest manifest_text) h all)
  told-own keys (Regained bill other ∷ h) all = told-own keys h (All-tail (HasOwn keys) (Regained bill other) h all)
  told-own keys (Begun bill chain manifest body ∷ h) all = told-own keys h (All-tail (HasOwn keys) (Begun bill chain manifest body) h all)
  told-own keys (Stored bill other checksum bytes ∷ h) all = told-own keys h (All-tail (HasOwn keys) (Stored bill other checksum bytes) h all)
  told-own keys (Declined bill other code reason evidence ∷ h) all = told-own keys h (All-tail (HasOwn keys) (Declined bill other code reason evidence) h all)

  settled-own : (keys : Keys) (entry : Checksum) (h : List Record) → All (HasOwn keys) h
      → AreOwnIn keys (settled_chain entry h)
  settled-own keys entry [] all = tt
  settled-own keys entry (Parted bill link manifest manifest_text ∷ h) all =
      let behind = All-tail (HasOwn keys) (Parted bill link manifest manifest_text) h all in
      one_of keys (checksum_eq link.name entry)
      (option_map (λ (ls : List ChainLink). ls ++ link ∷ []) (longest (told h))) (settled_chain entry h)
      (own-followed keys (longest (told h)) link (longest-own keys (told h) (told-own keys h behind))
      (All-head (HasOwn keys) (Parted bill link manifest manifest_text) h all))
      (settled-own keys entry h behind)
  settled-own keys entry (Signed bill document t ∷ h) all = settled-own keys entry h (All-tail (HasOwn keys) (Signed bill document t) h all)
  settled-own keys entry (Acted bill t ∷ h) all = settled-own keys entry h (All-tail (HasOwn keys) (Acted bill t) h all)
  settled-own keys entry (Attached bill piece bytes ∷ h) all = settled-own keys entry h (All-tail (HasOwn keys) (Attached bill piece bytes) h all)
  settled-own keys entry (Settled bill other ∷ h) all = settled-own keys entry h (All-tail (HasOwn keys) (Settled bill other) h all)
  settled-own keys entry (Regained bill other ∷ h) all = settled-own keys entry h (All-tail (HasOwn keys) (Regained bill other) h all)
  settled-own keys entry (Begun bill chain manifest body ∷ h) all = settled-own keys entry h (All-tail (HasOwn keys) (Begun bill chain manifest body) h all)
  settled-own keys entry (Stored bill other checksum bytes ∷ h) all = settled-own keys entry h (All-tail (HasOwn keys) (Stored bill other checksum bytes) h all)
  settled-own keys entry (Taken bill other ∷ h) all = settled-own keys entry h (All-tail (HasOwn keys) (Taken bill other) h all)
  settled-own keys entry (Declined bill other code reason evidence ∷ h) all = settled-own keys entry h (All-tail (HasOwn keys) (Declined bill other code reason evidence) h all)

-- ---- diaries

own_in : (keys : Keys) (found : Option (List ChainLink)) (chain : List ChainLink) → AreOwnIn keys found
    → found ≡ Some chain → AreOwn keys chain
own_in keys found chain own is = subst (AreOwnIn keys) is own

pub known-own : (roster : RosterRecord) (keys : Keys) (me : PlatformCode) (diary : List Frame) (bill : Checksum)
    (chain : List ChainLink) → IsLegal roster keys me diary → known (history bill diary) ≡ Some chain
    → AreLinks keys (texts_of chain) chain
known-own roster keys me diary bill chain legal is =
    let h = history bill diary in
    let all = All-filter (λ (r : Record). checksum_eq (bill_of r) bill) (HasOwn keys) (newest_first diary)
    (records_have_own roster keys me (newest_first diary) legal.records) in
    own_in keys (known h) chain (longest-own keys (told h) (told-own keys h all)) is
