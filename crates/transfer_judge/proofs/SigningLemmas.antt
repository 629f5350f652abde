-- A document is signed on one platform, where diaries are legal under one roster.
use Rattle.std.proofs.Common.{◌≡◌, ℕ, List, ◌∷◌, Some, Ok, ap, sym, subst, ◌∙◌}
use Rattle.ebl_base.specs.declared.checksum.Checksum.{Checksum}
use Rattle.ebl_base.specs.declared.party.Party.{Party}
use Rattle.ebl_base.specs.declared.platform_code.PlatformCode.{PlatformCode}
use Rattle.ebl_base.specs.declared.transaction.Transaction.{Transaction}
use Rattle.canonical_json.specs.Value.{Value}
use Rattle.canonical_json.specs.Lawful.{IsLawful}
use Rattle.signed_envelope.specs.KeyRing.{Keys}
use Rattle.party_roster.specs.RosterRecord.{RosterRecord, carrier}
use Rattle.transport_document.specs.DocumentRecord.{DocumentRecord}
use Rattle.transport_document.specs.Reading.{document_of}
use Rattle.bill_diary.specs.declared.record.Record.TheVariants.{Signed}
use Rattle.bill_diary.specs.declared.frame.Frame.{Frame}
use Rattle.bill_diary.specs.History.{IsRecordOf, of_bill}
use Rattle.transfer_judge.specs.Legal.{SignsLegally, AreLegal, IsLegal}
use Rattle.transfer_judge.proofs.FrameLemmas.{legal_behind}

-- documents with one text are one
abbrev pub AreOneByText : Type 0
AreOneByText =
    (v w : Value) (a b : DocumentRecord) → document_of v ≡ Ok a → document_of w ≡ Ok b
    → IsLawful v → IsLawful w → a.text ≡ b.text → a ≡ b

-- a Signed of a legal diary was signed legally
signed_so : (roster : RosterRecord) (keys : Keys) (me : PlatformCode) (diary : List Frame) (bill : Checksum)
    (document : List ℕ) (t : Transaction) → IsLegal roster keys me diary
    → (is : IsRecordOf diary (Signed bill document t))
    → SignsLegally roster me (of_bill bill is.older) bill document t
signed_so roster keys me diary bill document t legal is =
    (legal_behind roster keys me is.newer (Signed bill document t ∷ is.older)
    (subst (AreLegal roster keys me) is.parts legal.records)).0

pub one_platform : AreOneByText → (roster : RosterRecord) (keys others : Keys) (me other : PlatformCode)
    (diary of_other : List Frame) (bill bill1 : Checksum) (document : List ℕ) (t u : Transaction)
    → IsLegal roster keys me diary → IsLegal roster others other of_other
    → IsRecordOf diary (Signed bill document t) → IsRecordOf of_other (Signed bill1 document u)
    → me ≡ other
one_platform one roster keys others me other diary of_other bill bill1 document t u legal legal1 is is1 =
    let a = signed_so roster keys me diary bill document t legal is in
    let b = signed_so roster others other of_other bill1 document u legal1 is1 in
    let da = a.sound.document_is in
    let db = b.sound.document_is in
    let documents : da.document ≡ db.document =
    one da.value db.value da.document db.document da.reads db.reads da.lawful db.lawful (da.text_is ∙ sym db.text_is) in
    let carriers : Some t.actor ≡ Some u.actor =
    sym a.by_carrier ∙ ap (λ (d : DocumentRecord). carrier roster d.provider d.code) documents ∙ b.by_carrier in
    let actors : t.actor ≡ u.actor = cc carriers in
    sym a.sound.actor ∙ ap (λ (p : Party). p.platform) actors ∙ b.sound.actor
