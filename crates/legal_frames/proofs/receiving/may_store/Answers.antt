use Rattle.std.proofs.Common.{ap, sym, ◌∙◌}
use Rattle.document_checksum.specs.Digest.{checksum_of}
use Rattle.bill_diary.specs.History.{history}
use Rattle.bill_diary.specs.Pieces.{are_there}
use Rattle.legal_frames.proofs.TestLemmas.{isnt, never}
use Rattle.legal_frames.proofs.ReceivingLemmas.{not_listed, store_named, stores}
use Rattle.legal_frames.proofs.receiving.may_store.Goals as goal

pub returns-then-not-is_named : goal.returns-then-not-is_named
returns-then-not-is_named c =
    never (λ x.
    isnt c.is_named.result c.if-not-is_named.true c.is_named.ensures
    (store_named (history c.args.bill c.args.register.now.diary) c.args.entry c.args.name c.args.bytes.now x))

pub returns-then-not-is_listed : goal.returns-then-not-is_listed
returns-then-not-is_listed c =
    never (not_listed (history c.args.bill c.args.register.now.diary) c.args.entry c.args.name c.args.bytes.now c.len.result
    c.is_listed.result c.len.ensures
    c.is_listed.ensures c.if-not-is_listed.true)

pub are_there-requires-clause-named : goal.are_there-requires-clause-named
are_there-requires-clause-named c =
    sym (ap checksum_of c.as_slice.ensures ∙ c.is_named.ensures.0 c.if-not-is_named.false)

pub returns : goal.returns
returns c =
    stores (history c.args.bill c.args.register.now.diary) c.args.entry c.args.name c.args.bytes.now c.len.result c.is_listed.result
    c.are_there.result
    (c.is_named.ensures.0 c.if-not-is_named.false) c.len.ensures c.is_listed.ensures c.if-not-is_listed.false
    (c.are_there.ensures ∙ ap (are_there (history c.args.bill c.args.register.now.diary)) c.as_slice.ensures)
