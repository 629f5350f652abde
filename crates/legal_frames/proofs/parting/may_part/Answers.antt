use Rattle.std.proofs.Common.{sym, ◌∙◌}
use Rattle.bill_diary.specs.History.{history}
use Rattle.legal_frames.proofs.TestLemmas.{if_through, isnt, never}
use Rattle.legal_frames.proofs.PartingLemmas.{parts_by, parts_next, parts_so}
use Rattle.legal_frames.proofs.parting.may_part.Goals as goal

pub returns-then-not-is_next_after : goal.returns-then-not-is_next_after
returns-then-not-is_next_after g c =
    never (λ x.
    isnt c.is_next_after.result c.if-not-is_next_after.true c.is_next_after.ensures
    (parts_next c.args.roster.now (g.G.KeyRing.keys c.args.ring.now) c.args.me (history c.args.parted.bill c.args.register.now.diary)
    c.args.parted.bill c.args.parted.link.now c.args.parted.manifest.now c.args.parted.manifest_text.now x))

pub returns-then-not-are_listed : goal.returns-then-not-are_listed
returns-then-not-are_listed g c =
    never (λ x. isnt c.are_listed.result c.if-not-are_listed.true c.are_listed.ensures
    (x.sound.documents ∙ sym c.pieces.ensures))

pub returns-then-not-signed : goal.returns-then-not-signed
returns-then-not-signed g c =
    never (λ x. isnt c.in_ok-signed.signed c.if-not-signed.true c.in_ok-signed.ensures x.entry_signed)

pub returns : goal.returns
returns g c =
    if_through c.is_manifest_by.result
    (parts_so c.args.roster.now (g.G.KeyRing.keys c.args.ring.now) c.args.me (history c.args.parted.bill c.args.register.now.diary)
    c.args.parted.bill c.args.parted.link.now c.args.parted.manifest.now c.args.parted.manifest_text.now
    (c.is_next_after.ensures.0 c.if-not-is_next_after.false)
    c.requires (c.are_listed.ensures.0 c.if-not-are_listed.false ∙ c.pieces.ensures)
    (c.in_ok-signed.ensures.0 c.if-not-signed.false))
    (parts_by c.args.roster.now (g.G.KeyRing.keys c.args.ring.now) c.args.me (history c.args.parted.bill c.args.register.now.diary)
    c.args.parted.bill c.args.parted.link.now c.args.parted.manifest.now c.args.parted.manifest_text.now)
    c.is_manifest_by.ensures
