use Rattle.canonical_json.specs.View.{view}
use Rattle.signed_envelope.proofs.Refusals.{same_code}
use Rattle.transfer_chain.proofs.LinkLemmas.{link_is}
use Rattle.transfer_chain.proofs.verify_texts.link_of.Goals as goal

pub returns-clause-ok : goal.returns-clause-ok
returns-clause-ok g c =
    link_is (g.G.KeyRing.keys c.args.ring.now) c.args.text.now c.as_slice.result.now c.as_slice-2.result.now
    c.in_ok-text.text c.checksum-name.result c.in_ok-entry.entry c.in_ok-verified.verified.platform
    (view c.in_ok-verified.verified.payload) c.as_slice.ensures c.as_slice-2.ensures c.in_ok-text.ensures
    c.checksum-name.ensures c.in_ok-verified.ensures.ok c.in_ok-entry.ensures.ok
    (same_code c.in_ok-entry.entry.platform c.in_ok-verified.verified.platform c.if-ne.ensures)
