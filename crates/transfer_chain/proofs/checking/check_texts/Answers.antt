use Rattle.std.proofs.Common.{length, refl, ap, ◌∙◌}
use Rattle.party_roster.specs.RosterRecord.{carrier}
use Rattle.transfer_chain.proofs.CheckLemmas.{check-good, check-entry}
use Rattle.transfer_chain.proofs.GoodChainLemmas.{good-checked, good-last}
use Rattle.transfer_chain.proofs.LinkLemmas.{not_empty}
use Rattle.transfer_chain.proofs.checking.check_texts.Goals as goal

pub returns-in_ok-chain-in-Ok-pass-clause-ok : goal.returns-in_ok-chain-in-Ok-pass-clause-ok
returns-in_ok-chain-in-Ok-pass-clause-ok g c =
    check-good c.args.roster.now (g.G.KeyRing.keys c.args.ring.now) c.args.document.now c.args.texts.now
    c.args.texts.now c.carrier-carrier.result c.bill.result c.in-Ok.links.items c.as_slice.result.now
    c.in_ok-chain-in-Ok-pass.chain c.in-Ok-pass.field-0
    (record {
      texts_seen = refl;
      some = not_empty (length c.args.texts.now) c.if-is_empty.ensures;
      most = c.if-texts-gt-MAX_CHAIN_ENTRIES.false;
      carrier_seen = c.carrier-carrier.ensures
          ∙ ap (λ p. carrier c.args.roster.now p c.code.result) c.provider.ensures
          ∙ ap (λ k. carrier c.args.roster.now c.args.document.now.provider k) c.code.ensures;
      bill_seen = c.bill.ensures;
      chain_seen = c.as_slice.ensures.value;
    })
    c.in-Ok.ensures.ok c.in-Ok-pass.ensures c.in_ok-chain-in-Ok-pass.ensures

pub returns-in_ok-chain-in-Ok-pass-clause-checked : goal.returns-in_ok-chain-in-Ok-pass-clause-checked
returns-in_ok-chain-in-Ok-pass-clause-checked g c =
    good-checked c.args.roster.now (g.G.KeyRing.keys c.args.ring.now) c.args.document.now c.args.texts.now
    c.in_ok-chain-in-Ok-pass.chain (returns-in_ok-chain-in-Ok-pass-clause-ok g c)

pub returns-in_ok-chain-in-Ok-pass-clause-last : goal.returns-in_ok-chain-in-Ok-pass-clause-last
returns-in_ok-chain-in-Ok-pass-clause-last g c =
    good-last c.args.roster.now (g.G.KeyRing.keys c.args.ring.now) c.args.document.now c.args.texts.now
    c.in_ok-chain-in-Ok-pass.chain (returns-in_ok-chain-in-Ok-pass-clause-ok g c)

pub returns-in-Err-pass-clause-err : goal.returns-in-Err-pass-clause-err
returns-in-Err-pass-clause-err g c =
    check-entry c.args.roster.now (g.G.KeyRing.keys c.args.ring.now) c.args.document.now c.args.texts.now
    c.args.texts.now c.carrier-carrier.result c.bill.result c.in-Ok.links.items c.as_slice.result.now
    c.in-Err-pass.refusal
    (record {
      texts_seen = refl;
      some = not_empty (length c.args.texts.now) c.if-is_empty.ensures;
      most = c.if-texts-gt-MAX_CHAIN_ENTRIES.false;
      carrier_seen = c.carrier-carrier.ensures
          ∙ ap (λ p. carrier c.args.roster.now p c.code.result) c.provider.ensures
          ∙ ap (λ k. carrier c.args.roster.now c.args.document.now.provider k) c.code.ensures;
      bill_seen = c.bill.ensures;
      chain_seen = c.as_slice.ensures.value;
    })
    c.in-Ok.ensures.ok c.in-Err-pass.ensures
