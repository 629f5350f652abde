use Rattle.transport_document.specs.DocumentRecord.{bill_of}
use Rattle.transfer_chain.proofs.GoodChainLemmas.{link_in, moves_away, good-follows, good-hands_over}
use Rattle.transfer_chain.proofs.laws.entries_of_good_chain_hand_over.Goals as goal

pub returns-clause-signed : goal.returns-clause-signed
returns-clause-signed c roster keys document texts front a rest good =
    let link = link_in keys texts front a rest good.links in
    (link.value, link.signed, link.entry)

pub returns-clause-moves : goal.returns-clause-moves
returns-clause-moves c roster keys document texts front a rest good =
    moves_away (bill_of document) front a (good-follows roster keys document texts front a rest good)

pub returns-clause-names : goal.returns-clause-names
returns-clause-names c roster keys document texts front a b rest good =
    (good-hands_over roster keys document texts front a b rest good).previous

pub returns-clause-receives : goal.returns-clause-receives
returns-clause-receives c roster keys document texts front a b rest good =
    (good-hands_over roster keys document texts front a b rest good).platform
