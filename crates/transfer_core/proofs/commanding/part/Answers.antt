use Rattle.platform_machine.proofs.CommandLemmas.{manifest_form}
use Rattle.transfer_core.proofs.commanding.part.Goals as goal

pub signed_manifest-requires : goal.signed_manifest-requires
signed_manifest-requires g c =
    manifest_form (g.G.KeyRing.keys c.args.ring.now) c.args.me c.args.entry c.in_ok-link.link c.args.documents
    c.in_ok-link.ensures.ok c.requires.entry c.requires.documents
