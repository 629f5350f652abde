-- A transfer that is under way, where its parts are kept in a diary.
use Rattle.std.specs.Prelude.{◌∷◌, [], ◌++◌}
use Rattle.platform_machine.specs.Transfer.{TransferRecord}
use Rattle.transfer_core.specs.declared.transfer.Transfer.{Transfer}

abbrev pub transfer_view : Transfer → TransferRecord
transfer_view t = record {
  chain = t.known.now ++ t.parted.link.now ∷ [];
  entry = t.parted.link.now;
  manifest = t.parted.manifest.now;
  manifest_text = t.parted.manifest_text.now;
  to = t.to;
}
