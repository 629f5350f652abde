-- What came with a Begun, where it is kept in a diary.
use Rattle.std.specs.Prelude.{}
use Rattle.bill_diary.specs.declared.record_ref.BegunRef.{BegunRef}
use Rattle.platform_machine.specs.Receiving.{BegunRecord}

abbrev pub begun_view : BegunRef → BegunRecord
begun_view b = record { bill = b.bill; chain = b.chain.now; manifest = b.manifest.now; body = b.body.now }
