use Rattle.std.proofs.Common.{◌≡◌, Ok}
use Rattle.canonical_json.specs.View.{view}
use Rattle.chain_entry.specs.Reading.{entry_of}
use Rattle.ebl_base.specs.declared.entry.Entry.{Entry}
use Rattle.record_bytes.specs.Reading.{SaysEntry}
use Rattle.record_bytes.proofs.FindLemmas.{found_some, if_finds, unfound}
use Rattle.record_bytes.proofs.TextLemmas.{no_entry_payload, entry_here, entry_said}
use Rattle.record_bytes.proofs.texts.entry_of.Goals as goal

pub returns-in-Some : goal.returns-in-Some
returns-in-Some c =
    let has = found_some _ _ c.in_ok-payload.field-0 c.in-Some.payload c.in-Some.is c.in_ok-payload.ensures in
    if_finds (λ (entry : Entry). entry_of (view c.in-Some.payload) ≡ Ok entry) (SaysEntry c.args.text.now)
    (entry_here c.args.text.now (view c.in-Some.payload) has)
    (λ entry says. entry_said c.args.text.now (view c.in-Some.payload) entry has says) c.entry_in.result c.entry_in.ensures

pub returns-in-None : goal.returns-in-None
returns-in-None c =
    no_entry_payload c.args.text.now (unfound _ _ c.in_ok-payload.field-0 c.in-None.is c.in_ok-payload.ensures)
