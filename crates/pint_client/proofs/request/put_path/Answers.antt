use Rattle.std.proofs.Common.{◌≡◌, ◌++◌, sym, subst, codes}
use Rattle.document_checksum.specs.Text.{checksum_text}
use Rattle.platform_requests.specs.declared.message.Message.{Message}
use Rattle.pint_client.specs.Request.{envelope_path, path_of}
use Rattle.pint_client.proofs.RequestLemmas.{two_pieces, three_pieces}
use Rattle.pint_client.proofs.request.put_path.Goals as goal

pub returns-in_ok-extend_from_slice-in-Put-2 : goal.returns-in_ok-extend_from_slice-in-Put-2
returns-in_ok-extend_from_slice-in-Put-2 c =
    subst (λ (out : Message). c.extend_from_slice-in-Put-2.new.self.items ≡ c.args.text.now.items ++ path_of out) (sym c.in-Put.is)
    (three_pieces c.args.text.now.items (envelope_path c.in-Put.reference) c.put_envelope_path.new.text.items c.extend_from_slice-in-Put.new.self.items
    c.extend_from_slice-in-Put-2.new.self.items (codes "/additional-documents/") (checksum_text c.in-Put.checksum) c.to_text.result
    c.in_ok-put_envelope_path-in-Put.ensures c.in_ok-extend_from_slice-in-Put.ensures.items c.in_ok-extend_from_slice-in-Put-2.ensures.items c.to_text.ensures)

pub returns-in_ok-extend_from_slice-in-Finish : goal.returns-in_ok-extend_from_slice-in-Finish
returns-in_ok-extend_from_slice-in-Finish c =
    subst (λ (out : Message). c.extend_from_slice-in-Finish.new.self.items ≡ c.args.text.now.items ++ path_of out) (sym c.in-Finish.is)
    (two_pieces c.args.text.now.items (envelope_path c.in-Finish.reference) c.put_envelope_path-in-Finish.new.text.items
    c.extend_from_slice-in-Finish.new.self.items (codes "/finish-transfer")
    c.in_ok-put_envelope_path-in-Finish.ensures c.in_ok-extend_from_slice-in-Finish.ensures.items)
