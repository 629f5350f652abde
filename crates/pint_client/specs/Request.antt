-- The one request that carries a message to another platform: its head (RFC 9112, sections 3 and 5) and its body.
use Rattle.std.specs.Prelude.{ℕ, List, [], ◌++◌, codes, decimal, length}
use Rattle.document_checksum.specs.Text.{checksum_text}
use Rattle.ebl_base.specs.declared.reference.Reference.{Reference}
use Rattle.platform_requests.specs.declared.message.Message.{Message}
use Rattle.platform_requests.specs.declared.message.Message.TheVariants.{Start, Put, Finish}
use Rattle.upload_state.specs.Reference.{reference_text}

abbrev pub method_of : Message → List ℕ
method_of (Start to bill body) = codes "POST"
method_of (Put to bill reference checksum bytes) = codes "PUT"
method_of (Finish to bill reference) = codes "PUT"

-- the path of a transfer that was started
abbrev pub envelope_path : Reference → List ℕ
envelope_path reference = codes "/v3/envelopes/" ++ reference_text reference

abbrev pub path_of : Message → List ℕ
path_of (Start to bill body) = codes "/v3/envelopes"
path_of (Put to bill reference checksum bytes) =
    envelope_path reference ++ (codes "/additional-documents/" ++ checksum_text checksum)
path_of (Finish to bill reference) = envelope_path reference ++ codes "/finish-transfer"

-- the body: that of the start, the document's bytes, nothing
abbrev pub body_of : Message → List ℕ
body_of (Start to bill body) = body
body_of (Put to bill reference checksum bytes) = bytes
body_of (Finish to bill reference) = []

-- the lines of the head, and the empty line behind them
abbrev pub head_text : Message → List ℕ
head_text out =
    method_of out ++ codes " " ++ path_of out ++ codes " HTTP/1.1\r\n"
    ++ codes "host: pint\r\ncontent-length: " ++ decimal (length (body_of out)) ++ codes "\r\n\r\n"

abbrev pub request_text : Message → List ℕ
request_text out = head_text out ++ body_of out
