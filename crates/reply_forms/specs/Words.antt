-- The words of places, titles, limits and fields in replies.
use Rattle.std.specs.Prelude.{ℕ, List, codes}
use Rattle.ebl_base.specs.declared.limit_kind.LimitKind.{LimitKind}
use Rattle.ebl_base.specs.declared.limit_kind.LimitKind.TheVariants as limits
use Rattle.ebl_base.specs.declared.place_tag.PlaceTag.{PlaceTag}
use Rattle.ebl_base.specs.declared.place_tag.PlaceTag.TheVariants as places
use Rattle.title_fold.specs.declared.title.Title.{Title}
use Rattle.title_fold.specs.declared.title.Title.TheVariants as titles
use Rattle.transport_document.specs.declared.fault.DocumentField.{DocumentField}
use Rattle.transport_document.specs.declared.fault.DocumentField.TheVariants as fields

abbrev pub place_text : PlaceTag → List ℕ
place_text places.Absent = codes "ABSENT"
place_text places.Held = codes "HELD"
place_text places.Parting = codes "PARTING"
place_text places.Gone = codes "GONE"

-- the state that a title is in
abbrev pub state_text : Title → List ℕ
state_text (titles.Signed carrier) = codes "SIGNED"
state_text (titles.Live carrier possessor holder) = codes "LIVE"
state_text (titles.Asked kind carrier by) = codes "ASKED"
state_text (titles.Ended kind carrier) = codes "ENDED"

abbrev pub limit_text : LimitKind → List ℕ
limit_text limits.Entries = codes "ENTRIES"
limit_text limits.Transactions = codes "TRANSACTIONS"
limit_text limits.DocumentSize = codes "DOCUMENT_SIZE"
limit_text limits.Documents = codes "DOCUMENTS"
limit_text limits.DocumentBytes = codes "DOCUMENT_BYTES"

-- the name of a member of a transport document
abbrev pub field_name : DocumentField → List ℕ
field_name fields.TransportDocumentReference = codes "transportDocumentReference"
field_name fields.CarrierCode = codes "carrierCode"
field_name fields.CarrierCodeListProvider = codes "carrierCodeListProvider"
field_name fields.TransportDocumentTypeCode = codes "transportDocumentTypeCode"
field_name fields.IsToOrder = codes "isToOrder"
