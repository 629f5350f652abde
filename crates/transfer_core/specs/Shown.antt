-- What a body that was read shows, and why its reading stopped.
use Rattle.std.specs.Prelude.{◌≡◌, Option, Some, None, Ok}
use Rattle.ebl_base.specs.declared.reason.Reason.{Reason}
use Rattle.transport_document.specs.Reading.{document_of}
use Rattle.envelope_manifest.specs.Body.{body_view}
use Rattle.platform_machine.specs.Preface.{ShownRecord}
use Rattle.transfer_core.specs.declared.preface.Shown.{Shown}
use Rattle.transfer_core.specs.declared.preface.Stop.{Stop}
use Rattle.transfer_core.specs.declared.preface.Stop.TheVariants as stops

-- how contracts see it
abbrev pub shown_view : Shown → ShownRecord
shown_view s = record { parts = body_view s.body; document = s.document; chain = s.chain; manifest = s.manifest }

-- the document is the one that stands in the body
abbrev pub HasOwnDocument : Shown → Type 0
HasOwnDocument s = document_of (body_view s.body).document ≡ Ok s.document

-- a stop for a reason, or because memory ran out
abbrev pub IsStop : (Reason → Type 0) → Stop → Type 0
IsStop P (stops.Refused reason) = P reason
IsStop P stops.NoMemory = Unit {0}

abbrev pub stop_with : Option Reason → Stop
stop_with None = stops.NoMemory
stop_with (Some reason) = stops.Refused reason
