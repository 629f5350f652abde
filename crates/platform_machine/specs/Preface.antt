-- What a body shows before any diary is looked at, or the first thing that is wrong with it: its form, the document,
-- the chain, the manifest's signature, the manifest's form, the manifest's names.
use Rattle.std.specs.Prelude.{◌≡◌, ◌⊎◌, ◌≤◌, ◌-◌, ℕ, List, Option, Some, None, Ok, Err, length, option_map, slice_get}
use Rattle.ebl_base.specs.declared.chain.ChainLink.{ChainLink}
use Rattle.ebl_base.specs.declared.checksum.Checksum.{Checksum}
use Rattle.ebl_base.specs.declared.reason.Reason.{Reason}
use Rattle.ebl_base.specs.declared.reason.Reason.TheVariants as reasons
use Rattle.ebl_base.specs.declared.signed_text.SignedText.{SignedText}
use Rattle.canonical_json.specs.Value.{depth}
use Rattle.document_checksum.specs.Digest.{checksum_of}
use Rattle.signed_envelope.specs.KeyRing.{Keys}
use Rattle.party_roster.specs.RosterRecord.{RosterRecord}
use Rattle.transport_document.specs.DocumentRecord.{DocumentRecord, bill_of}
use Rattle.transport_document.specs.Reading.{document_of}
use Rattle.transport_document.specs.declared.fault.DocumentFault.{DocumentFault}
use Rattle.envelope_manifest.specs.Body.{BodyRecord, IsBody, IsWrongAt, ReadsAs}
use Rattle.envelope_manifest.specs.declared.fault.BodyField.{BodyField}
use Rattle.envelope_manifest.specs.declared.manifest.Manifest.{Manifest}
use Rattle.bill_chain.specs.Chain.{last_of}
use Rattle.transfer_chain.specs.GoodChain.{IsGoodChain}
use Rattle.transfer_chain.specs.Refusal as chains
use Rattle.transfer_chain.specs.declared.fault.ChainRefusal.{ChainRefusal}
use Rattle.end_manifest.specs.EndManifest.{IsManifestRefused, Manifests, reason_for}
use Rattle.platform_machine.specs.declared.refusal.Refusal.{Refusal}

-- ---- the chain and the manifest

-- a good chain of the document's bill, and its manifest
pub record Envelops (roster : RosterRecord) (keys : Keys) (document : DocumentRecord) (parts : BodyRecord)
    (chain : List ChainLink) (manifest : Manifest) : Type 0 where
  pub good : IsGoodChain roster keys document parts.chain chain
  pub end : ChainLink
  pub end_is : last_of chain ≡ Some end
  pub manifests : Manifests keys (bill_of document) end parts.manifest manifest

-- the texts are no good chain
abbrev pub IsChainRefused : RosterRecord → Keys → DocumentRecord → BodyRecord → Reason → Type 0
IsChainRefused roster keys document parts reason =
    (refusal : ChainRefusal) × (reason_for refusal ≡ Some reason)
    × chains.IsRefused roster keys document parts.chain refusal

-- they are, and the manifest is refused
pub record IsEndRefused (roster : RosterRecord) (keys : Keys) (document : DocumentRecord) (parts : BodyRecord)
    (reason : Reason) : Type 0 where
  pub chain : List ChainLink
  pub good : IsGoodChain roster keys document parts.chain chain
  pub end : ChainLink
  pub end_is : last_of chain ≡ Some end
  pub refused : IsManifestRefused keys (bill_of document) end parts.manifest reason

-- the first of these that applies
abbrev pub IsEnvelopeRefused : RosterRecord → Keys → DocumentRecord → BodyRecord → Reason → Type 0
IsEnvelopeRefused roster keys document parts reason =
    IsChainRefused roster keys document parts reason ⊎ IsEndRefused roster keys document parts reason

-- ---- the body

-- what a body shows: its parts, the document, the chain, the manifest
pub record ShownRecord : Type 0 where
  pub parts : BodyRecord
  pub document : DocumentRecord
  pub chain : List ChainLink
  pub manifest : Manifest

-- the parts of a body show this: a document, and a good chain of its bill with its manifest
pub record ShowsIn (roster : RosterRecord) (keys : Keys) (s : ShownRecord) : Type 0 where
  pub document_is : document_of s.parts.document ≡ Ok s.document
  pub envelops : Envelops roster keys s.document s.parts s.chain s.manifest

-- the bytes are a body that shows this; as in everything that is read, its texts are UTF-8, and it nests at most 127
-- deep
pub record Shows (roster : RosterRecord) (keys : Keys) (bytes : List ℕ) (s : ShownRecord) : Type 0 where
  pub reads : ReadsAs bytes s.parts
  pub form : IsBody s.parts
  pub nests : depth s.parts.document ≤ 126
  pub shows : ShowsIn roster keys s

-- the name of the last text, whatever that text is; none where there is no text
abbrev pub last_text_name : List SignedText → Option Checksum
last_text_name texts = option_map (λ (t : SignedText). checksum_of t.0) (slice_get texts (length texts - 1))

-- the refusal of a body whose form was read: with the bill, where the document was read, and the last text's name
abbrev pub refusal_of : Reason → Option Checksum → BodyRecord → Refusal
refusal_of reason bill parts = record { reason = reason; bill = bill; last = last_text_name parts.chain }

-- the bytes are no body
abbrev pub IsBodyRefused : List ℕ → Refusal → Type 0
IsBodyRefused bytes r =
    (field : BodyField) × IsWrongAt bytes field × (r ≡ record { reason = reasons.Body; bill = None; last = None })

-- they are, and the document is none of a bill
abbrev pub IsDocumentRefused : BodyRecord → Refusal → Type 0
IsDocumentRefused parts r =
    (fault : DocumentFault) × (document_of parts.document ≡ Err fault) × (r ≡ refusal_of reasons.Document None parts)

-- it is one, and the chain or the manifest is refused
abbrev pub IsInsideRefused : RosterRecord → Keys → BodyRecord → Refusal → Type 0
IsInsideRefused roster keys parts r =
    (document : DocumentRecord) × (reason : Reason) × (document_of parts.document ≡ Ok document)
    × IsEnvelopeRefused roster keys document parts reason × (r ≡ refusal_of reason (Some (bill_of document)) parts)

abbrev pub ArePartsRefused : RosterRecord → Keys → BodyRecord → Refusal → Type 0
ArePartsRefused roster keys parts r = IsDocumentRefused parts r ⊎ IsInsideRefused roster keys parts r

-- the first thing that is wrong with the bytes
abbrev pub IsRefused : RosterRecord → Keys → List ℕ → Refusal → Type 0
IsRefused roster keys bytes r =
    IsBodyRefused bytes r ⊎ ((parts : BodyRecord) × ReadsAs bytes parts × ArePartsRefused roster keys parts r)
