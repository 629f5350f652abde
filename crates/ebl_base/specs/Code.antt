-- How a platform answers an envelope, by codes of four letters (DCSA PINT 3.0).
use Rattle.std.specs.Prelude.{ℕ, Bool, true, false, List, [], ◌∷◌, Option, codes, find}
use Rattle.std.specs.Str.{bytes_eq}
use Rattle.ebl_base.specs.declared.code.Code.{Code}
use Rattle.ebl_base.specs.declared.code.Code.TheVariants.{Received, Duplicate, BadSignature, BadEnvelope, InconsistentDocument, MissingDocuments, DisputedEnvelope}

-- the four letters of a code
abbrev pub response_code_text : Code → List ℕ
response_code_text Received = codes "RECE"
response_code_text Duplicate = codes "DUPE"
response_code_text BadSignature = codes "BSIG"
response_code_text BadEnvelope = codes "BENV"
response_code_text InconsistentDocument = codes "INCD"
response_code_text MissingDocuments = codes "MDOC"
response_code_text DisputedEnvelope = codes "DISE"

-- all codes
abbrev pub response_codes : List Code
response_codes =
    Received ∷ Duplicate ∷ BadSignature ∷ BadEnvelope ∷ InconsistentDocument ∷ MissingDocuments ∷ DisputedEnvelope ∷ []

-- the code with these letters
abbrev pub response_code_of : List ℕ → Option Code
response_code_of text = find (λ code. bytes_eq (response_code_text code) text) response_codes

-- whether two codes are one
abbrev pub response_code_eq : Code → Code → Bool
response_code_eq Received Received = true
response_code_eq Duplicate Duplicate = true
response_code_eq BadSignature BadSignature = true
response_code_eq BadEnvelope BadEnvelope = true
response_code_eq InconsistentDocument InconsistentDocument = true
response_code_eq MissingDocuments MissingDocuments = true
response_code_eq DisputedEnvelope DisputedEnvelope = true
response_code_eq a b = false
