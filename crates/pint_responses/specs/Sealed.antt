-- What a sealed response is, and why a text is not taken as one.
use Rattle.std.specs.Prelude.{◌≡◌, ◌≢◌, ℕ, List, Some, Ok, Err}
use Rattle.ebl_base.specs.declared.limits.TheConstants.{MAX_SEALED_RESPONSE}
use Rattle.ebl_base.specs.declared.platform_code.PlatformCode.{PlatformCode}
use Rattle.canonical_json.specs.Value.{Value}
use Rattle.signed_envelope.specs.KeyRing.{Keys}
use Rattle.signed_envelope.specs.Refusal.{IsRefused}
use Rattle.signed_envelope.specs.SignedText.{IsSigned}
use Rattle.signed_envelope.specs.declared.fault.BadSigned.TheVariants as refusal
use Rattle.pint_responses.specs.Reading.{response_of}
use Rattle.pint_responses.specs.declared.fault.UnsealFault.{UnsealFault}
use Rattle.pint_responses.specs.declared.fault.UnsealFault.TheVariants.{Signature, Form, NoMemory}
use Rattle.pint_responses.specs.declared.response.Response.{Response}

-- the text is signed by the platform within 65,536 bytes, and its payload is the response
pub record IsSealed (keys : Keys) (text : List ℕ) (who : PlatformCode) (r : Response) : Type 0 where
  pub payload : Value
  pub signed : IsSigned keys MAX_SEALED_RESPONSE text who payload
  pub response : response_of payload ≡ Ok r

-- the text is not signed by the platform; or its payload is no response; or memory ran out
abbrev pub IsUnsealFault : Keys → List ℕ → PlatformCode → UnsealFault → Type 0
IsUnsealFault keys text who (Signature why) =
    (why ≢ refusal.NoMemory) × IsRefused keys MAX_SEALED_RESPONSE (Some who) text why
IsUnsealFault keys text who (Form field) =
    (payload : Value) × IsSigned keys MAX_SEALED_RESPONSE text who payload × (response_of payload ≡ Err field)
IsUnsealFault keys text who NoMemory = Unit {0}
