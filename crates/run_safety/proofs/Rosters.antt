-- What a well-formed roster gives, and the laws of the machine under it.
use Rattle.std.proofs.Common.{◌≡◌, inl, inr, ◌≤◌, ℕ, length, true, List, [], ◌∷◌, Some, subst}
use Rattle.std.specs.Prelude.{All}
use Rattle.std.proofs.lemmas.List.Elements.{All-head, All-tail}
use Rattle.ebl_base.specs.PlatformCode.{IsCode, code_of, code_text}
use Rattle.ebl_base.specs.declared.carrier_code.CarrierCode.{CarrierCode}
use Rattle.ebl_base.specs.declared.moment.Moment.{Moment}
use Rattle.ebl_base.specs.declared.party.Party.{Party}
use Rattle.ebl_base.specs.declared.platform_code.PlatformCode.{PlatformCode}
use Rattle.ebl_base.specs.declared.provider.Provider.{Provider}
use Rattle.ebl_base.specs.declared.signature.Signature.{Signature}
use Rattle.signed_envelope.specs.KeyRing.{Keys}
use Rattle.signed_envelope.specs.SignedText.{IsComposed}
use Rattle.party_roster.specs.RosterForm.{IsPlatform, IsRoster}
use Rattle.party_roster.specs.RosterRecord.{RosterRecord, carrier, has_platform, knows}
use Rattle.pint_responses.specs.Response.{IsAllowed}
use Rattle.pint_responses.specs.Sealed.{IsSealed}
use Rattle.pint_responses.specs.Writing.{response_value}
use Rattle.pint_responses.specs.declared.response.Response.{Response}
use Rattle.platform_requests.specs.Request.{RequestRecord}
use Rattle.bill_diary.specs.declared.frame.Frame.{Frame}
use Rattle.transfer_judge.specs.Legal.{IsLegal}
use Rattle.platform_machine.specs.declared.step.Step.{Step}
use Rattle.platform_machine.specs.Machine.{MayBeAsked, Steps}
use Rattle.platform_machine.specs.Step.{with_frame}
use Rattle.closed_family.specs.Chains.{IsAmong}
use Rattle.run_safety.proofs.Sound.{Grounds, HasOneSigner}

-- laws of the crates below
pub record Laws : Type 0 where
  pub carrier : (roster : RosterRecord) (provider : Provider) (code : CarrierCode) (party : Party)
      → IsRoster roster → carrier roster provider code ≡ Some party → knows roster party ≡ true
  pub party : (roster : RosterRecord) (party : Party) → IsRoster roster → knows roster party ≡ true
      → has_platform roster party.platform ≡ true
  pub one_signer : (roster : RosterRecord) → HasOneSigner roster
  pub keeps : (roster : RosterRecord) (keys : Keys) (me : PlatformCode) (diary : List Frame) (now : Moment)
      (request : RequestRecord) (step : Step) → IsRoster roster → IsLegal roster keys me diary
      → MayBeAsked diary now request → Steps roster keys me diary now request step
      → IsLegal roster keys me (with_frame diary step.frame)
  pub sealed : (keys : Keys) (text : List ℕ) (who : PlatformCode) (r : Response) (s : Signature)
      → IsComposed keys text who (response_value r) s → length text ≤ 65536 → code_of (code_text who) ≡ Some who
      → IsAllowed r → IsSealed keys text who r

code_among : (ps : List PlatformCode) → All IsPlatform ps → (p : PlatformCode) → IsAmong p ps → IsCode p
code_among [] all p among = absurd among
code_among (q ∷ ps) all p (inl same) = subst IsCode same (All-head IsPlatform q ps all)
code_among (q ∷ ps) all p (inr later) = code_among ps (All-tail IsPlatform q ps all) p later

pub grounds_of : Laws → (roster : RosterRecord) → IsRoster roster → Grounds roster
grounds_of laws roster form = record {
  codes = code_among roster.platforms form.platforms.each;
  carriers = λ provider code party is.
      laws.party roster party form (laws.carrier roster provider code party form is);
  one_signer = laws.one_signer roster;
  keeps = λ keys me diary now request step legal may steps.
      laws.keeps roster keys me diary now request step form legal may steps;
  sealed = laws.sealed;
}
