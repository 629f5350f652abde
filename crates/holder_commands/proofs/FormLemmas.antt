-- A command that was read has the form.
use Rattle.std.proofs.Common.{◌≡◌, Option, Ok}
use Rattle.std.specs.Prelude.{IfSome}
use Rattle.canonical_json.specs.Value.{Value}
use Rattle.json_forms.specs.Reading.{optional, party_in}
use Rattle.json_forms.proofs.ReadForms.{optional_form}
use Rattle.chain_entry.proofs.RoundTrips.{party_form}
use Rattle.ebl_base.specs.Party.{IsParty}
use Rattle.ebl_base.specs.declared.party.Party.{Party}

-- a recipient that was read is a party
pub IsParty-read : (found : Option Value) (recipient : Option Party) → optional party_in found ≡ Ok recipient
    → IfSome recipient IsParty
IsParty-read = optional_form party_in IsParty party_form
