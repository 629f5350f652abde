use Rattle.std.proofs.Common.{◌≡◌, true, ap, ◌∙◌, ◌++◌, ◌∷◌}
use Rattle.std.specs.List.{list_all, take_while}
use Rattle.ebl_base.specs.PlatformCode.{is_code_character}
use Rattle.ebl_base.specs.Name35.{is_name_character}
use Rattle.ebl_base.specs.Party.{is_party_character}
use Rattle.ebl_base.proofs.PartyLemmas.{front_passes, code_is_party, name_is_party, written_party}
use Rattle.ebl_base.proofs.party.Party.to_text.Goals as goal

pub returns : goal.returns
returns c =
    let platform = c.as_bytes-platform in
    let name = c.as_bytes-name in
    let self = c.args.self.now in
    let code_passes : list_all is_party_character platform.result.now ≡ true =
    ap (list_all is_party_character) platform.ensures.text ∙ front_passes is_code_character is_party_character code_is_party self.platform.bytes in
    let name_passes : list_all is_party_character name.result.now ≡ true =
    ap (list_all is_party_character) name.ensures.text ∙ front_passes is_name_character is_party_character name_is_party self.code.bytes in
    written_party platform.result.now name.result.now c.put_text.new.bytes c.put_text-2.new.bytes c.put_text-3.new.bytes
    code_passes name_passes c.put_text.ensures c.put_text-2.ensures c.put_text-3.ensures
    ∙ ap (λ l. l ++ 47 ∷ name.result.now) platform.ensures.text ∙ ap (λ l. take_while is_code_character self.platform.bytes ++ 47 ∷ l) name.ensures.text
