use Rattle.std.proofs.Common.{◌≡◌, ◌<◌, All, get_or, length, slice_index, take, arith, rules, sym, subst}
use Rattle.std.proofs.lemmas.List.{get_or_default}
use Rattle.std.proofs.lemmas.List.Elements.{All-take}
use Rattle.upload_state.proofs.reference.first_bytes.Goals as goal

pub returns-clause-bytes : goal.returns-clause-bytes
returns-clause-bytes c =
    let text = c.args.text.now in
    let same : c.copy_from_slice.new.self ≡ take 16 text = search rules in
    let bytes : All (λ b. b < 256) text = λ k d lt.
    let byte : slice_index text k < 256 = let fits = c.type_inv.text k in omega (arith, fits) in
    subst (λ b. b < 256) (sym (get_or_default text k d 0 lt)) byte in
    subst (All (λ b. b < 256)) (sym same) (All-take (λ b. b < 256) 16 text bytes)
