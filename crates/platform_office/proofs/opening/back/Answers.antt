use Rattle.std.proofs.Common.{◌++◌, ◌∷◌, [], List, map, reverse, ap, ◌∙◌}
use Rattle.std.proofs.lemmas.List.{reverse-append}
use Rattle.platform_office.specs.Opening.{rack_of}
use Rattle.platform_office.proofs.opening.back.Goals as goal

pub returns : goal.returns
returns g c =
    c.racks_of.ensures
    ∙ ap (λ (l : List _). map rack_of c.args.opened.items ++ reverse l) c.push_reserved.ensures.items
    ∙ ap (λ (l : List _). map rack_of c.args.opened.items ++ l)
    (reverse-append c.args.rest.items (c.args.refused ∷ []))
