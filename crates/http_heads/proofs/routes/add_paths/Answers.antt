use Rattle.std.proofs.Common.{ap, ◌∙◌}
use Rattle.http_heads.specs.Route.{paths, with_path}
use Rattle.http_heads.proofs.routes.add_paths.Goals as goal

pub returns : goal.returns
unfolding paths
returns c =
    c.in_ok-add-6.ensures ∙ ap (with_path _ _) (c.in_ok-add-5.ensures ∙ ap (with_path _ _) (c.in_ok-add-4.ensures ∙ ap (with_path _ _) (
    c.in_ok-add-3.ensures ∙ ap (with_path _ _) (c.in_ok-add-2.ensures ∙ ap (with_path _ _) (c.in_ok-add.ensures ∙ ap (with_path _ _) c.requires)))))
