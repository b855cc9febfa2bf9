-- What a path was given is what it has.
use Rattle.std.proofs.Common.{◌≡◌, ℕ, cond, List, Option, Some, sym, ap, ◌∙◌}
use Rattle.std.specs.Cmp.{IsTotalOrder, tied_itself}
use Rattle.std.specs.Ordering.{is_eq}
use Rattle.std.specs.FinMap as map
use Rattle.osc_model.specs.{path_cmp}
use Rattle.osc_model.specs.Tree.{Tree}
use Rattle.osc_model.specs.declared.resource.Resource.{Resource}
use Rattle.osc_store.specs.{changed}

pub put_there : IsTotalOrder path_cmp → (tree new : Tree) (path : List ℕ) (resource : Resource) (found : Option Resource)
    → new ≡ map.insert tree path resource → found ≡ map.get new path → changed tree path found ≡ new
put_there total tree new path resource found e f =
    ap (changed tree path)
    (f ∙ (ap (λ (t : Tree). map.get t path) e
    ∙ (map.get-insert total tree path resource path ∙ ap (λ b. cond b (Some resource) (map.get tree path)) (ap is_eq (tied_itself total path)))))
    ∙ sym e
