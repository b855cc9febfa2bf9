-- What is put or removed changes one path.
use Rattle.std.specs.declared.cmp.Ordering.TheVariants.{Less, Equal, Greater}
use Rattle.std.specs.declared.cmp.Ordering.{Ordering}
use Rattle.std.proofs.Common.{◌≡◌, ◌≢◌, ℕ, Bool, true, false, cond, List, Option, Some, None, is_some, refl, sym, ap, ◌∙◌}
use Rattle.std.specs.Cmp.{IsTotalOrder}
use Rattle.std.specs.Ordering.{eq_by_cmp, is_eq}
use Rattle.std.specs.FinMap as map
use Rattle.std.specs.FinMap.{IsAntisymmetric}
use Rattle.osc_model.specs.{path_cmp}
use Rattle.osc_model.specs.Tree.{Tree}
use Rattle.osc_model.specs.declared.resource.Resource.{Resource}
use Rattle.osc_authz.specs.{IsSameBut}

module _ (total : IsTotalOrder path_cmp) (exact : IsAntisymmetric path_cmp) where
  apart : (other path : List ℕ) → other ≢ path → eq_by_cmp path_cmp other path ≡ false
  apart other path differ = by (path_cmp other path) refl
    where
      by : (o : Ordering) → path_cmp other path ≡ o → is_eq o ≡ false
      by Less e = refl
      by Equal e = absurd (differ (exact other path e))
      by Greater e = refl

  pub put : (tree : Tree) (path : List ℕ) (resource : Resource) → IsSameBut tree (map.insert tree path resource) path
  put tree path resource other differ =
      sym (ap is_some (map.get-insert total tree path resource other ∙ ap (λ b. cond b (Some resource) (map.get tree other)) (apart other path differ)))

  pub removed : (tree : Tree) (path : List ℕ) → IsSameBut tree (map.remove tree path) path
  removed tree path other differ =
      sym (ap is_some (map.get-remove total tree path other ∙ ap (λ b. cond b None (map.get tree other)) (apart other path differ)))
