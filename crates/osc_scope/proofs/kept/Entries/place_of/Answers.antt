use Rattle.std.proofs.Common.{rules, of_calls, ◌≡◌, ap₂, ◌∙◌, subst, sym}
use Rattle.std.proofs.lemmas.Fn.{always_returns_same}
use Rattle.osc_scope.specs.Inner.Kept.{pairs_at, AreInOrder, IsPlaceOf}
use Rattle.osc_scope.proofs.OrderLemmas.{is_before_at, places_parted, placed}
use Rattle.osc_scope.proofs.kept.Entries.place_of.Goals as goal

pub returns : goal.returns
returns c =
    let texts = c.as_slice-texts.result.now in
    let places = c.deref.result.now in
    let path = c.args.path.now in
    let is : pairs_at texts places ≡ c.args.self.now = ap₂ pairs_at c.as_slice-texts.ensures.value c.deref.ensures.value ∙ c.self.view_is in
    let up : AreInOrder (pairs_at texts places) = subst AreInOrder (sym is) c.requires in
    let point = c.partition_point.ensures.partitioned (is_before_at texts places path) (always_returns_same _ _ _ (λ a r f k. search (rules, of_calls))) (places_parted texts places path up) in
    subst (λ pairs. IsPlaceOf path pairs c.partition_point.result) is
    (placed texts places path c.partition_point.result c.partition_point.ensures.bound point)
