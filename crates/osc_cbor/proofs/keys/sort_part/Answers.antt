use Rattle.std.proofs.Common.{◌-◌, take, subst, List}
use Rattle.std.specs.List.Sorted.{IsPermutation}
use Rattle.std.proofs.lemmas.List.Sorted.{IsPermutation-append_left, IsPermutation-append_right}
use borrow.Rule.Slice.PartMut.{put_mid, post_of, put_same}
use Rattle.osc_cbor.specs.declared.keys.Key.{Key}
use Rattle.osc_cbor.proofs.keys.sort_part.Goals as goal

pub returns-clause-permutation : goal.returns-clause-permutation
returns-clause-permutation c =
    let n = c.args.end - c.args.start in
    subst (λ (x : List Key). IsPermutation x (put_mid c.args.start n c.args.keys.now c.sort_unstable_by.new.self)) (put_same c.args.start n c.args.keys.now)
    (IsPermutation-append_right (take c.args.start c.args.keys.now) _ _ (IsPermutation-append_left (post_of c.args.start n c.args.keys.now) _ _ c.sort_unstable_by.ensures.permutation))
