use Rattle.std.proofs.Common.{◌≡◌, ℕ, ◌+◌, ◌*◌, ◌-◌, ◌<◌, ◌≤◌, min, List, [], ◌∷◌, ◌++◌, length, take, refl, sym, ap, ◌∙◌, arith}
use Rattle.osc_hkdf.specs.{hmac_of, output_block, output_blocks, expand_of}
use Rattle.osc_hkdf.specs.Inner.Mac.{Holds}
use Rattle.osc_hkdf.proofs.Output.{begins_inside, all_counted, none_yet, previous_block, output_block-more, one_more, filled}
use borrow.Rule.Slice.PartMut.{put_mid, same_len_mid}
use Rattle.osc_hkdf.proofs.hkdf.fill.Goals as goal

pub loop-i-init : goal.loop-i-init
loop-i-init c = record { kept = refl; blocks = λ prk holds. none_yet prk c.args.info.now c.args.out.now }

pub slice_bounds-previous-end : goal.slice_bounds-previous-end
slice_bounds-previous-end c =
    let inside : 32 * c.loop-i.i < length c.loop-i.out =
    begins_inside c.loop-i.i (length c.loop-i.out) (length c.args.out.now) c.div_ceil-count.result c.loop-i-test.true c.div_ceil-count.ensures c.loop-i.invariant.kept in
    let ends : 32 * c.loop-i.i ≤ length c.loop-i.out = omega arith in
    ends

pub loop-i-preserved : goal.loop-i-preserved
loop-i-preserved c =
    let info : List ℕ = c.args.info.now in
    let out : List ℕ = c.loop-i.out in
    let i : ℕ = c.loop-i.i in
    let block : List ℕ = c.next_block-block.result in
    let written : List ℕ = c.copy_from_slice.new.self in
    let size : ℕ = c.min-end.result - 32 * i in
    let inside : 32 * i < length out =
    begins_inside i (length out) (length c.args.out.now) c.div_ceil-count.result c.loop-i-test.true c.div_ceil-count.ensures c.loop-i.invariant.kept in
    let size_is : size ≡ min (32 * i + 32) (length out) - 32 * i = ap (λ k. k - 32 * i) c.min-end.ensures in
    let kept : length (put_mid (32 * i) size out written) ≡ length out = same_len_mid (32 * i) size out written c.copy_from_slice.ensures.len in
    let more : (prk : List ℕ) → Holds c.args.start.now prk [] → take (32 * (i + 1)) (put_mid (32 * i) size out written) ≡ take (length out) (output_blocks prk info (i + 1)) =
    λ prk holds.
    let before : take (32 * i) out ≡ take (length out) (output_blocks prk info i) = c.loop-i.invariant.blocks prk holds in
    let previous = previous_block prk info out i c.saturating_sub.result inside c.saturating_sub.ensures before in
    let block_is : block ≡ output_block prk info (i + 1) =
    c.next_block-block.ensures prk holds ∙ ap (λ b. hmac_of prk (b ++ info ++ (i + 1) ∷ [])) previous ∙ sym (output_block-more prk info i) in
    ap (λ w. take (32 * (i + 1)) (put_mid (32 * i) size out w)) c.copy_from_slice.ensures.after
    ∙ one_more prk info out block i size inside size_is before block_is in
    record {
      kept = kept ∙ c.loop-i.invariant.kept;
      blocks = λ prk holds. more prk holds ∙ ap (λ n. take n (output_blocks prk info (i + 1))) (sym kept);
    }

pub returns : goal.returns
returns c = λ prk holds.
    let counted = all_counted c.loop-i.i (length c.loop-i.out) (length c.args.out.now) c.div_ceil-count.result c.loop-i.auto.i-end c.loop-i-test.false c.div_ceil-count.ensures c.loop-i.invariant.kept in
    filled prk c.args.info.now c.loop-i.out c.loop-i.i counted (c.loop-i.invariant.blocks prk holds)
    ∙ ap (expand_of prk c.args.info.now) c.loop-i.invariant.kept
