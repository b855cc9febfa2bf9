use Rattle.std.proofs.Common.{◌≡◌, ℕ, List, ◌++◌, length, map, take, replicate, get_or, slice_index, refl, sym, ap, ◌∙◌}
use Rattle.std.specs.List.{range_with_len}
use Rattle.osc_aes.proofs.Lanes.{lanes, explicit}
use Rattle.osc_aes.proofs.key_expansion.word_later.Goals as goal

moved : (v : List ℕ) → length v ≡ 16 → map (λ i. get_or (v ++ replicate 16 0) i 0) (replicate 4 16 ++ range_with_len 0 12) ≡ replicate 4 0 ++ take 12 v
moved v long =
    let here : map (λ i. get_or (lanes (slice_index v) ++ replicate 16 0) i 0) (replicate 4 16 ++ range_with_len 0 12) ≡ replicate 4 0 ++ take 12 (lanes (slice_index v)) = refl in
    ap (λ v. map (λ i. get_or (v ++ replicate 16 0) i 0) (replicate 4 16 ++ range_with_len 0 12)) (explicit v long)
    ∙ here
    ∙ sym (ap (λ v. replicate 4 0 ++ take 12 v) (explicit v long))

pub returns : goal.returns
returns c = moved c.args.lanes c.fits-lanes.0
