use Rattle.std.proofs.Common.{◌≡◌, ℕ, ◌+◌, ◌-◌, ◌/◌, ◌%◌, ◌∷◌, ◌++◌, length, take, drop, replicate, ap, ◌∙◌, arith}
use Rattle.osc_ccm.proofs.BlockLemmas.{filled_pair}
use Rattle.osc_ccm.proofs.mac.first_of_aad.Goals as goal

pub returns : goal.returns
returns c =
    let aad = c.args.aad.now in
    let n = c.min-count.result in
    let back : 2 + n - 2 ≡ n = omega arith in
    ap (λ l. length aad / 256 ∷ length aad % 256 ∷ (l ++ drop (2 + n - 2) (replicate {A = ℕ} 14 0))) c.copy_from_slice.ensures.after
    ∙ ap (λ k. length aad / 256 ∷ length aad % 256 ∷ (take n aad ++ drop k (replicate {A = ℕ} 14 0))) back
    ∙ filled_pair (length aad / 256) (length aad % 256) n aad c.min-count.ensures
