use Rattle.std.proofs.Common.{List, ℕ, sym, ap, ◌∙◌}
use Rattle.osc_context.specs.{common_iv_of, nonce}
use Rattle.osc_context.proofs.laws.nonces_of_a_key.Goals as goal

pub returns : goal.returns
returns c = λ a b x y m n secret salt context alg short_x short_y few_m few_n same.
    let iv = c.one_derivation.ensures.common_iv a b secret salt context alg in
    c.distinct_nonces.ensures (common_iv_of b) x y m n (c.derived_lengths.ensures.common_iv b) short_x short_y few_m few_n (ap (λ (bytes : List ℕ). nonce bytes x m) (sym iv) ∙ same)
