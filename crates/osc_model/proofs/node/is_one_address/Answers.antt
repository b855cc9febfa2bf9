use Rattle.std.proofs.Common.{rules, arith, ◌∙◌, ◌&&◌, ℕ, nat_eq, ap₂}
use Rattle.osc_model.proofs.Halves.{halves_tell}
use Rattle.osc_model.proofs.node.is_one_address.Goals as goal

pub returns : goal.returns
returns c =
    c.eq.ensures
    ∙ ap₂ (λ (a b : ℕ × ℕ). nat_eq a.0 b.0 && nat_eq a.1 b.1) c.halves.ensures c.halves-2.ensures
    ∙ halves_tell c.args.one.now c.args.other.now (search rules) (search rules) (λ i. omega (arith, c.fits-one i)) (λ i. omega (arith, c.fits-other i))
