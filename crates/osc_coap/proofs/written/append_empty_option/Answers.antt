use Rattle.std.proofs.Common.{◌≡◌, ℕ, ◌+◌, ◌-◌, ◌*◌, List, [], ◌∷◌, ◌++◌, sym, ap, ◌∙◌, arith}
use Rattle.osc_coap.proofs.BuildLaws.{short_spelling}
use Rattle.osc_coap.proofs.written.append_empty_option.Goals as goal

pub returns-clause-written : goal.returns-clause-written
returns-clause-written c =
    let out = c.args.out.now.items in
    let delta = c.args.number - c.args.before in
    let byte : 16 * delta ≡ 16 * delta + 0 = omega arith in
    c.push_reserved.ensures.items
    ∙ ap (λ (b : ℕ). out ++ b ∷ []) byte
    ∙ ap (λ (t : List ℕ). out ++ t) (sym (short_spelling c.args.before c.args.number [] c.requires.delta (omega arith)))
