use Rattle.std.proofs.Common.{◌++◌, [], ◌∷◌, ℕ, ◌+◌, true, false, refl, ap, ◌∙◌}
use Rattle.std.proofs.lemmas.Bool.{ne_eqb}
use Rattle.osc_cbor.specs.{bool, null, simple_at}
use Rattle.osc_cbor.proofs.pass.pass_simple.Goals as goal
use Rattle.osc_cbor.proofs.pass.pass_simple.Goals.{else-bits-ne20-via-then-bits-ne20+then-bits-ne21+else-bits-ne22, else-bits-ne20-via-then-bits-ne20+else-bits-ne21, else-bits-ne20-via-else-bits-ne20}

pub returns-then-bits-ne22-clause-passed : goal.returns-then-bits-ne22-clause-passed
unfolding simple_at
returns-then-bits-ne22-clause-passed c = rw (ne_eqb c.args.bits 20 c.if-bits-ne20.true, ne_eqb c.args.bits 21 c.if-bits-ne21.true, ne_eqb c.args.bits 22 c.if-bits-ne22.true) refl

pub returns-clause-passed : goal.returns-clause-passed
unfolding simple_at
returns-clause-passed c =
    elim c.else-bits-ne20.branch [
      | else-bits-ne20-via-then-bits-ne20+then-bits-ne21+else-bits-ne22 w ↦ let h = w.if-bits-ne22.false in (null, rw h refl, c.in_ok-note.ensures ∙ ap (λ (n : ℕ). c.args.spelled.now.items ++ (224 + n) ∷ []) h)
      | else-bits-ne20-via-then-bits-ne20+else-bits-ne21 w ↦ let h = w.if-bits-ne21.false in (bool true, rw h refl, c.in_ok-note.ensures ∙ ap (λ (n : ℕ). c.args.spelled.now.items ++ (224 + n) ∷ []) h)
      | else-bits-ne20-via-else-bits-ne20 w ↦ let h = w.if-bits-ne20.false in (bool false, rw h refl, c.in_ok-note.ensures ∙ ap (λ (n : ℕ). c.args.spelled.now.items ++ (224 + n) ∷ []) h)
    ]
