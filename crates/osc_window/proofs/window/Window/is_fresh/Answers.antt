use Rattle.std.proofs.Common.{◌≡◌, ◌<◌, ◌-◌}
use Rattle.std.proofs.lemmas.Bool.{lt-ltb}
use Rattle.std.specs.Int.{bit_at}
use Rattle.osc_window.specs.{numbers_of, width, IsFresh}
use Rattle.osc_window.proofs.Bitmap.{fresh_above, fresh_below, near_when_fresh, clear_when_fresh}
use Rattle.osc_window.proofs.window.Window.is_fresh.Goals as goal

pub returns-then-n-self : goal.returns-then-n-self
returns-then-n-self c =
    let g = c.self.inside.greatest in
    let above : g < c.args.n = c.if-n-self.true in
    ((λ above'. rw (← c.self.view_is) (fresh_above g c.self.inside.bits c.args.n above)), (λ fresh. lt-ltb g c.args.n above))

pub returns-else-n-self : goal.returns-else-n-self
returns-else-n-self c =
    let g = c.self.inside.greatest in
    let bits = c.self.inside.bits in
    let n = c.args.n in (
      (λ clear. let both : (g - n < width) × (bit_at bits (g - n) ≡ 0) = c.is_clear.ensures.0 clear in
          rw (← c.self.view_is) (fresh_below g bits n c.if-n-self.false both.0 both.1)),
      (λ fresh. let kept : IsFresh (numbers_of g bits) n = rw c.self.view_is fresh in
          let near : g - n < width = near_when_fresh g bits n c.self.invariant kept in
          c.is_clear.ensures.1 (near, clear_when_fresh g bits n c.if-n-self.false near kept)),
    )
