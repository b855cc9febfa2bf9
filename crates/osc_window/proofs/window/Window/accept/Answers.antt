use Rattle.std.proofs.Common.{◌≡◌, ◌<◌, ◌-◌, bit_or, ap, ◌∙◌}
use Rattle.std.specs.Int.{bit_at, w64}
use Rattle.std.proofs.lemmas.Nat.Bits.{bit_at_set_same, bit_at_set_other}
use Rattle.osc_window.specs.{numbers_of, width, IsFresh, with_accepted}
use Rattle.osc_window.proofs.Bits.{raised_lowest, raised_between, raised_above, stays_set}
use Rattle.osc_window.proofs.Bitmap.{near_when_fresh, numbers_above, numbers_below}
use Rattle.osc_window.proofs.window.Window.accept.Goals as goal

pub overflow_shl-self : goal.overflow_shl-self
unfolding width
overflow_shl-self c =
    let fresh : IsFresh (numbers_of c.self.inside.greatest c.self.inside.bits) c.args.n = rw c.self.view_is c.requires in
    near_when_fresh c.self.inside.greatest c.self.inside.bits c.args.n c.self.invariant fresh

pub invariant_of-self : goal.invariant_of-self
invariant_of-self c = λ some. raised_lowest c.moved_up.result

pub invariant_of-self-else-n-self : goal.invariant_of-self-else-n-self
invariant_of-self-else-n-self c = λ some. stays_set c.self.inside.bits _ 0 (c.self.invariant some)

pub returns-then-n-self : goal.returns-then-n-self
returns-then-n-self c =
    let g = c.self.inside.greatest in
    let bits = c.self.inside.bits in
    let n = c.args.n in
    let more = bit_or c.moved_up.result 1 in
    let above : g < n = c.if-n-self.true in
    let became : numbers_of n more ≡ with_accepted (numbers_of g bits) n =
    numbers_above g bits n more above (raised_lowest c.moved_up.result)
    (λ i some low within. ap (λ k. bit_at (bit_or k 1) i) c.moved_up.ensures ∙ raised_between bits (n - g) width i some low within)
    (λ i some high within. ap (λ k. bit_at (bit_or k 1) i) c.moved_up.ensures ∙ raised_above bits (n - g) width i some high within) in
    became ∙ ap (λ w. with_accepted w n) c.self.view_is

pub returns-else-n-self : goal.returns-else-n-self
unfolding width
returns-else-n-self c =
    let g = c.self.inside.greatest in
    let bits = c.self.inside.bits in
    let n = c.args.n in
    let fresh : IsFresh (numbers_of g bits) n = rw c.self.view_is c.requires in
    let near : g - n < 64 = near_when_fresh g bits n c.self.invariant fresh in
    numbers_below g bits n _ c.if-n-self.false near fresh (bit_at_set_same w64 bits (g - n) near) (bit_at_set_other w64 bits (g - n) near)
    ∙ ap (λ w. with_accepted w n) c.self.view_is
