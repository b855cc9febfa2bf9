use Rattle.std.proofs.Common.{arith, tests, ◌≡◌, ◌++◌, ◌<◌, ◌∙◌, refl, ap, length, take, drop, min, map, Bor, List, ℕ}
use Rattle.std.proofs.lemmas.List.{drop_min}
use Rattle.osc_model.specs.{pieces}
use Rattle.osc_model.proofs.Pieces.{finished, pushed}
use Rattle.osc_model.proofs.revocation.add_pieces.Goals as goal

pub pieces-init : goal.pieces-init
pieces-init c = refl

pub pieces-smaller : goal.pieces-smaller
pieces-smaller c = grind (arith, tests, c.is_empty.ensures, c.pieces-test.true, c.min.ensures, c.split_at.ensures.back_len)

pub pieces-preserved : goal.pieces-preserved
pieces-preserved c =
    let rest = c.pieces.rest.now in
    let some : 0 < length rest = grind (arith, tests, c.is_empty.ensures, c.pieces-test.true) in
    let is_min : c.min.result ≡ min 32 (length rest) = grind (arith, tests, c.min.ensures) in
    ap (λ l. map (λ (segment : Bor (List ℕ)). segment.now) l ++ pieces (length c.split_at.result.1.now) c.split_at.result.1.now) c.in_ok-push.ensures.items
    ∙ pushed c.pieces.segments.items c.split_at.result.0 rest c.split_at.result.1.now some
    (c.split_at.ensures.front ∙ ap (λ n. take n rest) is_min) (c.split_at.ensures.back ∙ ap (λ n. drop n rest) is_min) (drop_min 32 rest)
    ∙ c.pieces.invariant

pub returns : goal.returns
returns c = finished _ _ c.pieces.rest.now (grind (arith, tests, c.is_empty.ensures, c.pieces-test.false)) c.pieces.invariant
