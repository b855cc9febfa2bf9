use Rattle.std.proofs.Common.{◌≡◌, ◌∷◌, ◌+◌, List, ℕ, [], drop, sym, ap, subst, ◌∙◌}
use Rattle.std.proofs.lemmas.List.{drop_all}
use Rattle.osc_cbor.specs.Inner.Notes.{pieces}
use Rattle.osc_cbor.proofs.RowLaws.{Compared, compared_start, compared_less, compared_equal, compared_end, pieces-drop}
use Rattle.osc_cbor.proofs.keys.neighbours_say.Goals as goal

pub loop-key-init : goal.loop-key-init
loop-key-init c =
    let whole : pieces c.args.spelled.now c.args.keys.now ≡ c.piece-last.result.now ∷ pieces c.args.spelled.now c.in-Some.others.now =
    ap (pieces c.args.spelled.now) c.in-Some.ensures.cases.0 ∙ ap (λ (x : List ℕ). x ∷ pieces c.args.spelled.now c.in-Some.others.now) (sym c.piece-last.ensures) in
    rw whole (compared_start c.piece-last.result.now (pieces c.args.spelled.now c.in-Some.others.now))

pub returns-in-Equal : goal.returns-in-Equal
returns-in-Equal c =
    let left : pieces c.args.spelled.now (drop c.loop-key.key-index c.in-Some.others.now) ≡ c.piece-this.result.now ∷ pieces c.args.spelled.now (drop (c.loop-key.key-index + 1) c.in-Some.others.now) =
    pieces-drop c.args.spelled.now c.in-Some.others.now c.loop-key.key-index _ c.loop-key-test.true ∙ ap (λ (x : List ℕ). x ∷ pieces c.args.spelled.now (drop (c.loop-key.key-index + 1) c.in-Some.others.now)) (sym c.piece-this.ensures) in
    compared_equal c.loop-key.last.now c.piece-this.result.now _ (pieces c.args.spelled.now c.args.keys.now) (subst (λ (rows : List (List ℕ)). Compared c.loop-key.last.now rows (pieces c.args.spelled.now c.args.keys.now)) left c.loop-key.invariant) (sym c.in-Equal.ensures)

pub loop-key-preserved : goal.loop-key-preserved
loop-key-preserved c =
    let left : pieces c.args.spelled.now (drop c.loop-key.key-index c.in-Some.others.now) ≡ c.piece-this.result.now ∷ pieces c.args.spelled.now (drop (c.loop-key.key-index + 1) c.in-Some.others.now) =
    pieces-drop c.args.spelled.now c.in-Some.others.now c.loop-key.key-index _ c.loop-key-test.true ∙ ap (λ (x : List ℕ). x ∷ pieces c.args.spelled.now (drop (c.loop-key.key-index + 1) c.in-Some.others.now)) (sym c.piece-this.ensures) in
    compared_less c.loop-key.last.now c.piece-this.result.now _ (pieces c.args.spelled.now c.args.keys.now) (subst (λ (rows : List (List ℕ)). Compared c.loop-key.last.now rows (pieces c.args.spelled.now c.args.keys.now)) left c.loop-key.invariant) (sym c.in-Less.ensures)

pub returns : goal.returns
returns c =
    let none : drop c.loop-key.key-index c.in-Some.others.now ≡ [] = drop_all c.loop-key.key-index c.in-Some.others.now c.loop-key-test.false in
    compared_end c.loop-key.last.now (pieces c.args.spelled.now c.args.keys.now)
    (subst (λ rows. Compared c.loop-key.last.now (pieces c.args.spelled.now rows) (pieces c.args.spelled.now c.args.keys.now)) none c.loop-key.invariant)
