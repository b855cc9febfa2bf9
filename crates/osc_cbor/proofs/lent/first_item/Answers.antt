use Rattle.std.proofs.Common.{List, ℕ, ◌++◌, sym, ap, ◌∙◌}
use Rattle.osc_cbor.proofs.LentLaws.{front_whole, front_read}
use Rattle.osc_cbor.proofs.lent.first_item.Goals as goal

pub invariant_of-item : goal.invariant_of-item
invariant_of-item c =
    let s = c.requires in
    let after = c.after_item-rest.ensures s.first s.front s.rest s.spelled s.whole in
    front_whole c.args.bytes.now c.taken.result.now s (c.taken.ensures s.front (s.whole ∙ ap (λ (x : List ℕ). s.front ++ x) (sym after)))

pub returns : goal.returns
returns c =
    let s = c.requires in
    let after = c.after_item-rest.ensures s.first s.front s.rest s.spelled s.whole in
    front_read c.args.bytes.now c.taken.result.now c.after_item-rest.result.now s (c.taken.ensures s.front (s.whole ∙ ap (λ (x : List ℕ). s.front ++ x) (sym after))) after
