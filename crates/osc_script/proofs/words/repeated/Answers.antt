use Rattle.std.proofs.Common.{arith, ◌∙◌, ap, replicate}
use Rattle.osc_script.proofs.Payloads.{not_empty, repeated_read, get_inside}
use Rattle.osc_script.proofs.words.repeated.Goals as goal

pub index-requires : goal.index-requires
index-requires c =
    let read = rw c.in-Some.is at c.in_ok-byte.ensures in
    omega (arith, c.in-Some.byte.ok.0, not_empty c.args.pair.now c.in-Some.byte.items read)

pub returns : goal.returns
returns c =
    let read = rw c.in-Some.is at c.in_ok-byte.ensures in
    let count = rw c.in-Some-number.is at c.number.ensures in
    let some = not_empty c.args.pair.now c.in-Some.byte.items read in
    let byte = get_inside c.in-Some.byte.items c.index.result.now some c.index.ensures in
    let few = c.in_ok-vec.ensures.items_if_clones_equal (λ y e. e) ∙ ap (λ n. replicate n c.index.result.now) c.fewer.ensures in
    repeated_read c.args.pair.now c.args.digits.now c.in-Some.byte.items c.in_ok-vec.field-0.items c.in-Some-number.count c.index.result.now c.args.most read count byte few
