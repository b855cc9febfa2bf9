use Rattle.std.proofs.Common.{◌≡◌, ◌+◌, ◌-◌, length, drop, ap, sym, ◌∙◌, arith, suc}
use Rattle.indexmap.specs.Layout.{set_value_at, length-set_value_at}
use Rattle.osc_dedup.specs.{nothing}
use Rattle.osc_dedup.proofs.Places.{drop_past, one_more_gone, keys_stay}
use Rattle.osc_dedup.proofs.table.make_place.Goals as goal

pub returns-clause-left : goal.returns-clause-left
returns-clause-left c =
    let es = c.args.table.now.entries in
    let over : length es - c.args.gone - 63 ≡ 1 = omega (arith, c.requires.few, c.len.ensures.len, c.if-len-gone-lt-MOST_NOTES.false) in
    let more : c.args.gone + 1 ≡ suc c.args.gone = omega arith in
    ap (λ m. drop (c.args.gone + 1) m.entries) c.let_go.ensures ∙ ap (λ n. drop n (set_value_at es c.args.gone nothing)) more ∙ drop_past es c.args.gone nothing ∙ ap (λ n. drop n (drop c.args.gone es)) (sym over)

pub returns-clause-within : goal.returns-clause-within
returns-clause-within c =
    let long : length c.let_go.new.table.entries ≡ length c.args.table.now.entries =
    ap (λ m. length m.entries) c.let_go.ensures ∙ length-set_value_at c.args.table.now.entries c.args.gone nothing in
    omega (arith, long, c.len.ensures.len, c.if-len-gone-lt-MOST_NOTES.false)

pub returns-clause-few : goal.returns-clause-few
returns-clause-few c =
    let long : length c.let_go.new.table.entries ≡ length c.args.table.now.entries =
    ap (λ m. length m.entries) c.let_go.ensures ∙ length-set_value_at c.args.table.now.entries c.args.gone nothing in
    omega (arith, long, c.requires.few)

pub returns-clause-gone : goal.returns-clause-gone
returns-clause-gone c =
    let more : c.args.gone + 1 ≡ suc c.args.gone = omega arith in
    rw (more, c.let_go.ensures) (one_more_gone c.args.table.now.entries c.args.gone c.requires.gone)

pub returns-clause-keys : goal.returns-clause-keys
returns-clause-keys c =
    rw c.let_go.ensures (keys_stay c.args.table.now.entries c.args.gone nothing)
