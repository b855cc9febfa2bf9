use Rattle.std.proofs.Common.{List, Bor}
use Rattle.toml.specs.View.{items_view, table_view}
use Rattle.toml.specs.declared.value.Value.{Value}
use Rattle.osc_words.proofs.settings.Keys.{seen_some, seen_none}
use Rattle.osc_words.proofs.settings.Listed.{no_targets, targets_read}
use Rattle.osc_words.proofs.settings.proxy.all_targets.Goals as goal

pub returns-in-Some : goal.returns-in-Some
returns-in-Some c =
    let there = seen_some (λ (items : Bor (List Value)). items_view items.now) c.items_at.result _ c.in-Some.values c.items_at.ensures c.in-Some.is in
    targets_read (λ xs. xs.items) (table_view c.args.table.now) (items_view c.in-Some.values.now) c.targets.result there c.targets.ensures

pub returns-in-None : goal.returns-in-None
returns-in-None c =
    let none = seen_none (λ (items : Bor (List Value)). items_view items.now) c.items_at.result _ c.items_at.ensures c.in-None.is in
    no_targets (table_view c.args.table.now) c.untyped_at.result none c.untyped_at.ensures
