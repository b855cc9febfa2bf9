use Rattle.std.proofs.Common.{Bor}
use Rattle.toml.specs.View.{table_view, view}
use Rattle.toml.specs.declared.value.Value.{Value}
use Rattle.osc_words.proofs.settings.Bound.{bound_read, none_bound}
use Rattle.osc_words.proofs.settings.Keys.{seen_some, seen_none}
use Rattle.osc_words.proofs.settings.addresses.addresses_at.Goals as goal

pub returns-in-Some : goal.returns-in-Some
returns-in-Some c =
    let there = seen_some (λ (value : Bor Value). view value.now) c.value_at.result _ c.in-Some.value c.value_at.ensures c.in-Some.is in
    bound_read c.args.key (λ xs. xs.items) (table_view c.args.table.now) (view c.in-Some.value.now) c.addresses.result c.read_at.result there c.addresses.ensures c.read_at.ensures

pub returns-in-None : goal.returns-in-None
returns-in-None c =
    let none = seen_none (λ (value : Bor Value). view value.now) c.value_at.result _ c.value_at.ensures c.in-None.is in
    none_bound c.args.key (table_view c.args.table.now) none
