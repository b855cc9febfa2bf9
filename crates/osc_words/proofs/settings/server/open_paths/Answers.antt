use Rattle.std.proofs.Common.{List, Bor}
use Rattle.toml.specs.View.{items_view, table_view}
use Rattle.toml.specs.declared.value.Value.{Value}
use Rattle.osc_words.specs.Settings.{IsPathText}
use Rattle.osc_words.specs.declared.settings.key.SettingsKey.TheVariants as key
use Rattle.osc_words.proofs.settings.Keys.{seen_some, seen_none}
use Rattle.osc_words.proofs.settings.Listed.{listed_read, unlisted}
use Rattle.osc_words.proofs.settings.server.open_paths.Goals as goal

pub returns-in-Some : goal.returns-in-Some
returns-in-Some c =
    let there = seen_some (λ (items : Bor (List Value)). items_view items.now) c.items_at.result _ c.in-Some.values c.items_at.ensures c.in-Some.is in
    listed_read key.Open IsPathText (λ xs. xs.items) (table_view c.args.table.now) (items_view c.in-Some.values.now) c.paths.result c.read_at.result there c.paths.ensures c.read_at.ensures

pub returns-in-None : goal.returns-in-None
returns-in-None c =
    let none = seen_none (λ (items : Bor (List Value)). items_view items.now) c.items_at.result _ c.items_at.ensures c.in-None.is in
    unlisted key.Open IsPathText (table_view c.args.table.now) c.untyped_at.result none c.untyped_at.ensures
