use Rattle.std.proofs.Common.{String, BTreeMap, Global, Bor}
use Rattle.toml.specs.View.{view, table_view}
use Rattle.toml.specs.declared.value.Value.{Value}
use Rattle.osc_words.proofs.settings.Keys.{seen_some, seen_none}
use Rattle.osc_words.proofs.settings.Spelled.{target_read, no_target}
use Rattle.osc_words.proofs.settings.proxy.target.Goals as goal

pub returns-in-Some : goal.returns-in-Some
returns-in-Some c =
    let there = seen_some (λ (m : Bor (BTreeMap (String Global) Value)). table_view m.now) c.as_table.result _ c.in-Some.table c.as_table.ensures c.in-Some.is in
    target_read (view c.args.value.now) (table_view c.in-Some.table.now) c.target_in.result there c.target_in.ensures

pub returns-in-None : goal.returns-in-None
returns-in-None c =
    let none = seen_none (λ (m : Bor (BTreeMap (String Global) Value)). table_view m.now) c.as_table.result _ c.as_table.ensures c.in-None.is in
    no_target (view c.args.value.now) none
