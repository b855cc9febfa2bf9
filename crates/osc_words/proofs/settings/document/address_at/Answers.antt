use Rattle.std.proofs.Common.{ℕ, List, Bor}
use Rattle.toml.specs.View.{table_view}
use Rattle.osc_words.specs.Settings.{IsAddressFrom}
use Rattle.osc_words.proofs.settings.Keys.{seen_some, seen_none}
use Rattle.osc_words.proofs.settings.Spelled.{spelled_read, unspelled}
use Rattle.osc_words.proofs.settings.document.address_at.Goals as goal

pub returns-in-Some : goal.returns-in-Some
returns-in-Some c =
    let there = seen_some (λ (text : Bor (List ℕ)). text.now) c.text_at.result _ c.in-Some.text c.text_at.ensures c.in-Some.is in
    spelled_read c.args.key (IsAddressFrom c.args.least) (table_view c.args.table.now) c.in-Some.text.now c.address.result c.read_at.result there c.address.ensures c.read_at.ensures

pub returns-in-None : goal.returns-in-None
returns-in-None c =
    let none = seen_none (λ (text : Bor (List ℕ)). text.now) c.text_at.result _ c.text_at.ensures c.in-None.is in
    unspelled c.args.key (IsAddressFrom c.args.least) (table_view c.args.table.now) c.untyped_at.result none c.untyped_at.ensures
