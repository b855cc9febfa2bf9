use Rattle.std.proofs.Common.{◌≡◌, sym, ◌∙◌}
use Rattle.toml.specs.View.{table_view}
use Rattle.osc_words.specs.Settings.{IsLeftOut, IsPortAt, name_of}
use Rattle.osc_words.specs.declared.settings.key.SettingsKey.TheVariants as key
use Rattle.osc_words.proofs.settings.Parts.{or_left_out}
use Rattle.osc_words.proofs.settings.client.origin_port.Goals as goal

pub returns-then-has : goal.returns-then-has
returns-then-has c =
    let document = table_view c.args.table.now in
    or_left_out key.Port IsPortAt document (λ port. IsLeftOut (name_of key.Port) document × (port ≡ 5683)) c.port_at.result
    (sym c.has.ensures ∙ c.if-has.true) c.port_at.ensures
