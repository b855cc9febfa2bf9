use Rattle.std.proofs.Common.{◌≡◌, [], sym, ◌∙◌}
use Rattle.toml.specs.View.{table_view}
use Rattle.osc_words.specs.Settings.{IsLeftOut, SpelledAt, name_of, SpellsBytes}
use Rattle.osc_words.specs.declared.settings.key.SettingsKey.TheVariants as key
use Rattle.osc_words.proofs.settings.Parts.{or_left_out}
use Rattle.osc_words.proofs.settings.client.salt.Goals as goal

pub returns-then-has : goal.returns-then-has
returns-then-has c =
    let document = table_view c.args.table.now in
    or_left_out key.Salt (λ name. SpelledAt name (SpellsBytes 0 64)) document (λ salt. IsLeftOut (name_of key.Salt) document × (salt ≡ [])) c.bytes_within_at.result
    (sym c.has.ensures ∙ c.if-has.true) c.bytes_within_at.ensures
