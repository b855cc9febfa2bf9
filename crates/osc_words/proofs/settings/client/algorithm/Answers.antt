use Rattle.std.proofs.Common.{◌≡◌, sym, ◌∙◌}
use Rattle.toml.specs.View.{table_view}
use Rattle.osc_model.specs.declared.algorithm.Algorithm.TheVariants.{EightByteTag}
use Rattle.osc_words.specs.Settings.{IsAlgorithmAt, IsLeftOut, name_of}
use Rattle.osc_words.specs.declared.settings.key.SettingsKey.TheVariants as key
use Rattle.osc_words.proofs.settings.Parts.{or_left_out}
use Rattle.osc_words.proofs.settings.client.algorithm.Goals as goal

pub returns-then-has : goal.returns-then-has
returns-then-has c =
    let document = table_view c.args.table.now in
    or_left_out key.Alg IsAlgorithmAt document (λ algorithm. IsLeftOut (name_of key.Alg) document × (algorithm ≡ EightByteTag)) c.algorithm_at.result
    (sym c.has.ensures ∙ c.if-has.true) c.algorithm_at.ensures
