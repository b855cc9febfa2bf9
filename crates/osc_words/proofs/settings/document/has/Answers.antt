use Rattle.std.proofs.Common.{Bor, ◌∙◌}
use Rattle.toml.specs.View.{view}
use Rattle.toml.specs.declared.value.Value.{Value}
use Rattle.osc_words.proofs.settings.Keys.{some_alike}
use Rattle.osc_words.proofs.settings.document.has.Goals as goal

pub returns : goal.returns
returns c = c.is_some.ensures ∙ some_alike (λ (value : Bor Value). view value.now) c.value_at.result _ c.value_at.ensures
