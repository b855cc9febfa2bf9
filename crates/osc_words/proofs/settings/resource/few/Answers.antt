use Rattle.osc_model.specs.{most_resources}
use Rattle.osc_words.specs.Settings.{IsResourceTable}
use Rattle.osc_words.proofs.settings.Few.{are_few, too_many}
use Rattle.osc_words.proofs.settings.resource.few.Goals as goal

pub returns-then-values-gt-MOST_RESOURCES : goal.returns-then-values-gt-MOST_RESOURCES
returns-then-values-gt-MOST_RESOURCES c = too_many most_resources IsResourceTable c.args.values.now c.if-values-gt-MOST_RESOURCES.true

pub returns : goal.returns
returns c = are_few most_resources IsResourceTable (λ xs. xs.items) c.args.values.now c.all.result c.if-values-gt-MOST_RESOURCES.false c.all.ensures
