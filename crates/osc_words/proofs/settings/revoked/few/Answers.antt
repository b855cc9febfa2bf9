use Rattle.osc_words.specs.Settings.{IsRevokedId}
use Rattle.osc_words.proofs.settings.Few.{are_few, too_many}
use Rattle.osc_words.proofs.settings.revoked.few.Goals as goal

pub returns-then-values-gt-MOST_TOKENS : goal.returns-then-values-gt-MOST_TOKENS
returns-then-values-gt-MOST_TOKENS c = too_many 64 (IsRevokedId c.args.root.now) c.args.values.now c.if-values-gt-MOST_TOKENS.true

pub returns : goal.returns
returns c = are_few 64 (IsRevokedId c.args.root.now) (λ xs. xs.items) c.args.values.now c.all.result c.if-values-gt-MOST_TOKENS.false c.all.ensures
