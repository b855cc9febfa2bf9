use Rattle.osc_script.proofs.Scripts.{trimmed, kept, nil_if, no_nil_if}
use Rattle.osc_script.proofs.read.without_empty_last.Goals as goal

pub returns-in-len1-up : goal.returns-in-len1-up
returns-in-len1-up c = trimmed c.args.parts.now _ c.in-len1-up.len_at_least (nil_if _ c.is_empty.result c.is_empty.ensures c.if-is_empty.true)

pub returns-in_default-2 : goal.returns-in_default-2
returns-in_default-2 c = kept c.args.parts.now _ c.in-len1-up.len_at_least (no_nil_if _ c.is_empty.result c.is_empty.ensures c.if-is_empty.false)
