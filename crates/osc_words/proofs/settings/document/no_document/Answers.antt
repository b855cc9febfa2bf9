use Rattle.std.proofs.Common.{refl, rules}
use Rattle.osc_words.proofs.settings.document.no_document.Goals as goal

pub returns-in-Some-clause-line : goal.returns-in-Some-clause-line
returns-in-Some-clause-line c other = (c.line_at.result, refl, (c.in-Some.span.start, search rules, search rules))
