use Rattle.std.proofs.Common.{rules, ◌∙◌, ap}
use Rattle.osc_script.specs.Inner.Reading.{client_with}
use Rattle.osc_script.proofs.Nodes.{client_word}
use Rattle.osc_script.proofs.words.client.Goals as goal

pub returns-in-99 : goal.returns-in-99
returns-in-99 c = client_word c.args.word.now c.client_of.result c.in-99.len_at_least c.in-99.len_below (search rules) (c.client_of.ensures ∙ ap client_with c.saturating_sub.ensures)
