use Rattle.std.proofs.Common.{rules, ◌∙◌, ap}
use Rattle.osc_script.specs.Inner.Reading.{proxy_with}
use Rattle.osc_script.proofs.Nodes.{proxy_word}
use Rattle.osc_script.proofs.words.proxy.Goals as goal

pub returns-in-112 : goal.returns-in-112
returns-in-112 c = proxy_word c.args.word.now c.proxy_of.result c.in-112.len_at_least c.in-112.len_below (search rules) (c.proxy_of.ensures ∙ ap proxy_with c.saturating_sub.ensures)
