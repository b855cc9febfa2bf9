use Rattle.osc_script.proofs.Nodes.{proxy_read}
use Rattle.osc_script.proofs.words.proxy_of.Goals as goal

pub returns : goal.returns
returns c = proxy_read c.args.digit c.new.result c.new.ensures.value c.new.ensures.some
