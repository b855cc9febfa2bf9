use Rattle.osc_script.proofs.Nodes.{client_read}
use Rattle.osc_script.proofs.words.client_of.Goals as goal

pub returns : goal.returns
returns c = client_read c.args.digit c.new.result c.new.ensures.value c.new.ensures.some
