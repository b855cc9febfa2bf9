use Rattle.std.proofs.lemmas.List.{take-replicate}
use Rattle.osc_coap.proofs.body.zeros.Goals as goal

pub returns : goal.returns
returns c = take-replicate c.args.size 1152 0 c.requires
