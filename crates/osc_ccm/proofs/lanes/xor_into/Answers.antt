use Rattle.std.proofs.Common.{rules}
use Rattle.osc_ccm.proofs.XorLemmas.{stored}
use Rattle.osc_ccm.proofs.lanes.xor_into.Goals as goal

pub returns : goal.returns
returns c = stored c.args.bytes.now c.args.block c.requires (search rules)
