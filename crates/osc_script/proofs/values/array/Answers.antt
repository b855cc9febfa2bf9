use Rattle.osc_script.proofs.Hexadecimal.{array_read}
use Rattle.osc_script.proofs.values.array.Goals as goal

pub returns : goal.returns
returns g c = array_read g.row.N c.args.text.now c.from_hex.result c.ok.result c.from_hex.ensures c.ok.ensures.value
