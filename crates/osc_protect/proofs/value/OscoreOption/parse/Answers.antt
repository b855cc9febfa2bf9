use Rattle.std.proofs.Common.{ap, ◌∙◌, arith}
use Rattle.osc_protect.specs.Inner.ValueReading.{value_at}
use Rattle.osc_protect.proofs.ValueLaws.{value_again, found}
use Rattle.osc_protect.proofs.value.OscoreOption.parse.Goals as goal

pub returns-clause-found : goal.returns-clause-found
returns-clause-found c = found c.args.value.now c.read.result (λ i. omega (arith, c.type_inv.value i)) c.read.ensures

pub returns-clause-only : goal.returns-clause-only
returns-clause-only c = λ said spells. c.read.ensures ∙ ap value_at spells.whole ∙ value_again said
