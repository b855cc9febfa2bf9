use Rattle.osc_lab.specs.{in_script}
use Rattle.osc_lab.proofs.Endings.{turns_whole}
use Rattle.osc_lab.proofs.Labs.{uses}
use Rattle.osc_lab.proofs.run.lab.Goals as goal

pub returns-in-Ok-clause-early : goal.returns-in-Ok-clause-early
returns-in-Ok-clause-early g c = λ no_end.
    in_script c.in-Ok.script (uses (g.I.Read.remaining c.args.reader.now) c.in-Ok.script c.in-Ok.ensures.read c.in-Ok.ensures.used) (c.lab_of.ensures.early no_end)

pub returns-in-Ok-clause-long : goal.returns-in-Ok-clause-long
returns-in-Ok-clause-long g c = λ long. absurd (turns_whole c.lab_of.result c.lab_of.ensures.ends long)
