use Rattle.std.proofs.Common.{◌∙◌, ap, subst}
use Rattle.osc_log.specs.{untold_text}
use Rattle.osc_log.specs.Output.{written_by}
use Rattle.osc_log.specs.Output.{Puts}
use Rattle.osc_log.proofs.log.put_untold.Goals as goal

pub returns : goal.returns
returns g c =
    let text = c.as_bytes.ensures.value ∙ c.deref.ensures.0 ∙ c.untold_line.ensures ∙ ap (untold_text c.args.form) c.as_str.ensures.value in
    (c.time_text-time.result.bytes, c.time_text-time.ensures, subst (Puts (written_by g.W.Write.contents c.args.output.now) (written_by g.W.Write.contents c.put.new.self)) text c.put.ensures)
