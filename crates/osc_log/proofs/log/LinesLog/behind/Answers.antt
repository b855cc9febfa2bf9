use Rattle.std.proofs.Common.{◌∙◌, ap, refl}
use Rattle.osc_log.specs.{behind_text}
use Rattle.osc_log.proofs.Telling.{tells_behind}
use Rattle.osc_log.proofs.log.LinesLog.behind.Goals as goal

pub returns : goal.returns
returns g c =
    let old = c.args.self.now in
    let text = c.as_bytes.ensures.value ∙ c.deref.ensures.0 ∙ c.behind_line.ensures ∙ ap (λ time. behind_text old.form time c.args.seconds) c.as_str.ensures.value in
    tells_behind _ _ c.args.now c.args.seconds old.seen _ c.time_text-time.result.bytes c.as_bytes.result.now refl refl refl c.time_text-time.ensures text c.admit.ensures c.put.ensures
