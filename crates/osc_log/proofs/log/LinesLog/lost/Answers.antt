use Rattle.std.proofs.Common.{◌∙◌, Some, ap, refl}
use Rattle.osc_log.specs.{lost_text}
use Rattle.osc_log.specs.declared.counters.Counters.{Counters}
use Rattle.osc_log.proofs.Telling.{tells_lost}
use Rattle.osc_log.proofs.log.LinesLog.lost.Goals as goal

pub returns : goal.returns
returns g c =
    let old = c.args.self.now in
    let text = c.as_bytes.ensures.value ∙ c.deref.ensures.0 ∙ c.lost_line.ensures ∙ ap (lost_text old.form) c.as_str.ensures.value in
    tells_lost _ _ c.args.now old.seen _ c.time_text-time.result.bytes c.as_bytes.result.now refl refl
    (ap (λ (counters : Counters). Some (record old.seen { counters = counters })) c.with_lost-self.ensures) c.time_text-time.ensures text c.admit.ensures c.put.ensures
