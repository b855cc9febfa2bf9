use Rattle.std.proofs.Common.{◌∙◌, ◌-◌, ap, length, refl, sym}
use Rattle.osc_log.specs.Faults.{dropped_text}
use Rattle.osc_log.proofs.Outputs.{admitted_all, admitted_part}
use Rattle.osc_log.proofs.output.Output.admit_more.Goals as goal

pub returns-then-taken-len : goal.returns-then-taken-len
returns-then-taken-len g c =
    let self = c.args.self.now in
    let bytes = c.as_bytes.ensures.value ∙ c.deref.ensures.0 in
    let text = bytes ∙ c.dropped_line-line.ensures ∙ ap (λ time. dropped_text c.args.form time (self.dropped - self.admitted)) c.as_str.ensures.value in
    let all = c.if-taken-len.true ∙ c.len.ensures.value ∙ ap length (sym bytes) in
    admitted_all c.args.form c.args.now _ _ c.time_text-time.result.bytes c.as_bytes.result.now c.write_some-taken.result c.time_text-time.ensures text all c.write_some-taken.ensures.appends refl refl

pub returns-else-taken-len : goal.returns-else-taken-len
returns-else-taken-len g c =
    let self = c.args.self.now in
    let bytes = c.as_bytes.ensures.value ∙ c.deref.ensures.0 in
    let text = bytes ∙ c.dropped_line-line.ensures ∙ ap (λ time. dropped_text c.args.form time (self.dropped - self.admitted)) c.as_str.ensures.value in
    let len = c.len.ensures.value ∙ ap length (sym bytes) in
    admitted_part c.args.form c.args.now _ _ c.time_text-time.result.bytes c.as_bytes.result.now c.write_some-taken.result c.time_text-time.ensures text c.write_some-taken.ensures.within
    (λ all. c.if-taken-len.false (all ∙ sym len)) c.write_some-taken.ensures.appends refl refl
