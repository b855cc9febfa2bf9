use Rattle.std.proofs.Common.{◌∙◌, ap}
use Rattle.osc_log.proofs.time.time_text.Goals as goal

pub returns : goal.returns
returns c =
    let given = c.precision.ensures in
    let new = c.new.ensures in
    let lower = ap (λ o. o.0) given ∙ ap (λ o. o.0) new in
    let separator = ap (λ o. o.1) given ∙ ap (λ o. o.1) new in
    let places = ap (λ o. o.2) given in
    let text = c.timestamp_text.ensures in
    (text.0, text.1 ∙ ap (λ t. t.nanosecond) c.to_plain.ensures ∙ c.instant_of.ensures, rw (lower, separator, places) at text.2)
