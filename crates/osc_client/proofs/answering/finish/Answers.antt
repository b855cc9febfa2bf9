use Rattle.std.proofs.Common.{rules, ◌≡◌, ◌≢◌, ◌∙◌, ap, sym, [], Ok, Err, refl, unwrap_or}
use Rattle.osc_authz.specs.Begun.{Begun}
use Rattle.osc_authz.specs.declared.error.FinishError.TheVariants.{Fields, EqualIds, Memory}
use Rattle.osc_client.proofs.answering.finish.Goals as goal

pub returns-in-Ok-clause-finished : goal.returns-in-Ok-clause-finished
returns-in-Ok-clause-finished c =
    let whole : (handed : Begun) → c.finish.result ≢ Err (Memory handed) = λ handed e. let wrong : Ok c.in-Ok.made ≡ Err (Memory handed) = sym c.in-Ok.is ∙ e in cc in
    let payload : c.unwrap_or-payload.result.now ≡ unwrap_or c.args.message.now.payload [] = search rules in
    let came = c.finish.ensures.finished whole in
    (record { came = Ok c.in-Ok.made; finishes = rw (c.code.ensures.value, payload, c.in-Ok.is) at came; is = refl }, tt)

pub returns-in-Err-Fields-clause-finished : goal.returns-in-Err-Fields-clause-finished
returns-in-Err-Fields-clause-finished c =
    let is : c.finish.result ≡ Err Fields = c.in-Err-Fields.is ∙ ap Err c.in-Err-Fields.field-0-is in
    let whole : (handed : Begun) → c.finish.result ≢ Err (Memory handed) = λ handed e. let wrong : Err Fields ≡ Err (Memory handed) = sym is ∙ e in cc in
    let payload : c.unwrap_or-payload.result.now ≡ unwrap_or c.args.message.now.payload [] = search rules in
    let came = c.finish.ensures.finished whole in
    (record { came = Err Fields; finishes = rw (c.code.ensures.value, payload, is) at came; is = refl }, tt)

pub returns-in-Err-EqualIds-clause-finished : goal.returns-in-Err-EqualIds-clause-finished
returns-in-Err-EqualIds-clause-finished c =
    let is : c.finish.result ≡ Err EqualIds = c.in-Err-EqualIds.is ∙ ap Err c.in-Err-EqualIds.field-0-is in
    let whole : (handed : Begun) → c.finish.result ≢ Err (Memory handed) = λ handed e. let wrong : Err EqualIds ≡ Err (Memory handed) = sym is ∙ e in cc in
    let payload : c.unwrap_or-payload.result.now ≡ unwrap_or c.args.message.now.payload [] = search rules in
    let came = c.finish.ensures.finished whole in
    (record { came = Err EqualIds; finishes = rw (c.code.ensures.value, payload, is) at came; is = refl }, tt)
