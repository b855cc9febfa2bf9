use Rattle.std.proofs.Common.{◌∙◌, ap, ap₂, sym}
use Rattle.std.proofs.lemmas.Result.{IfOk-weaker}
use Rattle.osc_programs.specs.Context.{aiocoap_text, context_text, json_text, libcoap_text}
use Rattle.osc_programs.proofs.context_text.context_text.Goals as goal

pub returns-in-Libcoap : goal.returns-in-Libcoap
returns-in-Libcoap c =
    let name = c.deref.ensures ∙ c.name-name.ensures in
    IfOk-weaker c.libcoap_text.result _ _
    (λ text e. e ∙ (ap (λ name. libcoap_text name) name ∙ sym (ap (λ form. context_text form c.args.context.now) c.in-Libcoap.is))) c.libcoap_text.ensures

pub returns-in-Aiocoap : goal.returns-in-Aiocoap
returns-in-Aiocoap c =
    let name = c.deref-in-Aiocoap.ensures ∙ c.name-name.ensures in
    IfOk-weaker c.aiocoap_text.result _ _
    (λ text e. e ∙ (ap (λ name. aiocoap_text name) name ∙ sym (ap (λ form. context_text form c.args.context.now) c.in-Aiocoap.is))) c.aiocoap_text.ensures

pub returns-in-Json : goal.returns-in-Json
returns-in-Json c =
    let name = c.deref-in-Json.ensures ∙ c.name-name.ensures in
    let next = c.next_number.ensures ∙ ap (λ sender. sender.next) c.sender.ensures in
    IfOk-weaker c.json_text.result _ _
    (λ text e. e
    ∙ (ap₂ (λ name next. json_text (record { name = name; next = next })) name next ∙ sym (ap (λ form. context_text form c.args.context.now) c.in-Json.is)))
    c.json_text.ensures
