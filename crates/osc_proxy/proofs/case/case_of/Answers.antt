use Rattle.std.proofs.Common.{refl, sym, ap, true, false, ◌∙◌, ◌≡◌}
use Rattle.osc_coap.specs.{is_request_code, is_response_code}
use Rattle.osc_proxy.proofs.case.case_of.Goals as goal

-- of what is no request nothing is asked but that something is named, or nothing

pub returns-then-is_response_code-clause-case : goal.returns-then-is_response_code-clause-case
returns-then-is_response_code-clause-case c =
    let message = c.args.message.now in
    let named = c.something_is_named.ensures message.options in
    let other : is_request_code message.code ≡ false =
    sym (ap is_request_code c.code.ensures.value) ∙ sym c.is_request_code.ensures.value ∙ c.if-is_request_code.false in
    let response : is_response_code message.code ≡ true =
    sym (ap is_response_code c.code-else-is_request_code.ensures.value) ∙ sym c.is_response_code.ensures.value ∙ c.if-is_response_code.true in
    (named.0, named.1, c.response_case.ensures.case ∙ rw (other, response) refl)

pub response_case-requires-clause-response : goal.response_case-requires-clause-response
response_case-requires-clause-response c =
    sym (ap is_request_code c.code.ensures.value) ∙ sym c.is_request_code.ensures.value ∙ c.if-is_request_code.false

pub returns-else-is_response_code-clause-case : goal.returns-else-is_response_code-clause-case
returns-else-is_response_code-clause-case c =
    let message = c.args.message.now in
    let named = c.something_is_named.ensures message.options in
    let other : is_request_code message.code ≡ false =
    sym (ap is_request_code c.code.ensures.value) ∙ sym c.is_request_code.ensures.value ∙ c.if-is_request_code.false in
    let none : is_response_code message.code ≡ false =
    sym (ap is_response_code c.code-else-is_request_code.ensures.value) ∙ sym c.is_response_code.ensures.value ∙ c.if-is_response_code.false in
    (named.0, named.1, rw (other, none) refl)
