-- The code of a message is the second of its bytes: what a proxy makes of a response, and an answer of its own, is no request.
use Rattle.std.proofs.Common.{◌≡◌, ℕ, Bool, true, false, refl, ap, ◌∙◌, slice_index_or}
use Rattle.std.specs.Prelude.{if◌then◌else◌}
use Rattle.osc_coap.specs.{is_request_code, spelling}
use Rattle.osc_coap.specs.Message.{Message}
use Rattle.osc_proxy.specs.{is_request, answer_to, failure, answer, kind_of}
use Rattle.osc_model.specs.{code}
use Rattle.osc_options.specs.{has_unrecognised_unsafe}
use Rattle.osc_proxy.specs.declared.exchanges.Exchange.{Exchange}

code_of : (message : Message) → slice_index_or (spelling message) 1 0 ≡ message.code
unfolding spelling
code_of message = refl

pub no_request : (message : Message) → is_request_code message.code ≡ false → is_request (spelling message) ≡ false
no_request message other = ap is_request_code (code_of message) ∙ other

pub answer_is_none : (id : ℕ) (exchange : Exchange) (response : Message) → is_request_code response.code ≡ false
    → is_request_code (answer_to id exchange response).code ≡ false
answer_is_none id exchange response other = by (has_unrecognised_unsafe 0 response.options)
  where
    by : (unsafe : Bool)
        → is_request_code (if unsafe then failure (code 5 2) id exchange else answer (kind_of exchange.confirmable) id exchange.client_token response).code ≡ false
    by true = refl
    by false = other
