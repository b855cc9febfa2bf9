-- What goes outside of a sealed reply: a message of one empty option.
use Rattle.std.proofs.Common.{◌≡◌, ℕ, ◌+◌, List, [], length, sym, ap, ◌∙◌}
use Rattle.osc_coap.specs.declared.kind.Kind.{Kind}
use Rattle.osc_coap.specs.{bare, last_number, option_length, spelling, with_option}
use Rattle.osc_coap.specs.Message.{Message}
use Rattle.osc_protect.specs.Inner.Outside.{outer_response}
use Rattle.osc_protect.specs.declared.header.Header.{Header}
use Rattle.osc_protect.proofs.ValueWriting.{response_value-none}

pub one_empty_option : (header : Header) → with_option (bare header.kind 68 header.id header.token.now) 9 [] ≡ outer_response header []
one_empty_option header = ap (λ (value : List ℕ). with_option (bare header.kind 68 header.id header.token.now) 9 value) (sym response_value-none)

-- header, token, and a byte for the option
pub start_length : ((kind : Kind) (code id : ℕ) (token : List ℕ) → length (spelling (bare kind code id token)) ≡ 4 + length token)
    → ((m : Message) (number : ℕ) (value : List ℕ) → length (spelling (with_option m number value)) ≡ length (spelling m) + option_length (last_number 0 m.options) (number, value))
    → (header : Header) → length (spelling (outer_response header [])) ≡ 4 + length header.token.now + 1
start_length bare_law option_law header =
    let start = bare header.kind 68 header.id header.token.now in
    ap (λ (m : Message). length (spelling m)) (sym (one_empty_option header))
    ∙ option_law start 9 []
    ∙ ap (λ (n : ℕ). n + 1) (bare_law header.kind 68 header.id header.token.now)
