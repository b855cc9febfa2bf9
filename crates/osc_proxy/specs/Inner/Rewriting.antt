-- Messages written again option by option: the way from the code to the definitions.
use Rattle.std.specs.Prelude.{ℕ, Bool, true, not, List, filter}
use Rattle.osc_coap.specs.{NumberAndValue}
use Rattle.osc_coap.specs.Message.{Message}
use Rattle.osc_coap.specs.declared.kind.Kind.{Kind}
use Rattle.osc_proxy.specs.Forwarding.{is_taken_out}
use Rattle.osc_proxy.specs.declared.forwarding.Rewriting.{Rewriting}
use Rattle.osc_proxy.specs.declared.forwarding.Rewriting.TheVariants.{Whole, ForTarget}

-- whether an option of this number stays
abbrev pub stays : Rewriting → ℕ → Bool
stays Whole number = true
stays (ForTarget by_uri) number = not (is_taken_out by_uri number)

abbrev pub staying : Rewriting → List NumberAndValue → List NumberAndValue
staying rewriting options = filter (λ option. stays rewriting option.0) options

abbrev pub rewritten : Kind → ℕ → List ℕ → Rewriting → Message → Message
rewritten kind id token rewriting message = record message { kind = kind; id = id; token = token; options = staying rewriting message.options }
