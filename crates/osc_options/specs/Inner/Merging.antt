-- Merging from left to right, and options appended: the way from the code to the definitions. No public contract rests on this.
use Rattle.std.specs.Prelude.{ℕ, Bool, true, false, not, ◌&&◌, ◌==◌, nat_lt, List, ◌++◌, Option, Some, None}
use Rattle.osc_coap.specs.declared.kind.Kind.{Kind}
use Rattle.osc_coap.specs.{NumberAndValue, payload_of}
use Rattle.osc_coap.specs.Message.{Message}
use Rattle.osc_coap.specs.Plaintext.{Plaintext}
use Rattle.osc_options.specs.declared.table.Class.TheVariants.{E, U}
use Rattle.osc_options.specs.Numbers.{oscore}
use Rattle.osc_options.specs.Table.{class_of}
use Rattle.osc_options.specs.Split.{same_class}

abbrev pub is_outer : ℕ → Bool
is_outer number = same_class U (class_of number) && not (number == oscore)

abbrev pub is_inner : ℕ → Bool
is_inner number = same_class E (class_of number)

-- whether the option that is next, by the first outer and the first inner one, is no outer one
abbrev pub is_inner_next : Option NumberAndValue → Option NumberAndValue → Bool
is_inner_next None inner = true
is_inner_next (Some outer) None = false
is_inner_next (Some outer) (Some inner) = nat_lt inner.0 outer.0

-- the message and the plaintext with further options
abbrev pub with_options : Message → List NumberAndValue → Message
with_options m options = record m { options = m.options ++ options }

abbrev pub with_inner_options : Plaintext → List NumberAndValue → Plaintext
with_inner_options p options = record p { options = p.options ++ options }

-- the message of these fields, options and payload
abbrev pub message_with : Kind → ℕ → ℕ → List ℕ → List NumberAndValue → List ℕ → Message
message_with kind code id token options payload = record {
  kind = kind;
  code = code;
  id = id;
  token = token;
  options = options;
  payload = payload_of payload;
}
