-- How a borrowed plaintext is seen, and what it keeps.
use Rattle.std.specs.Prelude.{◌≡◌, ◌++◌, Some}
use Rattle.std.specs.Option.{option_copied}
use Rattle.osc_coap.specs.declared.plaintext.PlaintextRef.TheInside.{Inside}
use Rattle.osc_coap.specs.Message.{options_spelling, payload_spelling}
use Rattle.osc_coap.specs.Plaintext.{Plaintext, HasPlaintextSpelling}
use Rattle.osc_coap.specs.Reading.{body_at, options_in}

abbrev pub view : Inside → Plaintext
view p = record {
  code = p.code;
  options = options_in 0 p.body.now;
  payload = option_copied p.payload;
}

pub record IsKept (p : Inside) : Type 0 where
  pub lawful : HasPlaintextSpelling (view p)
  pub spelled : p.body.now ≡ options_spelling 0 (view p).options ++ payload_spelling (view p).payload
  pub read : body_at 0 p.body.now ≡ Some ((view p).options, (view p).payload)
