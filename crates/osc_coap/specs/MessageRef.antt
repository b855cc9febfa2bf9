-- How a borrowed message is seen, and what it keeps.
use Rattle.std.specs.Prelude.{◌≡◌, ◌++◌, Some}
use Rattle.std.specs.Option.{option_copied}
use Rattle.osc_coap.specs.declared.message.MessageRef.TheInside.{Inside}
use Rattle.osc_coap.specs.Message.{Message, HasSpelling, options_spelling, payload_spelling}
use Rattle.osc_coap.specs.Reading.{body_at, options_in}

abbrev pub view : Inside → Message
view m = record {
  kind = m.kind;
  code = m.code;
  id = m.id;
  token = m.token.now;
  options = options_in 0 m.body.now;
  payload = option_copied m.payload;
}

pub record IsKept (m : Inside) : Type 0 where
  pub lawful : HasSpelling (view m)
  pub spelled : m.body.now ≡ options_spelling 0 (view m).options ++ payload_spelling (view m).payload
  pub read : body_at 0 m.body.now ≡ Some ((view m).options, (view m).payload)
