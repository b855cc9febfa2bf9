-- What a client's holder may seal that keeps no rule of its own: any text, at any number.
use Rattle.std.specs.Prelude.{◌≡◌, ℕ, ◌+◌, ◌<◌, ◌≤◌, List, [], ◌∷◌, length, Option, Some, None}
use Rattle.osc_model.specs.Refusals as refusal
use Rattle.osc_model.specs.{method_number, message_id_drawn, token_drawn, quiet}
use Rattle.osc_model.specs.declared.code.Method.TheVariants.{Post}
use Rattle.osc_model.specs.declared.context.ContextName.{ContextName}
use Rattle.osc_model.specs.declared.node.Draw.{Draw}
use Rattle.osc_model.specs.declared.node.Moment.{Moment}
use Rattle.osc_model.specs.declared.step.Step.{Step}
use Rattle.osc_coap.specs.{bare, Spells, spelling}
use Rattle.osc_coap.specs.Message.{Message}
use Rattle.osc_coap.specs.declared.kind.Kind.TheVariants.{Confirmable}
use Rattle.osc_context.specs.{algorithm_of}
use Rattle.osc_ccm.specs.{Sealings, Tags}
use Rattle.osc_protect.specs.{IsRequestOf, length_of_request, longest_message}
use Rattle.osc_authz.specs.{ClientContextState}
use Rattle.osc_run.specs.{request_note}
use Rattle.osc_message.specs.{AreSendable, datagram}
use Rattle.osc_client.specs.{AreTold, HostAndPort, refusing, through}
use Rattle.osc_client.specs.State.{State}

-- what goes around a lie: a confirmable POST, with a message ID and a token that are drawn (RFC 8613 section 4.2)
abbrev pub outside_of : Option HostAndPort → Draw → Message
outside_of origin draw = through origin (bare Confirmable (method_number Post) (message_id_drawn draw) (token_drawn draw))

-- the text that is sealed, and the number at which it is
pub record Lie : Type 0 where
  pub number : ℕ
  pub text : List ℕ

-- `is_sealing algorithm` is the relation of the algorithm's cipher, and `tag algorithm` how long its tag is
module _ (is_sealing : Sealings) (tag : Tags) where
  -- how long the protected request is
  abbrev pub lie_length : ContextName → Lie → Message → ℕ
  lie_length name lie outside = length_of_request (length lie.text + tag (algorithm_of name)) name lie.number outside

  -- 22 without a context, and 14 where it would be longer than a datagram may be; else a protected request with this text and this number
  -- goes out, sealed under the context that the client has, as bytes that are read again as it
  pub data Lies (client : State) (lie : Lie) (draw : Draw) (step : Step) : Type 0 where
    no_context : client.context ≡ None → step ≡ refusing refusal.no_context → Lies client lie draw step
    too_long : (context : ClientContextState) → client.context ≡ Some context
        → longest_message < lie_length context.name lie (outside_of client.origin draw) → step ≡ refusing refusal.datagram_too_long → Lies client lie draw step
    lies : (context : ClientContextState) (protected : Message) → client.context ≡ Some context
        → lie_length context.name lie (outside_of client.origin draw) ≤ longest_message
        → IsRequestOf is_sealing lie.text context.name lie.number (outside_of client.origin draw) protected
        → Spells (spelling protected) protected
        → step
        ≡ record {
          out = datagram client.next_hop protected ∷ [];
          notes = record quiet { seals = Some (request_note context.name lie.number lie.text) };
        }
        → Lies client lie draw step

  -- a lie is told, or refused; the client stays as it is
  pub record TellsLie (old : State) (lie : Lie) (draw : Draw) (step : Step) : Type 0 where
    pub lies : Lies old lie draw step
    pub told : (now : Moment) → AreTold is_sealing old now None step
    pub fits : AreSendable step.out
