-- What a note of a seal, or of an opening, tells of the datagram.
use Rattle.std.specs.Prelude.{◌≡◌, ℕ, List, Some}
use Rattle.osc_model.specs.declared.step.Datagram.{Datagram}
use Rattle.osc_model.specs.declared.step.Note.{Note}
use Rattle.osc_coap.specs.{payload_of, Spells, spelling}
use Rattle.osc_coap.specs.Message.{Message}
use Rattle.osc_context.specs.{algorithm_of, key_of, other_side}
use Rattle.osc_ccm.specs.{Sealings}

-- `is_sealing algorithm` is the relation of the algorithm's cipher
module _ (is_sealing : Sealings) where
  -- what the note says was sealed is the payload of this datagram's message
  pub record IsSealOf (note : Note) (sent : Datagram) : Type 0 where
    pub message : Message
    pub bytes : sent.bytes ≡ spelling message
    pub sealed : List ℕ
    pub payload : message.payload ≡ payload_of sealed
    pub is_sealed : is_sealing (algorithm_of note.context) (key_of note.context note.side) note.nonce note.aad note.plaintext sealed

  -- what the note says was opened is the payload of the message that these bytes are, which the other end sealed
  pub record IsOpenOf (note : Note) (bytes : List ℕ) : Type 0 where
    pub message : Message
    pub spelled : Spells bytes message
    pub sealed : List ℕ
    pub payload : message.payload ≡ Some sealed
    pub is_sealed : is_sealing (algorithm_of note.context) (key_of note.context (other_side note.side)) note.nonce note.aad note.plaintext sealed
