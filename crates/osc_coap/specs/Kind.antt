-- The four kinds of message (RFC 7252 sections 3, 4.2 and 4.3).
use Rattle.std.specs.Prelude.{ℕ, List, codes}
use Rattle.osc_coap.specs.declared.kind.Kind.{Kind}
use Rattle.osc_coap.specs.declared.kind.Kind.TheVariants.{Confirmable, NonConfirmable, Acknowledgement, Reset}

-- the field "type" of the header
abbrev pub kind_bits : Kind → ℕ
kind_bits Confirmable = 0
kind_bits NonConfirmable = 1
kind_bits Acknowledgement = 2
kind_bits Reset = 3

-- the standard's short name
abbrev pub kind_name : Kind → List ℕ
kind_name Confirmable = codes "CON"
kind_name NonConfirmable = codes "NON"
kind_name Acknowledgement = codes "ACK"
kind_name Reset = codes "RST"
