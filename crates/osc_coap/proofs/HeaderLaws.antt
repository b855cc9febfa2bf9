-- The fields of a header.
use Rattle.std.proofs.Common.{◌≡◌, ℕ, zero, suc, ◌<◌, refl, arith}
use Rattle.osc_coap.specs.declared.kind.Kind.{Kind}
use Rattle.osc_coap.specs.declared.kind.Kind.TheVariants.{Confirmable, NonConfirmable, Acknowledgement, Reset}
use Rattle.osc_coap.specs.{kind_bits, spelling, HasSpelling, HasHeader, kind_of}
use Rattle.osc_coap.specs.Message.{Message}

-- the kind of a kind's bits
pub kind_again : (kind : Kind) → kind_of (kind_bits kind) ≡ kind
kind_again Confirmable = refl
kind_again NonConfirmable = refl
kind_again Acknowledgement = refl
kind_again Reset = refl

-- they are two bits
pub kind_below : (kind : Kind) → kind_bits kind < 4
kind_below Confirmable = omega arith
kind_below NonConfirmable = omega arith
kind_below Acknowledgement = omega arith
kind_below Reset = omega arith

-- the bits of a kind that two bits stand for
pub kind_takes : (bits : ℕ) → bits < 4 → kind_bits (kind_of bits) ≡ bits
kind_takes zero lt = refl
kind_takes (suc zero) lt = refl
kind_takes (suc (suc zero)) lt = refl
kind_takes (suc (suc (suc zero))) lt = refl
kind_takes (suc (suc (suc (suc bits)))) lt = absurd (omega arith)

-- the header of a spelling
pub spelling-header : (m : Message) → HasSpelling m → HasHeader (spelling m) m.kind m.id
unfolding spelling
spelling-header m lawful =
    let kind_fits : kind_bits m.kind < 4 = kind_below m.kind in
    record {
      long = omega arith;
      version = omega (arith, lawful.token);
      type_is = omega (arith, lawful.token);
      id_is = omega (arith, lawful.id);
    }
