use Rattle.std.proofs.Common.{List, length}
use Rattle.osc_cbor.specs.Inner.Tokens.{Token, Stream, Alike}
use Rattle.osc_cbor.proofs.tokens.same_spelled.Given as goal

abbrev pub invariant-loop-left : goal.invariant-loop-left
invariant-loop-left l = (ts us : List Token) → Stream l.a ts → Stream l.b us → Alike ts us l.left l.right

abbrev pub decreases-loop-left : goal.decreases-loop-left
decreases-loop-left l = length l.left
