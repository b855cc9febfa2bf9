use Rattle.std.proofs.Common.{◌≡◌, ℕ, ◌-◌, List, ◌++◌}
use Rattle.osc_cbor.specs.{DataItem, Pairs, pair_count, Spells, SpellsPairs}
use Rattle.osc_cbor.specs.Inner.Tokens.{Keys}
use Rattle.osc_cbor.proofs.tokens.has_spelled_key.Given as goal

abbrev pub invariant-loop : goal.invariant-loop
invariant-loop l = (k : DataItem) (ps : Pairs) (front rest : List ℕ) → Spells l.key k → SpellsPairs front ps → pair_count ps ≡ l.count → l.bytes ≡ front ++ rest
    → Keys k ps (l.count - l.counter) l.rest rest
