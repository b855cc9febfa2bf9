use Rattle.std.proofs.Common.{◌≡◌, ℕ, List, ◌++◌, length}
use Rattle.osc_cbor.specs.{DataItem, Spells}
use Rattle.osc_cbor.specs.Inner.Tokens.{Pending}
use Rattle.osc_cbor.proofs.tokens.behind_item.Given as goal

abbrev pub invariant-loop-todo : goal.invariant-loop-todo
invariant-loop-todo l = (d : DataItem) (front rest : List ℕ) → Spells front d → l.bytes ≡ front ++ rest → Pending l.todo l.rest rest

abbrev pub decreases-loop-todo : goal.decreases-loop-todo
decreases-loop-todo l = length l.rest
