-- Turns whose steps are kept before they are sent.
use Rattle.std.specs.Prelude.{◌⊎◌, List, []}
use Rattle.std.proofs.Common.{inl, inr}
use Rattle.sqlite_trees.specs.Tree.{Trees}
use Rattle.sqlite_trees.specs.View.{View}
use Rattle.osc_model.specs.Tree.{Tree}
use Rattle.osc_model.specs.declared.step.Datagram.{Datagram}
use Rattle.osc_store.specs.{MayHold}

module _ {N K : Type 0} (keeps : K → N → Type 0) (may_hold : K → N → N → Type 0) where
  -- What holds of a turn that leads a node from `old` to `new`: nothing of it was handed to the port yet, and a crash leaves the resources before it
  -- or after it; or a crash leaves those after it, and some of its datagrams were handed to the port.
  pub data Stands (old new : N) (keeper : K) : List Datagram → Type 0 where
    untold : may_hold keeper old new → Stands old new keeper []
    told : (sent : List Datagram) → keeps keeper new → Stands old new keeper sent

-- ---- stores

-- one of two that are the same is the second of two
pub second : {A B : Type 0} → B ⊎ B → A ⊎ B
second (inl it) = inr it
second (inr it) = inr it

module _ {S : Type 0} (view : S → View) (recovers : S → Trees → Type 0) where
  -- a store that holds one tree holds one of two, if it is the second
  pub may_hold_last : (s : S) (before after : Tree) → MayHold view recovers s after after → MayHold view recovers s before after
  may_hold_last s before after holds = record {
    numbered = holds.numbered;
    left = λ db recovered. let held = holds.left db recovered in (held.0, second held.1);
  }
