-- Where the power goes in a turn, and what is found.
use Rattle.std.proofs.Common.{◌≡◌, ◌⊎◌, List, [], inl, inr, refl}
use Rattle.std.proofs.Math.Logic.{∥∥₁_elim, ∥∥₁_map}
use Rattle.sqlite_disk.specs.declared.Disk as disk
use Rattle.sqlite_store.specs.FileStore.{recovers, state, view}
use Rattle.sqlite_store.specs.declared.store.FileStore.{FileStore}
use Rattle.sqlite_wal.specs.Recovery.{Image}
use Rattle.osc_model.specs.Tree.{Tree}
use Rattle.osc_model.specs.declared.node.Moment.{Moment}
use Rattle.osc_model.specs.declared.step.Datagram.{Datagram}
use Rattle.osc_model.specs.declared.step.Step.{Step}
use Rattle.osc_run.specs.{ServerState}
use Rattle.osc_store.specs.{FindsTree, Keeps, Leaves, MayHold}
use Rattle.osc_store.specs.Starting.{AreOne, FindsEither}
use Rattle.osc_turn.specs.Kept.{Cut, ServerSteps, Stands}

module _ {D : Type 0} {g : disk.Ghosts D}
    (one : (image : Image) (a b : Tree) → FindsTree image a → FindsTree image b → AreOne a b)
    (kept : (it : FileStore D g) (tree : Tree) → Keeps view recovers it tree → Leaves (state it).may_leave tree)
    (cut : (it : FileStore D g) (before after : Tree) → MayHold view recovers it before after → (left : Image) → (state it).may_leave left → FindsEither left before after) where
  abbrev IsCutSo : (old : ServerState) → List Step → List Datagram → Tree → Type 0
  IsCutSo old steps sent found = (cut : Cut old) × (cut.steps ≡ steps) × (cut.sent ≡ sent) × (cut.found ≡ found)

  abbrev StandsSo : ServerState → ServerState → FileStore D g → List Datagram → Type 0
  StandsSo old new it sent = Stands (λ store server. Keeps view recovers store server.tree) (λ store before after. MayHold view recovers store before.tree after.tree) old new it sent

  -- nothing was handed to the port
  unheard_at : (old new : ServerState) (now : Moment) (steps : List Step) (found : Tree) → ServerSteps now old steps new → (found ≡ old.tree) ⊎ (found ≡ new.tree) → IsCutSo old steps [] found
  unheard_at old new now steps found kinds either =
      (record { now = now; steps = steps; new = new; kinds = kinds; sent = []; found = found; either = either; kept = λ some. absurd (some refl) }, refl, refl, refl)

  -- some was, maybe
  told_at : (old new : ServerState) (now : Moment) (steps : List Step) (sent : List Datagram) (found : Tree) → ServerSteps now old steps new → found ≡ new.tree → IsCutSo old steps sent found
  told_at old new now steps sent found kinds after =
      (record { now = now; steps = steps; new = new; kinds = kinds; sent = sent; found = found; either = inr after; kept = λ some. after }, refl, refl, refl)

  pub is_cut_so : (it : FileStore D g) (old new : ServerState) (now : Moment) (steps : List Step) (sent : List Datagram) (left : Image) (found : Tree)
      → ServerSteps now old steps new → StandsSo old new it sent → (state it).may_leave left → FindsTree left found → ∥ IsCutSo old steps sent found ∥₁
  is_cut_so it old new now steps _ left found kinds (Stands.untold may) leaves finds =
      ∥∥₁_elim (cut it old.tree new.tree may left leaves) squash₁ (elim [
        | inl before ↦ ∥∥₁_map (one left found old.tree finds before) (λ same. unheard_at old new now steps found kinds (inl same))
        | inr after ↦ ∥∥₁_map (one left found new.tree finds after) (λ same. unheard_at old new now steps found kinds (inr same))
      ])
  is_cut_so it old new now steps sent left found kinds (Stands.told _ keeps) leaves finds =
      ∥∥₁_elim (kept it new.tree keeps left leaves) squash₁ (λ after.
      ∥∥₁_map (one left found new.tree finds after) (λ same. told_at old new now steps sent found kinds same))
