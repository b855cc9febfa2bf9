-- The result of a call of a device with a store, and what it changes.
use Rattle.std.proofs.Common.{◌≡◌, ap, sym, subst, ℕ, List, Option, Some, None, Result, Ok, Err, IfErr}
use Rattle.std.specs.Result.{IsErr}
use Rattle.osc_model.specs.Arrival.{Arrival}
use Rattle.osc_model.specs.StepNotes.{StepNotes}
use Rattle.osc_model.specs.Tree.{Tree}
use Rattle.osc_model.specs.declared.node.Moment.{Moment}
use Rattle.osc_model.specs.declared.step.Datagram.{Datagram}
use Rattle.osc_model.specs.declared.step.Step.{Step}
use Rattle.osc_ccm.specs.{Sealings, Tags}
use Rattle.osc_turn.specs.Kept.{IsChangeOf}
use Rattle.osc_run.specs.{ServerState, ServerStep}
use Rattle.osc_server.specs.{core}
use Rattle.osc_server.specs.State.{State as Server}
use Rattle.osc_device.specs.{AskedOfServer, HasRuled, HoldsOneOf, IsUnkept, KeptState, Reaches, Yields, YieldsKept, tree_of}
use Rattle.osc_device.specs.Inner.Entries.{entry_found, entry_in}
use Rattle.osc_device.specs.State.{State}
use Rattle.osc_device.specs.declared.error.CallError.{CallError}
use Rattle.osc_device.specs.declared.error.CallError.TheVariants.{OutOfMemory}
use Rattle.osc_device.specs.declared.ruling.Ruled.{Ruled}

-- ---- by what it answers

module _ {K T : Type 0} (keeps : K → Tree → Type 0) (may_hold : K → Tree → Tree → Type 0) (Makes : State → T → State → Type 0) (Lacks : State → Type 0) where
  abbrev Comes : KeptState K → Result T CallError → KeptState K → Type 0
  Comes old result new = YieldsKept keeps may_hold (Makes old.device) (Lacks old.device) old result new

  -- what keeps a tree holds one of two, if the tree is the first
  abbrev HoldsFirst : Type 0
  HoldsFirst = (it : K) (before after : Tree) → keeps it before → may_hold it before after

  pub is_ended : HoldsFirst → (old : KeptState K) (result : Result T CallError) → IsErr result → IfErr result (λ e. IsUnkept e old) → Comes old result old
  is_ended first old (Ok made) err unkept = absurd cc
  is_ended first old (Err e) err unkept = (
    subst (λ (c : CallError). Yields (Makes old.device) (Lacks old.device) old (Err c) old) (sym unkept.1) (Yields.ended unkept.0 unkept.2),
    tt,
    λ kept. first old.keeper (tree_of old) (tree_of old) kept,
  )

  pub is_lacking : HoldsFirst → (old : KeptState K) (result : Result T CallError) (new : KeptState K) → IsErr result → IfErr result (λ e. e ≡ OutOfMemory)
      → old.unkept ≡ None → Lacks old.device → new ≡ old → Comes old result new
  is_lacking first old (Ok made) new err is goes lacks same = absurd cc
  is_lacking first old (Err e) new err is goes lacks same =
      subst (λ (k : KeptState K). Comes old (Err e) k) (sym same) (
        subst (λ (c : CallError). Yields (Makes old.device) (Lacks old.device) old (Err c) old) (sym is) (Yields.lacking goes lacks),
        tt,
        λ kept. first old.keeper (tree_of old) (tree_of old) kept,
      )

  -- what the device makes inside is what is seen of it
  module _ (inside old : KeptState K) (is : inside ≡ old) (made : T) (between : State) (new : KeptState K) (same : new.device ≡ between)
      (makes : Makes inside.device made between) (crash : keeps inside.keeper (tree_of inside) → may_hold new.keeper (tree_of inside) between.server.tree) where
    makes_new : Makes inside.device made new.device
    makes_new = subst (λ (d : State). Makes inside.device made d) (sym same) makes

    holds_new : HoldsOneOf keeps may_hold inside new
    holds_new = λ kept. subst (λ (d : State). may_hold new.keeper (tree_of inside) d.server.tree) (sym same) (crash kept)

    pub is_withheld : (result : Result T CallError) → IsErr result → IfErr result (λ e. IsUnkept e new) → inside.unkept ≡ None → Comes old result new
    is_withheld (Ok other) err unkept goes = absurd cc
    is_withheld (Err e) err unkept goes =
        subst (λ (k : KeptState K). Comes k (Err e) new) is (
          subst (λ (c : CallError). Yields (Makes inside.device) (Lacks inside.device) inside (Err c) new) (sym unkept.1)
              (Yields.withheld made unkept.0 new goes unkept.2 makes_new),
          tt,
          holds_new,
        )

    pub is_handed : inside.unkept ≡ None → new.unkept ≡ None → (keeps inside.keeper (tree_of inside) → keeps new.keeper between.server.tree)
        → Comes old (Ok made) new
    is_handed goes still stays =
        subst (λ (k : KeptState K). Comes k (Ok made) new) is (
          Yields.handed made new goes still makes_new,
          (λ kept. subst (λ (d : State). keeps new.keeper d.server.tree) (sym same) (stays kept)),
          holds_new,
        )

-- what the device makes inside is what is seen of it
pub moved : (Makes : State → State → Type 0) (inside old between new : State) → inside ≡ old → new ≡ between → Makes inside between → Makes old new
moved Makes inside old between new is same made = subst (λ (d : State). Makes d new) is (subst (λ (d : State). Makes inside d) (sym same) made)

-- ---- what it changes

abbrev OnePathLaw : Type 0
OnePathLaw = (old new : ServerState) (now : Moment) (notes : StepNotes) → ServerStep old now notes new → IsChangeOf notes.served old.tree new.tree

module _ (law : OnePathLaw) (is_sealing : Sealings) where
  pub reached_changes : (old new : Server) (sent : Arrival (List Datagram)) (step : Option Step) → Reaches is_sealing old sent step new
      → IsChangeOf (entry_in step) old.tree new.tree
  reached_changes old new sent step (Reaches.lost nothing lost) =
      subst (λ (s : Option Step). IsChangeOf (entry_in s) old.tree new.tree) (sym lost.0) (ap (λ (s : Server). s.tree) lost.1)
  reached_changes old new sent step (Reaches.heard one made only some is) =
      subst (λ (s : Option Step). IsChangeOf (entry_in s) old.tree new.tree) (sym some) (law (core old) (core new) sent.at made.notes is.kind)

  pub ruled_changes : (tag : Tags) (old : State) (id : List ℕ) (asked_on : List ℕ → AskedOfServer) (found : Option Ruled) (new : State)
      → HasRuled is_sealing tag old id asked_on found new → IsChangeOf (entry_found found) old.server.tree new.server.tree
  ruled_changes tag old id asked_on None new ruled = ap (λ (d : State). d.server.tree) ruled.1
  ruled_changes tag old id asked_on (Some made) new ruled =
      reached_changes old.server new.server _ made.round.served ruled.2.asks.carries.reaches
