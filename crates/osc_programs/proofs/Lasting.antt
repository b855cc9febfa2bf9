-- What is left of changes where a node ends, and why.
use Rattle.std.proofs.Common.{◌∙◌, ◌≡◌, ◌≢◌, Bool, ◌⊎◌, ◌≤◌, ◌++◌, [], ℕ, List, Option, Some, None, Result, Ok, Err, OnOk, IfErr, inl, inr, refl, sym, subst, ap, arith, append-nil}
use Rattle.sqlite_disk.specs.Disk.{MoreFaults}
use Rattle.osc_log.specs.{Event, Tells, Told}
use Rattle.osc_log.specs.declared.held.Held.{Held}
use Rattle.osc_model.specs.Tree.{Tree}
use Rattle.osc_model.specs.declared.node.Moment.{Moment}
use Rattle.osc_model.specs.declared.step.Datagram.{Datagram}
use Rattle.osc_model.specs.declared.step.Step.{Step}
use Rattle.osc_run.specs.{Cause}
use Rattle.osc_server.specs.State.{State as Server}
use Rattle.osc_store.specs.Causes.{WhyNotKept}
use Rattle.osc_store.specs.declared.error.KeepError.{KeepError}
use Rattle.osc_store.specs.declared.error.KeepError.TheVariants as keeping
use Rattle.osc_turn.specs.{Received}
use Rattle.osc_turn.specs.Running.{Running}
use Rattle.osc_programs.specs.{EndsKept, HasCause, IsFault, IsNotKept, IsTooLongIn, KeepsTree, LeavesKept, MayHoldTree, Ran, RunsOn, LeavesNode, Runs, as_it_was, moved_on, never, ran, shown_after, under_way}
use Rattle.osc_programs.specs.declared.ended.Ended.{Ended}
use Rattle.osc_programs.specs.declared.ended.Ended.TheVariants.{Done, BadCommandLine, BadLine, TooLong, BadSettings, OutOfMemory, Failed, PortFailed, NotDone, Unopened, NotKept}

-- ---- where nothing was under way

module _ {S K : Type 0} (keeps : K → S → Type 0) (may_hold : K → S → S → Type 0) where
  pub left_alone : (ended : Ended) (before after : S) (keeper : K) → IsFault ended → keeps keeper after → LeavesKept keeps may_hold ended before after keeper
  left_alone Done before after keeper f h = h
  left_alone BadCommandLine before after keeper f h = h
  left_alone (BadLine number) before after keeper f h = h
  left_alone TooLong before after keeper f h = h
  left_alone BadSettings before after keeper f h = h
  left_alone OutOfMemory before after keeper f h = h
  left_alone Failed before after keeper f h = h
  left_alone PortFailed before after keeper f h = h
  left_alone NotDone before after keeper f h = h
  left_alone (Unopened error) before after keeper f h = h
  left_alone (NotKept error) before after keeper f h = absurd f

  -- where all turns were taken, all is kept
  pub done_keeps : (ended : Ended) (before after : S) (keeper : K) → ended ≡ Done → LeavesKept keeps may_hold ended before after keeper → keeps keeper after
  done_keeps ended before after keeper done h = subst (λ (e : Ended). LeavesKept keeps may_hold e before after keeper) done h

pub not_under_way : (ended : Ended) (before after : Tree) → IsFault ended → under_way ended before after ≡ before
not_under_way Done before after f = refl
not_under_way BadCommandLine before after f = refl
not_under_way (BadLine number) before after f = refl
not_under_way TooLong before after f = refl
not_under_way BadSettings before after f = refl
not_under_way OutOfMemory before after f = refl
not_under_way Failed before after f = refl
not_under_way PortFailed before after f = refl
not_under_way NotDone before after f = refl
not_under_way (Unopened error) before after f = refl
not_under_way (NotKept error) before after f = absurd f

-- ---- causes

pub why_since : (Long Longer : Type 0) (a b c : ℕ) (error : KeepError) → a ≤ b → (Long → Longer) → WhyNotKept (MoreFaults b c) Long error → WhyNotKept (MoreFaults a c) Longer error
why_since Long Longer a b c keeping.OutOfMemory le more why = tt
why_since Long Longer a b c keeping.Full le more why = omega (arith, le, why)
why_since Long Longer a b c keeping.Failed le more why = omega (arith, le, why)
why_since Long Longer a b c keeping.Damaged le more why = omega (arith, le, why)
why_since Long Longer a b c keeping.Closed le more why = absurd why
why_since Long Longer a b c keeping.TooLong le more why = more why

module _ {K : Type 0} (trusted : K → Type 0) (faults : K → ℕ) where
  pub no_cause : (Long : Type 0) (first last : K) (ended : Ended) → IsFault ended → HasCause trusted faults Long first last ended
  no_cause Long first last Done f = tt
  no_cause Long first last BadCommandLine f = tt
  no_cause Long first last (BadLine number) f = tt
  no_cause Long first last TooLong f = tt
  no_cause Long first last BadSettings f = tt
  no_cause Long first last OutOfMemory f = tt
  no_cause Long first last Failed f = tt
  no_cause Long first last PortFailed f = tt
  no_cause Long first last NotDone f = tt
  no_cause Long first last (Unopened error) f = tt
  no_cause Long first last (NotKept error) f = absurd f

  -- a cause of something later is one of all
  pub cause_since : (Long Longer : Type 0) (first between last : K) (ended : Ended) → faults first ≤ faults between → (Long → Longer)
      → HasCause trusted faults Long between last ended → HasCause trusted faults Longer first last ended
  cause_since Long Longer first between last Done le more why = tt
  cause_since Long Longer first between last BadCommandLine le more why = tt
  cause_since Long Longer first between last (BadLine number) le more why = tt
  cause_since Long Longer first between last TooLong le more why = tt
  cause_since Long Longer first between last BadSettings le more why = tt
  cause_since Long Longer first between last OutOfMemory le more why = tt
  cause_since Long Longer first between last Failed le more why = tt
  cause_since Long Longer first between last PortFailed le more why = tt
  cause_since Long Longer first between last NotDone le more why = tt
  cause_since Long Longer first between last (Unopened error) le more why = tt
  cause_since Long Longer first between last (NotKept error) le more why = λ trust. why_since Long Longer (faults first) (faults between) (faults last) error le more (why trust)

-- ---- of servers, and of their resources

module _ {K : Type 0} (keeps : K → Server → Type 0) (may_hold : K → Server → Server → Type 0)
    (by_tree : (it : K) (one other : Server) → one.tree ≡ other.tree → keeps it one → keeps it other)
    (by_trees : (it : K) (before one after other : Server) → before.tree ≡ one.tree → after.tree ≡ other.tree → may_hold it before after → may_hold it one other) where
  pub keeps_all : (keeper : K) (server : Server) → keeps keeper server → KeepsTree keeps keeper server.tree
  keeps_all keeper server keeps other same = by_tree keeper server other (sym same) keeps

  pub leaves_all : (ended : Ended) (before after : Server) (keeper : K) → LeavesKept keeps may_hold ended before after keeper
      → LeavesKept (KeepsTree keeps) (MayHoldTree may_hold) ended before.tree after.tree keeper
  leaves_all Done before after keeper h = keeps_all keeper after h
  leaves_all BadCommandLine before after keeper h = keeps_all keeper after h
  leaves_all (BadLine number) before after keeper h = keeps_all keeper after h
  leaves_all TooLong before after keeper h = keeps_all keeper after h
  leaves_all BadSettings before after keeper h = keeps_all keeper after h
  leaves_all OutOfMemory before after keeper h = keeps_all keeper after h
  leaves_all Failed before after keeper h = keeps_all keeper after h
  leaves_all PortFailed before after keeper h = keeps_all keeper after h
  leaves_all NotDone before after keeper h = keeps_all keeper after h
  leaves_all (Unopened error) before after keeper h = keeps_all keeper after h
  leaves_all (NotKept error) before after keeper h = λ first last is too. by_trees keeper before first after last (sym is) (sym too) h

-- ---- of ids that are revoked

module _ {K : Type 0} (keeps : K → Server → Type 0) (may_hold : K → Server → Server → Type 0) where
  abbrev LeftOf : Ended → Tree → Tree → K → Type 0
  LeftOf ended before after keeper = LeavesKept (KeepsTree keeps) (MayHoldTree may_hold) ended before after keeper

  left_so : (ended : Ended) (tree new next : Tree) (keeper : K) → new ≡ next → IsNotKept ended → LeftOf ended tree new keeper → LeftOf ended tree (under_way ended tree next) keeper
  left_so Done tree new next keeper same not left = absurd not
  left_so BadCommandLine tree new next keeper same not left = absurd not
  left_so (BadLine number) tree new next keeper same not left = absurd not
  left_so TooLong tree new next keeper same not left = absurd not
  left_so BadSettings tree new next keeper same not left = absurd not
  left_so OutOfMemory tree new next keeper same not left = absurd not
  left_so Failed tree new next keeper same not left = absurd not
  left_so PortFailed tree new next keeper same not left = absurd not
  left_so NotDone tree new next keeper same not left = absurd not
  left_so (Unopened error) tree new next keeper same not left = absurd not
  left_so (NotKept error) tree new next keeper same not left = subst (λ (t : Tree). MayHoldTree may_hold keeper tree t) same left

  -- a change that isn't kept was under way
  pub placed_left : {X : Type 0} (r : Result X Ended) (Kept : Type 0) (tree new next : Tree) (keeper : K) → new ≡ next → IfErr r IsNotKept
      → (Kept → IfErr r (λ ended. LeftOf ended tree new keeper)) → IfErr r (λ ended. Kept → LeftOf ended tree (under_way ended tree next) keeper)
  placed_left (Ok x) Kept tree new next keeper same not left = tt
  placed_left (Err ended) Kept tree new next keeper same not left = λ kept. left_so ended tree new next keeper same not (left kept)

-- what follows of an error
pub of_error : {X : Type 0} (r : Result X Ended) (Kept : Type 0) (P Q : Ended → Type 0) → ((ended : Ended) → P ended → Q ended) → (Kept → IfErr r P) → IfErr r (λ ended. Kept → Q ended)
of_error (Ok x) Kept P Q more h = tt
of_error (Err ended) Kept P Q more h = λ kept. more ended (h kept)

module _ {K : Type 0} (trusted : K → Type 0) (faults : K → ℕ) (too_long : Server → Type 0) where
  pub cause_under_way : (ended : Ended) (before after : Tree) (first last : K) → HasCause trusted faults (IsTooLongIn too_long after) first last ended
      → HasCause trusted faults (IsTooLongIn too_long (under_way ended before after)) first last ended
  cause_under_way Done before after first last why = tt
  cause_under_way BadCommandLine before after first last why = tt
  cause_under_way (BadLine number) before after first last why = tt
  cause_under_way TooLong before after first last why = tt
  cause_under_way BadSettings before after first last why = tt
  cause_under_way OutOfMemory before after first last why = tt
  cause_under_way Failed before after first last why = tt
  cause_under_way PortFailed before after first last why = tt
  cause_under_way NotDone before after first last why = tt
  cause_under_way (Unopened error) before after first last why = tt
  cause_under_way (NotKept error) before after first last why = why

-- ---- after the last turn

-- where a change was kept, or none was under way, nothing else came after the last turn
pub nothing_more : {N : Type 0} (acts : N → Moment → Bool) (is_step : N → Cause → Step → N → Type 0) (last : Running N) (ended : Ended) (came : List (Option Received)) (new : N)
    → LeavesNode acts is_step last ended came new → ended ≡ Done → (came ≡ []) × (new ≡ last.node)
nothing_more acts is_step last _ _ _ (as_it_was ended) done = (refl, refl)
nothing_more acts is_step last _ _ _ (moved_on error made lost new turn) done = absurd cc

module _ {P N : Type 0} (gave : List ℕ → Type 0) (opened : P → Type 0) (received_by : P → Option (List (Option Received))) (sent_by : P → Option (List Datagram))
    (acts : N → Moment → Bool) (is_step : N → Cause → Step → N → Type 0) (held : N → Held) (turns : ℕ) (old : N) where
  abbrev RanSo : Ended → List Event → N → N → Type 0
  RanSo ended events before new = Ran gave opened received_by sent_by acts is_step held turns old ended events before new

  -- after all turns a node ends well, or by what was to be done at last
  pub at_last : (ended other : Ended) (events : List Event) (before new : N) → ended ≡ Done → RanSo ended events before new → (other ≡ Done) ⊎ IsNotKept other → RanSo other events new new
  at_last _ other _ _ _ done (never ended not) over = absurd (not done)
  at_last _ other _ _ _ done (ran ended shown new runs on) over =
      let nothing = nothing_more acts is_step runs.last ended runs.came new runs.leaves done in
      let here : Runs acts is_step held turns other old shown runs.last.node = record {
        start = runs.start;
        seeded = runs.seeded;
        taken = runs.taken;
        few = runs.few;
        all = λ _. runs.all done;
        earlier = runs.earlier;
        last = runs.last;
        takes = runs.takes;
        came = [];
        leaves = as_it_was other;
        is = runs.is ∙ ap (λ (came : List (Option Received)). shown_after runs.earlier came) nothing.0;
      } in
      subst (λ (n : N). RanSo other shown.events n n) (sym nothing.1) (ran other shown runs.last.node here on)

-- the same at a port that was opened as another says
pub opened_so : {P N : Type 0} (gave : List ℕ → Type 0) (opened other : P → Type 0) (received_by : P → Option (List (Option Received))) (sent_by : P → Option (List Datagram))
    (acts : N → Moment → Bool) (is_step : N → Cause → Step → N → Type 0) (held : N → Held) (turns : ℕ) (old : N) (ended : Ended) (events : List Event) (before new : N)
    → ((port : P) → opened port → other port) → Ran gave opened received_by sent_by acts is_step held turns old ended events before new
    → Ran gave other received_by sent_by acts is_step held turns old ended events before new
opened_so gave opened other received_by sent_by acts is_step held turns old _ _ _ _ so (never ended not) = never ended not
opened_so gave opened other received_by sent_by acts is_step held turns old _ _ _ _ so (ran ended shown new runs on) =
    ran ended shown new runs (record { seed = on.seed; first = on.first; last = on.last; opened = so on.first on.opened; passes = on.passes })
