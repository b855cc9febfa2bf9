-- A device and what keeps its resources: what a step changed is kept before anything of the step is handed out.
use Rattle.std.specs.Prelude.{◌≡◌, Option, Some, None, OnOk, Result, Ok, Err}
use Rattle.osc_model.specs.Tree.{Tree}
use Rattle.osc_store.specs.declared.error.KeepError.{KeepError}
use Rattle.osc_device.specs.State.{State}
use Rattle.osc_device.specs.declared.error.CallError.{CallError}
use Rattle.osc_device.specs.declared.error.CallError.TheVariants.{NotKept, OutOfMemory}

-- a device, what keeps its changes, and why those of its last step aren't kept, if they aren't: then it takes no other step
pub record KeptState (K : Type 0) : Type 0 where
  pub device : State
  pub keeper : K
  pub unkept : Option KeepError

abbrev pub tree_of : {K : Type 0} → KeptState K → Tree
tree_of kept = kept.device.server.tree

-- ---- the result of a call

-- `Makes made device` says what the call makes of the device, and what it hands out of that; `Lacks`, what is so where memory runs out before.
pub data Yields {K T : Type 0} (Makes : T → State → Type 0) (Lacks : Type 0) (old : KeptState K) : Result T CallError → KeptState K → Type 0 where
  -- what it changed is kept, and it is handed out
  handed : (made : T) (new : KeptState K) → old.unkept ≡ None → new.unkept ≡ None → Makes made new.device → Yields Makes Lacks old (Ok made) new
  -- what it changed isn't kept: nothing of it is handed out, and the device takes no other step
  withheld : (made : T) (error : KeepError) (new : KeptState K) → old.unkept ≡ None → new.unkept ≡ Some error → Makes made new.device
      → Yields Makes Lacks old (Err (NotKept error)) new
  -- there was no memory for a step, and all is as before
  lacking : old.unkept ≡ None → Lacks → Yields Makes Lacks old (Err OutOfMemory) old
  -- what its last step changed isn't kept, and all is as before
  ended : (error : KeepError) → old.unkept ≡ Some error → Yields Makes Lacks old (Err (NotKept error)) old

module _ {K : Type 0} (keeps : K → Tree → Type 0) where
  -- if its resources were kept, those that it has now are
  abbrev pub StaysKept : KeptState K → KeptState K → Type 0
  StaysKept old new = keeps old.keeper (tree_of old) → keeps new.keeper (tree_of new)

module _ {K : Type 0} (keeps : K → Tree → Type 0) (may_hold : K → Tree → Tree → Type 0) where
  -- if its resources were kept, the next start finds those or the ones that it has now
  abbrev pub HoldsOneOf : KeptState K → KeptState K → Type 0
  HoldsOneOf old new = keeps old.keeper (tree_of old) → may_hold new.keeper (tree_of old) (tree_of new)

-- a call has this result, and what is handed out is kept; and if its resources were kept, the next start finds them, as before or after
abbrev pub YieldsKept : {K T : Type 0} → (K → Tree → Type 0) → (K → Tree → Tree → Type 0) → (T → State → Type 0) → Type 0
    → KeptState K → Result T CallError → KeptState K → Type 0
YieldsKept keeps may_hold Makes Lacks old result new =
    Yields Makes Lacks old result new × OnOk result (StaysKept keeps old new) × HoldsOneOf keeps may_hold old new

-- this says that what its last step changed isn't kept
abbrev pub IsUnkept : {K : Type 0} → CallError → KeptState K → Type 0
IsUnkept e kept = (error : KeepError) × (e ≡ NotKept error) × (kept.unkept ≡ Some error)
