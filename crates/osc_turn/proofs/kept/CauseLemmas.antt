-- Why a step isn't kept, by when it is asked.
use Rattle.std.proofs.Common.{◌≤◌, ℕ, IfErr, Result, Ok, Err, arith}
use Rattle.sqlite_disk.specs.Disk.{MoreFaults}
use Rattle.osc_store.specs.Causes.{WhyNotKept}
use Rattle.osc_store.specs.declared.error.KeepError.{KeepError}
use Rattle.osc_store.specs.declared.error.KeepError.TheVariants.{Closed, Damaged, Failed, Full, OutOfMemory, TooLong}

pub if_err_map : {A E : Type 0} (result : Result A E) (P Q : E → Type 0) → ((e : E) → P e → Q e) → IfErr result P → IfErr result Q
if_err_map (Ok it) P Q to holds = tt
if_err_map (Err e) P Q to holds = to e holds

more_faults : (first from to : ℕ) → first ≤ from → MoreFaults from to → MoreFaults first to
more_faults first from to less more = omega (arith, less, more)

-- what was a cause since some time is one since an earlier time
pub why_since : (first from to : ℕ) (X Y : Type 0) → first ≤ from → (X → Y) → (e : KeepError) → WhyNotKept (MoreFaults from to) X e → WhyNotKept (MoreFaults first to) Y e
why_since first from to X Y less long OutOfMemory why = tt
why_since first from to X Y less long Full why = more_faults first from to less why
why_since first from to X Y less long Failed why = more_faults first from to less why
why_since first from to X Y less long Damaged why = more_faults first from to less why
why_since first from to X Y less long Closed why = absurd why
why_since first from to X Y less long TooLong why = long why
