-- What a node leaves of its changes in what keeps them, and why one isn't kept.
use Rattle.std.specs.Prelude.{ℕ, ⊤}
use Rattle.sqlite_disk.specs.Disk.{MoreFaults}
use Rattle.osc_store.specs.Causes.{WhyNotKept}
use Rattle.osc_programs.specs.declared.ended.Ended.{Ended}
use Rattle.osc_programs.specs.declared.ended.Ended.TheVariants.{NotKept}

module _ {S K : Type 0} (keeps : K → S → Type 0) (may_hold : K → S → S → Type 0) where
  -- Whatever a crash leaves, the next start finds what is after all that was done. Or, where a change isn't kept, it finds what was before it or what is
  -- after it.
  abbrev pub LeavesKept : Ended → S → S → K → Type 0
  LeavesKept (NotKept error) before after keeper = may_hold keeper before after
  LeavesKept other before after keeper = keeps keeper after

module _ {K : Type 0} (trusted : K → Type 0) (faults : K → ℕ) where
  -- A change that isn't kept has a cause: the disk failed since what keeps it was so, or a resource is too long. Lack of memory is told as such, and has
  -- no other. So it is as long as no wrong answer of the disk was taken as true.
  abbrev pub HasCause : Type 0 → K → K → Ended → Type 0
  HasCause too_long first last (NotKept error) = trusted last → WhyNotKept (MoreFaults (faults first) (faults last)) too_long error
  HasCause too_long first last other = ⊤
