-- How servers end, with a store or without one.
use Rattle.std.proofs.Common.{◌≡◌, ◌≢◌, ◌⊎◌, ℕ, IfSome, IsSome, List, None, Option, Some, inl, inr, refl, subst, sym}
use Rattle.osc_model.specs.Tree.{Tree}
use Rattle.osc_server.specs.State.{State as Server}
use Rattle.osc_store.specs.declared.error.KeepError.{KeepError}
use Rattle.osc_words.specs.declared.settings.resource.ResourceSetting.{ResourceSetting}
use Rattle.osc_words.specs.declared.settings.store_file.StoreDisk.{StoreDisk}
use Rattle.osc_programs.specs.{EndsKept, EndsServer, EndsServing, EndsStore, EndsTurns, EndsUnkept, IsFault, IsKeptIn, IsNotKept, KeptBy, NoServer, NoSettings, NoStore, NotOpened, tree_of}
use Rattle.osc_programs.specs.declared.ended.Ended.{Ended}
use Rattle.osc_programs.specs.declared.ended.Ended.TheVariants.{Done, BadCommandLine, BadLine, TooLong, BadSettings, OutOfMemory, Failed, PortFailed, NotDone, Unopened, NotKept}

pub fault_unkept : (ended : Ended) → IsFault ended → EndsUnkept ended
fault_unkept Done f = absurd f
fault_unkept BadCommandLine f = absurd f
fault_unkept (BadLine number) f = absurd f
fault_unkept TooLong f = absurd f
fault_unkept BadSettings f = absurd f
fault_unkept OutOfMemory f = tt
fault_unkept Failed f = tt
fault_unkept PortFailed f = tt
fault_unkept NotDone f = absurd f
fault_unkept (Unopened error) f = absurd f
fault_unkept (NotKept error) f = absurd f

pub unkept_kept : (ended : Ended) → EndsUnkept ended → EndsKept ended
unkept_kept Done f = absurd f
unkept_kept BadCommandLine f = absurd f
unkept_kept (BadLine number) f = absurd f
unkept_kept TooLong f = absurd f
unkept_kept BadSettings f = absurd f
unkept_kept OutOfMemory f = tt
unkept_kept Failed f = tt
unkept_kept PortFailed f = tt
unkept_kept NotDone f = absurd f
unkept_kept (Unopened error) f = absurd f
unkept_kept (NotKept error) f = tt

pub fault_kept : (ended : Ended) → IsFault ended → EndsKept ended
fault_kept Done f = absurd f
fault_kept BadCommandLine f = absurd f
fault_kept (BadLine number) f = absurd f
fault_kept TooLong f = absurd f
fault_kept BadSettings f = absurd f
fault_kept OutOfMemory f = tt
fault_kept Failed f = tt
fault_kept PortFailed f = tt
fault_kept NotDone f = absurd f
fault_kept (Unopened error) f = absurd f
fault_kept (NotKept error) f = absurd f

-- who ends so, and not with a change that isn't kept
pub kept_turns : (ended : Ended) → EndsKept ended → ((error : KeepError) → ended ≢ NotKept error) → EndsTurns ended
kept_turns Done f none = tt
kept_turns BadCommandLine f none = absurd f
kept_turns (BadLine number) f none = absurd f
kept_turns TooLong f none = absurd f
kept_turns BadSettings f none = absurd f
kept_turns OutOfMemory f none = tt
kept_turns Failed f none = tt
kept_turns PortFailed f none = tt
kept_turns NotDone f none = absurd f
kept_turns (Unopened error) f none = absurd f
kept_turns (NotKept error) f none = absurd (none error refl)

pub fault_keeps : (ended : Ended) (error : KeepError) → IsFault ended → ended ≢ NotKept error
fault_keeps ended error f is = subst (λ (e : Ended). IsFault e) is f

pub kept_serving : (ended : Ended) → EndsKept ended → EndsServing ended
kept_serving Done f = tt
kept_serving BadCommandLine f = absurd f
kept_serving (BadLine number) f = absurd f
kept_serving TooLong f = absurd f
kept_serving BadSettings f = absurd f
kept_serving OutOfMemory f = tt
kept_serving Failed f = tt
kept_serving PortFailed f = tt
kept_serving NotDone f = absurd f
kept_serving (Unopened error) f = absurd f
kept_serving (NotKept error) f = tt

pub turns_serving : (ended : Ended) → EndsTurns ended → EndsServing ended
turns_serving Done f = tt
turns_serving BadCommandLine f = absurd f
turns_serving (BadLine number) f = absurd f
turns_serving TooLong f = absurd f
turns_serving BadSettings f = absurd f
turns_serving OutOfMemory f = tt
turns_serving Failed f = tt
turns_serving PortFailed f = tt
turns_serving NotDone f = absurd f
turns_serving (Unopened error) f = absurd f
turns_serving (NotKept error) f = absurd f

pub no_store_serving : (ended : Ended) → NoStore ended → EndsServing ended
no_store_serving Done f = absurd f
no_store_serving BadCommandLine f = absurd f
no_store_serving (BadLine number) f = absurd f
no_store_serving TooLong f = absurd f
no_store_serving BadSettings f = absurd f
no_store_serving OutOfMemory f = tt
no_store_serving Failed f = tt
no_store_serving PortFailed f = tt
no_store_serving NotDone f = absurd f
no_store_serving (Unopened error) f = tt
no_store_serving (NotKept error) f = tt

pub serving_server : (ended : Ended) → EndsServing ended → EndsServer ended
serving_server Done f = tt
serving_server BadCommandLine f = absurd f
serving_server (BadLine number) f = absurd f
serving_server TooLong f = absurd f
serving_server BadSettings f = absurd f
serving_server OutOfMemory f = tt
serving_server Failed f = tt
serving_server PortFailed f = tt
serving_server NotDone f = absurd f
serving_server (Unopened error) f = tt
serving_server (NotKept error) f = tt

pub settings_server : (ended : Ended) → NoSettings ended → EndsServer ended
settings_server Done f = absurd f
settings_server BadCommandLine f = absurd f
settings_server (BadLine number) f = absurd f
settings_server TooLong f = absurd f
settings_server BadSettings f = tt
settings_server OutOfMemory f = tt
settings_server Failed f = tt
settings_server PortFailed f = tt
settings_server NotDone f = absurd f
settings_server (Unopened error) f = absurd f
settings_server (NotKept error) f = absurd f

pub not_opened_no_store : (ended : Ended) → NotOpened ended → NoStore ended
not_opened_no_store Done f = absurd f
not_opened_no_store BadCommandLine f = absurd f
not_opened_no_store (BadLine number) f = absurd f
not_opened_no_store TooLong f = absurd f
not_opened_no_store BadSettings f = absurd f
not_opened_no_store OutOfMemory f = tt
not_opened_no_store Failed f = tt
not_opened_no_store PortFailed f = tt
not_opened_no_store NotDone f = absurd f
not_opened_no_store (Unopened error) f = tt
not_opened_no_store (NotKept error) f = absurd f

pub fault_no_store : (ended : Ended) → IsFault ended → NoStore ended
fault_no_store Done f = absurd f
fault_no_store BadCommandLine f = absurd f
fault_no_store (BadLine number) f = absurd f
fault_no_store TooLong f = absurd f
fault_no_store BadSettings f = absurd f
fault_no_store OutOfMemory f = tt
fault_no_store Failed f = tt
fault_no_store PortFailed f = tt
fault_no_store NotDone f = absurd f
fault_no_store (Unopened error) f = absurd f
fault_no_store (NotKept error) f = absurd f

pub fault_not_opened : (ended : Ended) → IsFault ended → NotOpened ended
fault_not_opened Done f = absurd f
fault_not_opened BadCommandLine f = absurd f
fault_not_opened (BadLine number) f = absurd f
fault_not_opened TooLong f = absurd f
fault_not_opened BadSettings f = absurd f
fault_not_opened OutOfMemory f = tt
fault_not_opened Failed f = tt
fault_not_opened PortFailed f = tt
fault_not_opened NotDone f = absurd f
fault_not_opened (Unopened error) f = absurd f
fault_not_opened (NotKept error) f = absurd f

pub not_opened_store : (ended : Ended) → NotOpened ended → EndsStore ended
not_opened_store Done f = absurd f
not_opened_store BadCommandLine f = absurd f
not_opened_store (BadLine number) f = absurd f
not_opened_store TooLong f = absurd f
not_opened_store BadSettings f = absurd f
not_opened_store OutOfMemory f = tt
not_opened_store Failed f = tt
not_opened_store PortFailed f = tt
not_opened_store NotDone f = absurd f
not_opened_store (Unopened error) f = tt
not_opened_store (NotKept error) f = absurd f

pub turns_store : (ended : Ended) → EndsTurns ended → EndsStore ended
turns_store Done f = tt
turns_store BadCommandLine f = absurd f
turns_store (BadLine number) f = absurd f
turns_store TooLong f = absurd f
turns_store BadSettings f = absurd f
turns_store OutOfMemory f = tt
turns_store Failed f = tt
turns_store PortFailed f = tt
turns_store NotDone f = absurd f
turns_store (Unopened error) f = absurd f
turns_store (NotKept error) f = absurd f

pub unkept_no_end : (ended : Ended) → EndsUnkept ended → ended ≢ Done
unkept_no_end Done f e = f
unkept_no_end BadCommandLine f e = absurd cc
unkept_no_end (BadLine number) f e = absurd cc
unkept_no_end TooLong f e = absurd cc
unkept_no_end BadSettings f e = absurd cc
unkept_no_end OutOfMemory f e = absurd cc
unkept_no_end Failed f e = absurd cc
unkept_no_end PortFailed f e = absurd cc
unkept_no_end NotDone f e = absurd cc
unkept_no_end (Unopened error) f e = absurd cc
unkept_no_end (NotKept error) f e = absurd cc

pub no_store_no_end : (ended : Ended) → NoStore ended → ended ≢ Done
no_store_no_end Done f e = f
no_store_no_end BadCommandLine f e = absurd cc
no_store_no_end (BadLine number) f e = absurd cc
no_store_no_end TooLong f e = absurd cc
no_store_no_end BadSettings f e = absurd cc
no_store_no_end OutOfMemory f e = absurd cc
no_store_no_end Failed f e = absurd cc
no_store_no_end PortFailed f e = absurd cc
no_store_no_end NotDone f e = absurd cc
no_store_no_end (Unopened error) f e = absurd cc
no_store_no_end (NotKept error) f e = absurd cc

pub not_opened_no_end : (ended : Ended) → NotOpened ended → ended ≢ Done
not_opened_no_end Done f e = f
not_opened_no_end BadCommandLine f e = absurd cc
not_opened_no_end (BadLine number) f e = absurd cc
not_opened_no_end TooLong f e = absurd cc
not_opened_no_end BadSettings f e = absurd cc
not_opened_no_end OutOfMemory f e = absurd cc
not_opened_no_end Failed f e = absurd cc
not_opened_no_end PortFailed f e = absurd cc
not_opened_no_end NotDone f e = absurd cc
not_opened_no_end (Unopened error) f e = absurd cc
not_opened_no_end (NotKept error) f e = absurd cc

pub serving_not_bad : (ended : Ended) → EndsServing ended → ended ≢ BadSettings
serving_not_bad Done f e = absurd cc
serving_not_bad BadCommandLine f e = absurd cc
serving_not_bad (BadLine number) f e = absurd cc
serving_not_bad TooLong f e = absurd cc
serving_not_bad BadSettings f e = f
serving_not_bad OutOfMemory f e = absurd cc
serving_not_bad Failed f e = absurd cc
serving_not_bad PortFailed f e = absurd cc
serving_not_bad NotDone f e = absurd cc
serving_not_bad (Unopened error) f e = absurd cc
serving_not_bad (NotKept error) f e = absurd cc

pub settings_no_server : (ended : Ended) → NoSettings ended → NoServer ended
settings_no_server Done f = absurd f
settings_no_server BadCommandLine f = absurd f
settings_no_server (BadLine number) f = absurd f
settings_no_server TooLong f = absurd f
settings_no_server BadSettings f = tt
settings_no_server OutOfMemory f = tt
settings_no_server Failed f = tt
settings_no_server PortFailed f = tt
settings_no_server NotDone f = absurd f
settings_no_server (Unopened error) f = absurd f
settings_no_server (NotKept error) f = absurd f

pub no_store_no_server : (ended : Ended) → NoStore ended → NoServer ended
no_store_no_server Done f = absurd f
no_store_no_server BadCommandLine f = absurd f
no_store_no_server (BadLine number) f = absurd f
no_store_no_server TooLong f = absurd f
no_store_no_server BadSettings f = absurd f
no_store_no_server OutOfMemory f = tt
no_store_no_server Failed f = tt
no_store_no_server PortFailed f = tt
no_store_no_server NotDone f = absurd f
no_store_no_server (Unopened error) f = tt
no_store_no_server (NotKept error) f = tt

pub fault_no_server : (ended : Ended) → IsFault ended → NoServer ended
fault_no_server Done f = absurd f
fault_no_server BadCommandLine f = absurd f
fault_no_server (BadLine number) f = absurd f
fault_no_server TooLong f = absurd f
fault_no_server BadSettings f = absurd f
fault_no_server OutOfMemory f = tt
fault_no_server Failed f = tt
fault_no_server PortFailed f = tt
fault_no_server NotDone f = absurd f
fault_no_server (Unopened error) f = absurd f
fault_no_server (NotKept error) f = absurd f

pub fault_no_settings : (ended : Ended) → IsFault ended → NoSettings ended
fault_no_settings Done f = absurd f
fault_no_settings BadCommandLine f = absurd f
fault_no_settings (BadLine number) f = absurd f
fault_no_settings TooLong f = absurd f
fault_no_settings BadSettings f = absurd f
fault_no_settings OutOfMemory f = tt
fault_no_settings Failed f = tt
fault_no_settings PortFailed f = tt
fault_no_settings NotDone f = absurd f
fault_no_settings (Unopened error) f = absurd f
fault_no_settings (NotKept error) f = absurd f

pub not_kept_unkept : (ended : Ended) → IsNotKept ended → EndsUnkept ended
not_kept_unkept Done f = absurd f
not_kept_unkept BadCommandLine f = absurd f
not_kept_unkept (BadLine number) f = absurd f
not_kept_unkept TooLong f = absurd f
not_kept_unkept BadSettings f = absurd f
not_kept_unkept OutOfMemory f = absurd f
not_kept_unkept Failed f = absurd f
not_kept_unkept PortFailed f = absurd f
not_kept_unkept NotDone f = absurd f
not_kept_unkept (Unopened error) f = absurd f
not_kept_unkept (NotKept error) f = tt

pub not_kept_kept : (ended : Ended) → IsNotKept ended → EndsKept ended
not_kept_kept Done f = absurd f
not_kept_kept BadCommandLine f = absurd f
not_kept_kept (BadLine number) f = absurd f
not_kept_kept TooLong f = absurd f
not_kept_kept BadSettings f = absurd f
not_kept_kept OutOfMemory f = absurd f
not_kept_kept Failed f = absurd f
not_kept_kept PortFailed f = absurd f
not_kept_kept NotDone f = absurd f
not_kept_kept (Unopened error) f = absurd f
not_kept_kept (NotKept error) f = tt

-- who took all turns ends well, or by a change that isn't kept
pub ended_well : (ended : Ended) → (ended ≡ Done) ⊎ IsNotKept ended → EndsKept ended
ended_well ended (inl done) = subst EndsKept (sym done) tt
ended_well ended (inr not) = not_kept_kept ended not

-- ---- by what its settings say of a store

module _ {K : Type 0} (holds : StoreDisk → List ℕ → List ResourceSetting → K → Tree → Type 0) (file_of : K → Option (List ℕ)) (keeps : K → Server → Type 0)
    (may_hold : K → Server → Server → Type 0) (trusted : K → Type 0) (faults : K → ℕ) (too_long : Server → Type 0) where
  pub kept_without : (store : Option (List ℕ)) (disk : StoreDisk) (resources : List ResourceSetting) (tree : Tree) (ended : Ended) (before after : Tree) → store ≡ None → tree ≡ tree_of resources
      → KeptBy holds file_of keeps may_hold trusted faults too_long store disk resources tree ended before after None
  kept_without store disk resources tree ended before after none is =
      subst (λ (s : Option (List ℕ)). KeptBy holds file_of keeps may_hold trusted faults too_long s disk resources tree ended before after None) (sym none) is

  kept_so : (disk : StoreDisk) (file : List ℕ) (resources : List ResourceSetting) (tree : Tree) (ended : Ended) (before after : Tree) (keeper : Option K) → IsSome keeper
      → IfSome keeper (IsKeptIn holds file_of keeps may_hold trusted faults too_long disk file resources tree ended before after)
      → KeptBy holds file_of keeps may_hold trusted faults too_long (Some file) disk resources tree ended before after keeper
  kept_so disk file resources tree ended before after None some it = absurd cc
  kept_so disk file resources tree ended before after (Some keeper) some it = it

  pub kept_stored : (store : Option (List ℕ)) (disk : StoreDisk) (name file : List ℕ) (resources : List ResourceSetting) (tree : Tree) (ended : Ended) (before after : Tree) (keeper : Option K)
      → store ≡ Some name → file ≡ name → IsSome keeper → IfSome keeper (IsKeptIn holds file_of keeps may_hold trusted faults too_long disk file resources tree ended before after)
      → KeptBy holds file_of keeps may_hold trusted faults too_long store disk resources tree ended before after keeper
  kept_stored store disk name file resources tree ended before after keeper is same some it =
      subst (λ (s : Option (List ℕ)). KeptBy holds file_of keeps may_hold trusted faults too_long s disk resources tree ended before after keeper) (sym is)
      (subst (λ (f : List ℕ). KeptBy holds file_of keeps may_hold trusted faults too_long (Some f) disk resources tree ended before after keeper) same
      (kept_so disk file resources tree ended before after keeper some it))
