-- What is written over a store, and what is told of it.
use Rattle.std.proofs.Common.{◌≡◌, ◌≤◌, ℕ, Bool, true, false, Option, Result, Ok, Err, IfErr, IsErrAnd, subst, refl, sym, ap, ◌∙◌, arith}
use Rattle.sqlite_disk.specs.Disk.{MoreFaults}
use Rattle.sqlite_trees.specs.Tree.{Trees}
use Rattle.sqlite_trees.specs.View.{View, OnlyWrites, Tells}
use Rattle.sqlite_trees.specs.declared.error.StoreError.{StoreError}
use Rattle.sqlite_trees.specs.declared.error.StoreError.TheVariants.{OutOfMemory, Io, Corrupt, Full, Broken, Unstorable}
use Rattle.osc_model.specs.Tree.{Tree}
use Rattle.osc_store.specs.{Holds, IsNamedBy, Keeps, WhyNotKept, Writes, told}
use Rattle.osc_store.specs.declared.error.KeepError.{KeepError}
use Rattle.osc_store.specs.declared.error.KeepError.TheVariants as keeping
use Rattle.osc_store.specs.Inner.Writing.{KeepsList}

module _ {S : Type 0} (v : S → View) (recovers : S → Trees → Type 0) (old new : S) (pending : Bool) (kept written : Tree) (writes : Writes v recovers old pending kept written) where
  -- one more change
  pub wrote : (next : Tree) → ((db : Trees) → recovers new db → recovers old db) → OnlyWrites (v old) (v new) → KeepsList (v old) (v new) → Holds (v new).trees next
      → Writes v recovers new true kept next
  wrote next less only list holds = record {
    ready = record {
      is_open = ap (λ (w : View). w.is_open) only ∙ writes.ready.is_open;
      sound = ap (λ (w : View). w.is_broken) only ∙ writes.ready.sound;
      table = (ap (λ (w : View). w.shape 0) only ∙ writes.ready.table.0, ap (λ (w : View). w.reals 0) only ∙ writes.ready.table.1);
      numbered = ap (λ (w : View). w.is_numbered) only ∙ writes.ready.numbered;
    };
    settled = λ none. absurd (cc);
    lists = list ∙ writes.lists;
    holds = holds;
    left = λ db may. writes.left db (less db may);
  }

-- what a store tells names the failure
pub named_told : (blamed : Option StoreError) (e : StoreError) → Tells blamed e → IsNamedBy blamed (told e)
named_told blamed OutOfMemory tells kind is of = absurd (cc)
named_told blamed Io tells kind is of = ap told (tells kind is refl)
named_told blamed Corrupt tells kind is of = ap told (tells kind is refl)
named_told blamed Full tells kind is of = ap told (tells kind is refl)
named_told blamed Broken tells kind is of = absurd (cc)
named_told blamed Unstorable tells kind is of = absurd (cc)

-- the cause of a part is one of the whole
pub why_wider : (F G L M : Type 0) (e : KeepError) → (F → G) → (L → M) → WhyNotKept F L e → WhyNotKept G M e
why_wider F G L M keeping.OutOfMemory f l h = tt
why_wider F G L M keeping.Full f l h = f h
why_wider F G L M keeping.Failed f l h = f h
why_wider F G L M keeping.Damaged f l h = f h
why_wider F G L M keeping.Closed f l h = absurd h
why_wider F G L M keeping.TooLong f l h = l h

-- more faults later are more faults
pub later_faults : (a b c : ℕ) → a ≤ b → MoreFaults b c → MoreFaults a c
later_faults a b c low h = omega arith

-- an error that is passed on as it is
pub passed_on : {X : Type 0} (r : Result X KeepError) (e : KeepError) (P : KeepError → Type 0) → IsErrAnd r (λ x. x ≡ e) → P e → IfErr r P
passed_on (Ok x) e P is p = tt
passed_on (Err x) e P is p = subst P (sym is) p

module _ {S : Type 0} (view : S → View) (recovers : S → Trees → Type 0) where
  -- where nothing is pending, what has been written is kept
  pub keeps_written : (s : S) (kept written : Tree) → Writes view recovers s false kept written → Keeps view recovers s written
  keeps_written s kept written writes = record {
    ready = writes.ready;
    settled = (writes.settled refl).0;
    lists = writes.lists;
    holds = writes.holds;
    left = λ db there. let held = writes.left db there in (held.0, subst (λ t. Holds db t) (sym (writes.settled refl).1) held.1);
  }
