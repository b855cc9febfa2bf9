-- How programs end that run scripts.
use Rattle.std.proofs.Common.{◌≡◌, ◌≢◌, ℕ, List, Option, Some, None, subst}
use Rattle.std.specs.Option.{IfSome}
use Rattle.osc_programs.specs.{EndsSim, NoScript}
use Rattle.osc_programs.specs.declared.ended.Ended.{Ended}
use Rattle.osc_programs.specs.declared.ended.Ended.TheVariants.{Done, BadCommandLine, BadLine, TooLong, BadSettings, OutOfMemory, Failed, PortFailed, NotDone, Unopened, NotKept}

-- what is so of the bytes that were read is so of what the reader had
pub of_known : (known : Option (List ℕ)) (bytes : List ℕ) (P : List ℕ → Type 0) → IfSome known (λ (k : List ℕ). bytes ≡ k) → P bytes → IfSome known P
of_known None bytes P same it = tt
of_known (Some k) bytes P same it = subst P same it

-- ---- no script

pub no_script_sim : (ended : Ended) → NoScript ended → EndsSim ended
no_script_sim Done f = absurd f
no_script_sim BadCommandLine f = absurd f
no_script_sim (BadLine number) f = absurd f
no_script_sim TooLong f = tt
no_script_sim BadSettings f = absurd f
no_script_sim OutOfMemory f = tt
no_script_sim Failed f = tt
no_script_sim PortFailed f = absurd f
no_script_sim NotDone f = absurd f
no_script_sim (Unopened error) f = absurd f
no_script_sim (NotKept error) f = absurd f

pub no_script_done : (ended : Ended) → NoScript ended → ended ≢ Done
no_script_done Done f e = absurd f
no_script_done BadCommandLine f e = absurd f
no_script_done (BadLine number) f e = absurd f
no_script_done TooLong f e = absurd cc
no_script_done BadSettings f e = absurd f
no_script_done OutOfMemory f e = absurd cc
no_script_done Failed f e = absurd cc
no_script_done PortFailed f e = absurd f
no_script_done NotDone f e = absurd f
no_script_done (Unopened error) f e = absurd f
no_script_done (NotKept error) f e = absurd f

pub no_script_words : (ended : Ended) → NoScript ended → ended ≢ BadCommandLine
no_script_words Done f e = absurd f
no_script_words BadCommandLine f e = absurd f
no_script_words (BadLine number) f e = absurd f
no_script_words TooLong f e = absurd cc
no_script_words BadSettings f e = absurd f
no_script_words OutOfMemory f e = absurd cc
no_script_words Failed f e = absurd cc
no_script_words PortFailed f e = absurd f
no_script_words NotDone f e = absurd f
no_script_words (Unopened error) f e = absurd f
no_script_words (NotKept error) f e = absurd f

pub no_script_line : (ended : Ended) → NoScript ended → (n : ℕ) → ended ≢ BadLine n
no_script_line Done f n e = absurd f
no_script_line BadCommandLine f n e = absurd f
no_script_line (BadLine number) f n e = absurd f
no_script_line TooLong f n e = absurd cc
no_script_line BadSettings f n e = absurd f
no_script_line OutOfMemory f n e = absurd cc
no_script_line Failed f n e = absurd cc
no_script_line PortFailed f n e = absurd f
no_script_line NotDone f n e = absurd f
no_script_line (Unopened error) f n e = absurd f
no_script_line (NotKept error) f n e = absurd f
