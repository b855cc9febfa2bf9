-- How a lab ends.
use Rattle.std.proofs.Common.{◌≢◌, ℕ}
use Rattle.osc_programs.specs.{CannotLab, EndsLab, EndsTurns, IsFault, NoScript}
use Rattle.osc_programs.specs.declared.ended.Ended.{Ended}
use Rattle.osc_programs.specs.declared.ended.Ended.TheVariants.{Done, BadCommandLine, BadLine, TooLong, BadSettings, OutOfMemory, Failed, PortFailed, NotDone, Unopened, NotKept}

pub fault_lab : (ended : Ended) → IsFault ended → CannotLab ended
fault_lab Done f = absurd f
fault_lab BadCommandLine f = absurd f
fault_lab (BadLine n) f = absurd f
fault_lab TooLong f = absurd f
fault_lab BadSettings f = absurd f
fault_lab OutOfMemory f = f
fault_lab Failed f = f
fault_lab PortFailed f = f
fault_lab NotDone f = absurd f
fault_lab (Unopened error) f = absurd f
fault_lab (NotKept error) f = absurd f

pub cannot_lab : (ended : Ended) → CannotLab ended → EndsLab ended
cannot_lab Done f = tt
cannot_lab BadCommandLine f = f
cannot_lab (BadLine n) f = f
cannot_lab TooLong f = f
cannot_lab BadSettings f = f
cannot_lab OutOfMemory f = f
cannot_lab Failed f = f
cannot_lab PortFailed f = f
cannot_lab NotDone f = f
cannot_lab (Unopened error) f = absurd f
cannot_lab (NotKept error) f = absurd f

pub lab_no_end : (ended : Ended) → CannotLab ended → ended ≢ Done
lab_no_end Done f e = f
lab_no_end BadCommandLine f e = absurd cc
lab_no_end (BadLine n) f e = absurd cc
lab_no_end TooLong f e = absurd cc
lab_no_end BadSettings f e = absurd cc
lab_no_end OutOfMemory f e = absurd cc
lab_no_end Failed f e = absurd cc
lab_no_end PortFailed f e = absurd cc
lab_no_end NotDone f e = absurd cc
lab_no_end (Unopened error) f e = absurd cc
lab_no_end (NotKept error) f e = absurd cc

pub no_script_lab : (ended : Ended) → NoScript ended → CannotLab ended
no_script_lab Done f = absurd f
no_script_lab BadCommandLine f = absurd f
no_script_lab (BadLine number) f = absurd f
no_script_lab TooLong f = tt
no_script_lab BadSettings f = absurd f
no_script_lab OutOfMemory f = tt
no_script_lab Failed f = tt
no_script_lab PortFailed f = absurd f
no_script_lab NotDone f = absurd f
no_script_lab (Unopened error) f = absurd f
no_script_lab (NotKept error) f = absurd f

pub no_script_line : (ended : Ended) → NoScript ended → (n : ℕ) → ended ≢ BadLine n
no_script_line Done f n e = absurd f
no_script_line BadCommandLine f n e = absurd f
no_script_line (BadLine number) f n e = absurd f
no_script_line TooLong f n e = absurd cc
no_script_line BadSettings f n e = absurd f
no_script_line OutOfMemory f n e = absurd cc
no_script_line Failed f n e = absurd cc
no_script_line PortFailed f n e = absurd f
no_script_line NotDone f n e = absurd f
no_script_line (Unopened error) f n e = absurd f
no_script_line (NotKept error) f n e = absurd f

pub turns_whole : (ended : Ended) → EndsTurns ended → ended ≢ TooLong
turns_whole Done f e = absurd cc
turns_whole BadCommandLine f e = absurd cc
turns_whole (BadLine number) f e = absurd cc
turns_whole TooLong f e = f
turns_whole BadSettings f e = absurd cc
turns_whole OutOfMemory f e = absurd cc
turns_whole Failed f e = absurd cc
turns_whole PortFailed f e = absurd cc
turns_whole NotDone f e = absurd cc
turns_whole (Unopened error) f e = absurd cc
turns_whole (NotKept error) f e = absurd cc
