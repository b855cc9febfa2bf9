use Rattle.std.proofs.Common.{take}
use Rattle.osc_run.specs.{IsMinted}
use Rattle.osc_run.proofs.premise.is_minted.Given as goal

-- none so far has the text
abbrev pub invariant-loop-m : goal.invariant-loop-m
invariant-loop-m l = IsMinted (take l.m-index l.minted) l.text → ⊥
