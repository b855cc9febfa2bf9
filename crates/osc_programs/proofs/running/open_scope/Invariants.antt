use Rattle.std.proofs.Common.{◌≡◌, map, take}
use Rattle.std.specs.FinSet as set
use Rattle.osc_model.specs.{exactly}
use Rattle.osc_model.specs.declared.code.Method.TheVariants.{Get}
use Rattle.osc_programs.proofs.running.open_scope.Given as goal

abbrev pub invariant-loop-path : goal.invariant-loop-path
invariant-loop-path l = l.scope ≡ set.from_list (map (λ path. exactly path Get) (take l.path-index l.paths))
