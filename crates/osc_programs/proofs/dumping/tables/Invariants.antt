use Rattle.std.proofs.Common.{◌≡◌, ◌++◌, flat_map}
use Rattle.std.specs.FinMap as map
use Rattle.osc_programs.specs.{dump_table}
use Rattle.osc_programs.proofs.dumping.tables.Given as goal

-- the tables so far, and those of what is left
abbrev pub invariant-loop-path : goal.invariant-loop-path
invariant-loop-path l = l.text.items ++ flat_map dump_table l.path-iterator ≡ flat_map dump_table (map.entries l.tree)
