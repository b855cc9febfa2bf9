-- What is put so far.
use Rattle.osc_c.proofs.Firsts.{Goes}
use Rattle.osc_c.proofs.calls.first.first_tree.Given as goal

abbrev pub invariant-loop-given : goal.invariant-loop-given
invariant-loop-given l = Goes l.resources l.given-index l.tree
