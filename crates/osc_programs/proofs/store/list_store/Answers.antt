use Rattle.std.proofs.Common.{List, subst, ℕ}
use Rattle.osc_programs.proofs.store.list_store.Goals as goal

pub returns-in-Ok-back_up-clause-done : goal.returns-in-Ok-back_up-clause-done
returns-in-Ok-back_up-clause-done g c = λ done. (
  c.in-Ok.tree,
  subst (λ (file : List ℕ). g.R.Stores.held c.args.runtime.now file c.args.words.now.until_damage c.in-Ok.tree) c.as_str.ensures.text c.in-Ok.ensures.found,
  c.in-Ok-back_up.ensures.saved,
  c.print_tree.ensures.done done,
)
