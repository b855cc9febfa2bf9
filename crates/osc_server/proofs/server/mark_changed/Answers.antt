use Rattle.std.proofs.Common.{◌≡◌, ℕ, List, Option, Some, subst, sym}
use Rattle.osc_server.specs.Inner.Parts.{DifferAt, may_change_by}
use Rattle.osc_server.proofs.server.mark_changed.Goals as goal

pub returns-in-Some : goal.returns-in-Some
returns-in-Some c = λ before differ marked.
    let named : Some c.in-Some.path.now ≡ may_change_by c.args.notes.now.served = rw c.in-Some.is at c.path_changed.ensures in
    c.mark.ensures before (subst (λ (path : Option (List ℕ)). DifferAt path before c.args.tree.now) (sym named) differ) marked
