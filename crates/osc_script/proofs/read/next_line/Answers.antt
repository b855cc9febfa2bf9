use Rattle.std.proofs.Common.{subst, sym}
use Rattle.osc_script.specs.{MayFollow}
use Rattle.osc_script.proofs.Said.{one_line}
use Rattle.osc_script.proofs.read.next_line.Goals as goal

pub returns-in_default-clause-found : goal.returns-in_default-clause-found
returns-in_default-clause-found c = λ line s. let nothing = rw c.in_default.is at c.in_ok-line.ensures in nothing line s.0

pub returns-in_default-behind-clause-found : goal.returns-in_default-behind-clause-found
returns-in_default-behind-clause-found c = λ line s.
    let says = rw c.in-Some.is at c.in_ok-line.ensures in
    c.in_default-behind.ensures.none (subst (λ line. MayFollow c.args.above.now line) (sym (one_line c.args.text.now c.in-Some.line line says s.0)) s.1)
