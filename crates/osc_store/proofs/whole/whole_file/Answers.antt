use Rattle.std.proofs.Common.{List, ℕ, [], subst}
use Rattle.sqlite_wal.specs.Recovery.{Image}
use Rattle.osc_store.specs.{FindsTree}
use Rattle.osc_store.proofs.whole.whole_file.Goals as goal

abbrev image : List ℕ → List ℕ → Image
image log db = record { log = log; db = db }

pub returns-then-are_same : goal.returns-then-are_same
returns-then-are_same c =
    let read : FindsTree (image [] c.in_ok-bytes.bytes.items) c.in_ok-found.found = subst (λ db. FindsTree (image [] db) c.in_ok-found.found) c.deref.ensures.value c.in_ok-found.ensures.found in
    record { found = subst (FindsTree (image [] c.in_ok-bytes.bytes.items)) (c.are_same.ensures c.if-are_same.true) read }
