-- The rows so far are in the tree, and nothing is written.
use Rattle.std.proofs.Common.{◌≡◌, ◌≤◌}
use Rattle.std.specs.FinMap as map
use Rattle.std.specs.Option.{IsSome}
use Rattle.sqlite_trees.specs.View.{IsClean, KeepsSchema}
use Rattle.osc_model.specs.{most_resources}
use Rattle.osc_store.specs.Inner.Loading.{Reads}
use Rattle.osc_store.specs.Inner.Writing.{AddsNone, IsSame}
use Rattle.osc_store.proofs.loading.load.Given as goal

abbrev pub invariant-rows : goal.invariant-rows
invariant-rows g l = record {
  live : IsSome ((g.S.Store.view l.store).cursors 0);
  quiet : AddsNone g.S.Store.view g.S.Store.recovers g.S.Store.faults l.fn.store l.store;
  schema : KeepsSchema (g.S.Store.view l.fn.store) (g.S.Store.view l.store);
  same : IsClean (g.S.Store.view l.store) → IsSame (g.S.Store.view l.fn.store) (g.S.Store.view l.store);
  counted : map.len l.tree ≡ l.counter;
  few : map.len l.tree ≤ most_resources;
  reads : IsClean (g.S.Store.view l.store) → Reads (g.S.Store.view l.store) l.tree;
}
