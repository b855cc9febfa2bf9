use Rattle.std.proofs.Common.{◌≡◌, ◌≤◌, ◌<◌, length, true, None, Some, rules, sym, subst, ap, ◌∙◌, arith}
use Rattle.std.specs.FinMap as finmap
use Rattle.sqlite_trees.specs.View.{Advances}
use Rattle.osc_model.specs.declared.resource.Resource.{Resource}
use Rattle.osc_store.specs.{row_of}
use Rattle.osc_store.specs.Inner.Loading.{Reads}
use Rattle.osc_model.specs.{payload_length}
use Rattle.osc_store.proofs.ViewLemmas.{row_taken}
use Rattle.osc_store.proofs.LoadLemmas.{row_ahead, one_entry, one_more}
use Rattle.osc_store.proofs.loading.take.Goals.{then-len-gt-LONGEST_PAYLOAD-via-then-len-gt-LONGEST_PAYLOAD, then-len-gt-LONGEST_PAYLOAD-via-else-len-gt-LONGEST_PAYLOAD+then-is_full, then-len-gt-LONGEST_PAYLOAD-via-else-len-gt-LONGEST_PAYLOAD+else-is_full+then-is_some}
use Rattle.osc_store.proofs.loading.take.Goals as goal

pub returns-clause-took : goal.returns-clause-took
returns-clause-took g c = λ clean table sound reads.
    let order = c.paths_are_ordered.ensures in
    let v = g.S.Store.view in
    let resource : Resource = record { format = c.in-Some.resource.format; payload = c.in-Some.resource.payload } in
    let moves : Advances (v c.args.store.now) (v c.next.new.self) 0 c.next.new.row true = search rules in
    let is : c.next.new.row ≡ row_of (c.in-Some.path, resource) = search rules in
    let absent : finmap.get c.args.tree.now c.in-Some.path ≡ None = search rules in
    subst (Reads (v c.next.new.self)) (sym c.in_ok-put.ensures.ok)
    (row_taken order.total order.exact (v c.args.store.now) (v c.next.new.self) c.args.tree.now c.in-Some.path resource c.next.new.row table (g.met.S.Store.ordered c.args.store.now sound) reads moves is absent)

pub returns-in_default-clause-took : goal.returns-in_default-clause-took
returns-in_default-clause-took g c = λ clean table sound reads whole servable holds.
    let order = c.paths_are_ordered.ensures in
    let v = g.S.Store.view in
    let moves : Advances (v c.args.store.now) (v c.next.new.self) 0 c.next.new.row true = search rules in
    let next = row_ahead order.total (v c.args.store.now) (v c.next.new.self) c.args.tree.now whole c.next.new.row reads moves holds in
    rw c.in_default.is at (c.in_ok-path.ensures.none (next.path, next.resource) (servable.each next.path next.resource next.there) next.is)

pub returns-then-len-gt-LONGEST_PAYLOAD-clause-took : goal.returns-then-len-gt-LONGEST_PAYLOAD-clause-took
returns-then-len-gt-LONGEST_PAYLOAD-clause-took g c = λ clean table sound reads whole servable holds.
    let order = c.paths_are_ordered.ensures in
    let v = g.S.Store.view in
    let resource : Resource = record { format = c.in-Some.resource.format; payload = c.in-Some.resource.payload } in
    let moves : Advances (v c.args.store.now) (v c.next.new.self) 0 c.next.new.row true = search rules in
    let next = row_ahead order.total (v c.args.store.now) (v c.next.new.self) c.args.tree.now whole c.next.new.row reads moves holds in
    let is : c.next.new.row ≡ row_of (c.in-Some.path, resource) = search rules in
    let same = one_entry (c.in-Some.path, resource) (next.path, next.resource) (sym is ∙ next.is) in
    let there : finmap.get whole c.in-Some.path ≡ Some resource = subst (λ e. finmap.get whole e.0 ≡ Some e.1) (sym same) next.there in
    let absent : finmap.get c.args.tree.now c.in-Some.path ≡ None = subst (λ e. finmap.get c.args.tree.now e.0 ≡ None) (sym same) next.absent in
    let short : length resource.payload ≤ 512 = subst (λ n. n ≤ 512) (ap payload_length there) (servable.limits.short c.in-Some.path) in
    elim c.then-len-gt-LONGEST_PAYLOAD.branch [
      | then-len-gt-LONGEST_PAYLOAD-via-then-len-gt-LONGEST_PAYLOAD w ↦ search rules
      | then-len-gt-LONGEST_PAYLOAD-via-else-len-gt-LONGEST_PAYLOAD+then-is_full w ↦ let few = servable.limits.few in let more = next.more in search rules
      | then-len-gt-LONGEST_PAYLOAD-via-else-len-gt-LONGEST_PAYLOAD+else-is_full+then-is_some w ↦ search rules
    ]

pub returns-clause-count : goal.returns-clause-count
returns-clause-count g c = λ _.
    let order = c.paths_are_ordered.ensures in
    let resource : Resource = record { format = c.in-Some.resource.format; payload = c.in-Some.resource.payload } in
    let absent : finmap.get c.args.tree.now c.in-Some.path ≡ None = search rules in
    let more = one_more order.total c.args.tree.now c.in-Some.path resource absent in
    let is : c.put.new.self ≡ finmap.insert c.args.tree.now c.in-Some.path resource = search rules in
    let room : finmap.len c.args.tree.now < 1024 = search rules in
    (ap finmap.len is ∙ more, omega (arith, ap finmap.len is, more, room))
