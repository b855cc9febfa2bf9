use Rattle.std.proofs.Common.{◌≡◌, ap, ◌∙◌, arith, rules}
use Rattle.std.specs.FinMap as map
use Rattle.osc_model.specs.{path_cmp}
use Rattle.osc_model.specs.declared.resource.Resource.{Resource}
use Rattle.osc_store.proofs.loading.load.Goals as goal

pub rows-init : goal.rows-init
rows-init g c =
    let none : map.len c.new-tree.result ≡ 0 = ap map.len c.new-tree.ensures ∙ map.len-empty path_cmp Resource in record {
      live = search rules;
      quiet = search rules;
      schema = search rules;
      same = search rules;
      counted = none;
      few = omega (arith, none);
      reads = search rules;
    }

pub returns-clause-none : goal.returns-clause-none
returns-clause-none g c = λ clean table tree servable holds. omega (arith, c.rows.invariant.counted, c.rows.invariant.few, c.rows.auto.counter-end)
