-- What was granted, and the algorithm.
use Rattle.std.proofs.Common.{◌∙◌, subst}
use Rattle.osc_c.specs.{IsFresh}
use Rattle.osc_c.proofs.calls.client.ClientNode.new.Goals as goal

pub returns-clause-ok : goal.returns-clause-ok
returns-clause-ok c =
    let is = c.in_ok-desk.ensures in
    record {
      desk = c.in_ok-desk.desk;
      alg = c.in_ok-alg.alg;
      is_desk = (is.0, is.1, is.2, is.3 ∙ c.in_ok-context.ensures, is.4);
      is_alg = c.in_ok-alg.ensures.ok;
      fits = (c.in_ok-sized.ensures.ok, (c.in_ok-alg.alg, c.in_ok-alg.ensures.ok), c.in_ok-flag.ensures.set.1, c.in_ok-lawful.ensures.ok, c.in_ok-way.ensures.lawful);
      fresh = subst (λ way. IsFresh c.in_ok-desk.desk way c.in_ok-of.field-0) c.in_ok-way.ensures.ok c.in_ok-of.ensures;
    }
