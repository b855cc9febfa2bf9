use Rattle.std.proofs.Common.{◌∙◌, ap}
use Rattle.std.proofs.lemmas.Result.{on_ok_weaker, IfErr-weaker}
use Rattle.osc_simulation.specs.Names.{Names}
use Rattle.osc_lab.specs.{in_lines, unbegun}
use Rattle.osc_lab.proofs.Labs.{at_exit}
use Rattle.osc_lab.proofs.Appended.{appends_none}
use Rattle.osc_lab.proofs.run.lab_lines.Goals as goal

pub returns-in_err-names-clause-early : goal.returns-in_err-names-clause-early
returns-in_err-names-clause-early g c = at_exit c.from_residual.result c.in_err-names.field-0.0 _ c.from_residual.ensures.1 (unbegun c.in_err-names.ensures.fault (appends_none _))

pub returns-in_err-parts-clause-early : goal.returns-in_err-parts-clause-early
returns-in_err-parts-clause-early g c =
    at_exit c.from_residual-in_err-parts.result c.in_err-parts.field-0.0 _ c.from_residual-in_err-parts.ensures.1 (unbegun c.in_err-parts.ensures.fault (appends_none _))

pub returns-in_err-ports-clause-early : goal.returns-in_err-ports-clause-early
returns-in_err-ports-clause-early g c =
    at_exit c.from_residual-in_err-ports.result c.in_err-ports.field-0.0 _ c.from_residual-in_err-ports.ensures.1 (unbegun c.in_err-ports.ensures.fault (appends_none _))

pub returns-in_err-supply-clause-early : goal.returns-in_err-supply-clause-early
returns-in_err-supply-clause-early g c =
    at_exit c.from_residual-in_err-supply.result c.in_err-supply.field-0.0 _ c.from_residual-in_err-supply.ensures.1 (unbegun c.in_err-supply.ensures.fault (appends_none _))

pub run-requires : goal.run-requires
run-requires g c = c.clients.ensures ∙ ap (λ (names : Names). names.clients) c.in_ok-names.ensures.names

pub returns-clause-done : goal.returns-clause-done
returns-clause-done g c =
    let parts = c.in_ok-parts.ensures.parts in
    on_ok_weaker c.run.result
    (λ printed. (
      printed.0,
      record {
        sockets = _;
        first = _;
        last = _;
        is_first = record {
          start = parts.0;
          starts = parts.1;
          parts = c.in_ok-parts.parts;
          are = parts.2;
          lab = c.new-nodes.ensures;
          ports = c.in_ok-ports.ensures.begins;
          seeded = c.in_ok-supply.ensures.seeded;
          seed = c.in_ok-supply.ensures.given;
        };
        prints = printed.1;
      },
      printed.2,
    ))
    c.run.ensures.prints

pub returns-clause-early : goal.returns-clause-early
returns-clause-early g c =
    let parts = c.in_ok-parts.ensures.parts in
    IfErr-weaker c.run.result _ _
    (λ ended stops. in_lines _ _ _
    (record {
      start = parts.0;
      starts = parts.1;
      parts = c.in_ok-parts.parts;
      are = parts.2;
      lab = c.new-nodes.ensures;
      ports = c.in_ok-ports.ensures.begins;
      seeded = c.in_ok-supply.ensures.seeded;
      seed = c.in_ok-supply.ensures.given;
    }) stops)
    c.run.ensures.stops
