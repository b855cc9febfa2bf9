use Rattle.std.proofs.Common.{refl}
use Rattle.std.proofs.lemmas.Result.{IfOk-weaker}
use Rattle.osc_programs.proofs.asking.run_at.Goals as goal

pub returns-clause-talks : goal.returns-clause-talks
returns-clause-talks g c =
    IfOk-weaker c.run-outcome.result _ _
    (λ outcome talked. (
      c.run-outcome.new.talking.client,
      record {
        start = c.in_ok-supply.supply;
        seeded = c.in_ok-supply.ensures.seeded;
        passed = talked.0;
        last = _;
        talks = talked.1;
        ends = refl;
      },
      record {
        seed = c.in_ok-supply.ensures.given;
        first = c.in_ok-port.port;
        last = c.run-outcome.new.port;
        opened = c.in_ok-port.ensures.opened;
        passes = talked.2;
      },
    ))
    c.run-outcome.ensures.converses
