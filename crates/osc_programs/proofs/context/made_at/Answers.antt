use Rattle.std.proofs.Common.{refl}
use Rattle.std.proofs.lemmas.Result.{IfOk-weaker}
use Rattle.osc_programs.proofs.context.made_at.Goals as goal

pub returns-clause-made : goal.returns-clause-made
returns-clause-made g c =
    IfOk-weaker c.made_by-made.result _ _
    (λ text made. (
      c.made_by-made.new.talking.client,
      made.1,
      record {
        start = c.in_ok-supply.supply;
        seeded = c.in_ok-supply.ensures.seeded;
        passed = made.0;
        last = _;
        exchanges = made.2;
        ends = refl;
      },
      record {
        seed = c.in_ok-supply.ensures.given;
        first = c.in_ok-port.port;
        last = c.made_by-made.new.port;
        opened = c.in_ok-port.ensures.opened;
        passes = made.3;
      },
      made.4,
      made.5,
    ))
    c.made_by-made.ensures.made
