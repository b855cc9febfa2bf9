use Rattle.std.proofs.lemmas.Result.{IfErr-weaker, IfOk-weaker}
use Rattle.osc_programs.proofs.EndsEach.{talk_each}
use Rattle.osc_programs.proofs.requests.run_at.Goals as goal

pub returns-clause-stays : goal.returns-clause-stays
returns-clause-stays g c =
    IfOk-weaker c.each-ended.result _ _
    (λ ended stays. (
      c.in_ok-supply.supply,
      stays.0,
      c.in_ok-supply.ensures.seeded,
      stays.1,
      record {
        seed = c.in_ok-supply.ensures.given;
        first = c.in_ok-port.port;
        last = c.each-ended.new.port;
        opened = c.in_ok-port.ensures.opened;
        passes = stays.2;
      },
      stays.3,
      stays.4,
    ))
    c.each-ended.ensures.stays

pub returns-clause-ends : goal.returns-clause-ends
returns-clause-ends g c = IfErr-weaker c.each-ended.result _ _ (λ ended cannot. talk_each cannot.0 ended cannot.1) c.each-ended.ensures.ends
