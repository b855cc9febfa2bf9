use Rattle.osc_turn.proofs.kept.RunLemmas.{client_runs, proxy_runs, server_runs, steps_begin, takes_cut, takes_steps, turns_steps}
use Rattle.osc_turn.proofs.kept.laws.turns_are_runs.Goals as goal

pub returns : goal.returns
returns g c =
    let acts = g.N.Node.acts in
    let is_step = g.N.Node.is_step in
    record {
      turn = takes_steps acts is_step;
      turns = turns_steps acts is_step;
      beginning = steps_begin acts is_step;
      server = server_runs acts is_step;
      client = client_runs acts is_step;
      proxy = proxy_runs acts is_step;
      cut = takes_cut acts is_step;
    }
