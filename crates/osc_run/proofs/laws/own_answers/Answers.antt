use Rattle.osc_run.specs.{grants_of, history}
use Rattle.osc_options.specs.{read_request}
use Rattle.osc_run.proofs.laws.own_answers.Goals as goal

pub returns : goal.returns
returns c w reached premise paths =
    c.isolation.ensures read_request w.server.rules.revoked (grants_of w.minted) w.first (history w.notes) premise.separate paths (c.one_history.ensures w reached premise).legal
