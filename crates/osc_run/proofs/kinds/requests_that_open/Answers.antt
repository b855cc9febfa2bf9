use Rattle.osc_run.proofs.ServerDoes.{opened}
use Rattle.osc_run.proofs.kinds.requests_that_open.Goals as goal

pub returns : goal.returns
returns c = λ now kid kid_context table held number text reply tree after rules is_table means few fresh within replies.
    opened c.numbers_taken.ensures now table is_table number few text reply within tree after rules c.meant_contexts.ensures kid kid_context held means fresh replies
