use Rattle.std.proofs.Common.{subst, sym, ◌∙◌}
use Rattle.osc_server.specs.Inner.Parts.{FitsAResource}
use Rattle.osc_server.proofs.Gets.{get_reads}
use Rattle.osc_server.proofs.Replies.{read_reply_short}
use Rattle.osc_server.proofs.server.open_reply.Goals as goal

pub returns-in-Ok-clause-short : goal.returns-in-Ok-clause-short
returns-in-Ok-clause-short c =
    subst FitsAResource (sym c.in-Ok.ensures.reply) (read_reply_short _ c.args.tree.now c.args.grant.now.scope c.args.grant.now.request c.len-count.ensures.limits)

pub returns-in-Ok-clause-same : goal.returns-in-Ok-clause-same
returns-in-Ok-clause-same c =
    c.in-Ok.ensures.tree ∙ get_reads _ c.args.tree.now c.args.grant.now.scope c.args.grant.now.request c.requires
