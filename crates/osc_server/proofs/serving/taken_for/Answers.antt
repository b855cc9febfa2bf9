use Rattle.std.proofs.Common.{◌∙◌}
use Rattle.osc_server.proofs.Served.{ready}
use Rattle.osc_server.proofs.serving.taken_for.Goals as goal

pub returns-in_ok-taken-in-Ok-clause-ready : goal.returns-in_ok-taken-in-Ok-clause-ready
returns-in_ok-taken-in-Ok-clause-ready g c =
    ready g.A.Ciphers.is_sealing g.A.Ciphers.TAG c.args.desk.now.rules.answers (record { tree = c.args.tree.now; table = c.args.desk.now.table }) c.args.request.now.came.now c.args.request.now.says c.in-Ok.note c.in_ok-taken-in-Ok.taken
    c.in_ok-taken-in-Ok.ensures.note c.in_ok-taken-in-Ok.ensures.taken (c.in_ok-taken-in-Ok.ensures.holder ∙ c.in_ok-holder-in-Ok.ensures) (c.in_ok-taken-in-Ok.ensures.kept ∙ c.kept_of-kept.ensures) (rw c.in-Ok.is at c.in_ok-note.ensures.opened)
