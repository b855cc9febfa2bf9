use Rattle.std.proofs.Common.{sym}
use Rattle.osc_authz.specs.{with_id}
use Rattle.osc_server.proofs.Meant.{kid_context_is}
use Rattle.osc_server.proofs.serving.opened.Goals as goal

pub open-requires : goal.open-requires
open-requires g c =
    let says = c.args.request.now.says in
    let came = c.args.request.now.came.now in
    let its = c.in-Ok.ensures.meant.is_meant in
    record {
      kid = sym (c.meant_contexts.ensures (record { at = came.at; tree = c.args.tree.now }) says.kid says.kid_context c.args.desk.now.table c.in-Ok.context.now its).4;
      kid_context = kid_context_is (record { at = came.at; tree = c.args.tree.now }) says.kid_context (with_id says.kid c.args.desk.now.table) c.in-Ok.context.now its;
    }

pub returns-in-Some-clause-opened : goal.returns-in-Some-clause-opened
returns-in-Some-clause-opened g c = (
  c.in-Ok.context.now,
  record {
    meant = c.in-Ok.ensures.meant;
    fresh = c.in-Ok.ensures.fresh;
    opens = rw c.in-Some.is at c.in_ok-note.ensures.opened;
  },
  rw c.in-Some.is at c.in_ok-note.ensures.noted,
)

pub returns-in-None-clause-refused : goal.returns-in-None-clause-refused
returns-in-None-clause-refused g c =
    (c.args.request.now.says, c.in-Ok.context.now, c.in-Ok.ensures.meant, c.in-Ok.ensures.fresh, rw c.in-None.is at c.in_ok-note.ensures.none)
