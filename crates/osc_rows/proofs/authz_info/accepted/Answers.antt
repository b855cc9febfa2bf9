use Rattle.std.proofs.Common.{sym, subst}
use Rattle.osc_context.specs.{Recipient}
use Rattle.osc_window.specs.{IsFresh}
use Rattle.osc_rows.proofs.authz_info.accepted.Goals as goal

pub accept-number-requires-clause-fresh : goal.accept-number-requires-clause-fresh
accept-number-requires-clause-fresh c = (
  c.in-Some.context.now,
  sym c.in-Some.ensures,
  subst (λ (r : Recipient). IsFresh r.window 0) c.recipient.ensures (c.is_fresh.ensures.0 c.if-is_fresh.true),
)
