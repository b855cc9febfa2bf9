use Rattle.osc_server.proofs.serving.fresh_context.Goals as goal

pub returns-then-not-is_fresh-clause-refused : goal.returns-then-not-is_fresh-clause-refused
returns-then-not-is_fresh-clause-refused g c = (
  c.args.request.now.says,
  c.in-Some.context.now,
  c.in-Some.ensures.some,
  λ fresh. absurd (cc (c.if-not-is_fresh.true, c.is_fresh.ensures.1 (rw (c.recipient.ensures, c.number.ensures.value) fresh))),
)
