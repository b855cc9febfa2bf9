-- What was held goes on so.
use Rattle.std.proofs.Common.{rules}
use Rattle.osc_c.specs.declared.calls.outcome.Outcome.TheVariants as outcome
use Rattle.osc_c.proofs.Lending.{apart, never_by, tells_of}
use Rattle.osc_c.proofs.own.nzf_device_open.Goals as goal

pub returns-clause-tells : goal.returns-clause-tells
returns-clause-tells c =
    tells_of _ _ _ _ _ _ c.with.ensures.lent (search rules) (λ none. search rules) (λ s l called. let d = called.met.1.0 in (d.0, d.1, search (d.2, rules), d.3))

pub returns-clause-fits : goal.returns-clause-fits
returns-clause-fits c = apart c.with.result (search rules) (never_by _ _ _ outcome.TooLong _ (search rules) c.with.ensures.lent (λ x y did. did.called.met.1.1))
