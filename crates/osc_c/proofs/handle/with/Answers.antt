-- What was held is held as it was left.
use Rattle.std.proofs.Common.{rules, of_calls, ◌∙◌}
use Rattle.std.specs.Fn.{CalledAtMut}
use Rattle.osc_c.proofs.Lending.{lends}
use Rattle.osc_c.proofs.handle.with.Goals as goal

pub returns-in-Some-clause-lent : goal.returns-in-Some-clause-lent
returns-in-Some-clause-lent g c = lends (λ old outcome new. CalledAtMut g.F.FnMut c.args.call.now old outcome c.call-outcome.new.self new) (search rules) c.deref_mut.ensures.value (c.of_handle.ensures ∙ c.holding.ensures) (search (of_calls, rules))
