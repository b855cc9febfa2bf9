use Rattle.std.proofs.Common.{◌≡◌}
use Rattle.std.specs.Prelude.{find}
use Rattle.osc_proxy.specs.{entries, is_named}
use Rattle.osc_proxy.proofs.exchanges.Exchanges.find_named.Given as goal

abbrev pub invariant-loop-key : goal.invariant-loop-key
invariant-loop-key l = find (λ entry. is_named l.from l.id entry.1) l.key-iterator ≡ find (λ entry. is_named l.from l.id entry.1) (entries l.self)
