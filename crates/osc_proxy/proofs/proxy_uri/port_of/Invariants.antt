use Rattle.std.proofs.Common.{◌≡◌, ◌<◌, ◌+◌, ◌-◌, ◌*◌, true, drop}
use Rattle.std.specs.Prelude.{fold}
use Rattle.std.specs.List.{AllByRecursion}
use Rattle.osc_proxy.specs.{is_digit, decimal}
use Rattle.osc_proxy.proofs.proxy_uri.port_of.Given as goal

abbrev pub invariant-loop-digit : goal.invariant-loop-digit
invariant-loop-digit l = record {
  value : fold (λ n digit. 10 * n + (digit - 48)) l.port (drop l.digit-index l.digits) ≡ decimal l.digits;
  small : l.port < 65536;
  digits : AllByRecursion (λ byte. is_digit byte ≡ true) (drop l.digit-index l.digits);
}
