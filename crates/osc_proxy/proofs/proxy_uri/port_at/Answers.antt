use Rattle.std.proofs.Common.{◌≡◌, ℕ, true, take, subst, sym, ap, ◌∙◌}
use Rattle.std.specs.List.{AllByRecursion}
use Rattle.osc_proxy.specs.{is_digit}
use Rattle.osc_proxy.proofs.UriLaws.{front_passes}
use Rattle.osc_proxy.proofs.proxy_uri.port_at.Goals as goal

pub port_of-requires : goal.port_of-requires
port_of-requires c =
    subst (AllByRecursion (λ byte. is_digit byte ≡ true))
    (sym (c.split_at.ensures.front ∙ ap (λ (n : ℕ). take n c.args.bytes.now) c.digits_length.ensures.value))
    (front_passes is_digit c.args.bytes.now)
