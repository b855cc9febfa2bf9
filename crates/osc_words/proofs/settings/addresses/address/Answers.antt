use Rattle.std.proofs.Common.{ℕ, List, Bor}
use Rattle.toml.specs.View.{view}
use Rattle.osc_words.proofs.settings.Bound.{address_in, no_address}
use Rattle.osc_words.proofs.settings.Keys.{seen_some, seen_none}
use Rattle.osc_words.proofs.settings.addresses.address.Goals as goal

pub returns-in-Some : goal.returns-in-Some
returns-in-Some c =
    let there = seen_some (λ (text : Bor (List ℕ)). text.now) c.as_str.result _ c.in-Some.text c.as_str.ensures c.in-Some.is in
    address_in (view c.args.value.now) c.in-Some.text.now c.address.result there c.address.ensures

pub returns-in-None : goal.returns-in-None
returns-in-None c =
    let none = seen_none (λ (text : Bor (List ℕ)). text.now) c.as_str.result _ c.as_str.ensures c.in-None.is in
    no_address (view c.args.value.now) none
