use Rattle.std.proofs.Common.{List, Bor, Vec, Global, MatchResult, subst}
use Rattle.toml.specs.View.{array_view, items_view, view}
use Rattle.toml.specs.declared.value.Value.{Value}
use Rattle.osc_words.specs.Settings.{AreAddressTexts}
use Rattle.osc_words.specs.Settings.Inner.Reading.{IsRefusal}
use Rattle.osc_words.proofs.settings.Bound.{alone_in, array_in}
use Rattle.osc_words.proofs.settings.Keys.{seen_some, seen_none}
use Rattle.osc_words.proofs.settings.addresses.addresses.Goals as goal

pub returns-in-Some : goal.returns-in-Some
returns-in-Some c =
    let there = seen_some (λ (values : Bor (Vec Value Global)). array_view values.now) c.as_array.result _ c.in-Some.values c.as_array.ensures c.in-Some.is in
    let read = subst (λ (values : List Value). MatchResult c.few.result (λ peers. AreAddressTexts (items_view values) peers.items) (IsRefusal (AreAddressTexts (items_view values))))
    c.as_slice.ensures.value c.few.ensures in
    array_in (λ xs. xs.items) (view c.args.value.now) (array_view c.in-Some.values.now) c.few.result there read

pub returns-in-None : goal.returns-in-None
returns-in-None c =
    let none = seen_none (λ (values : Bor (Vec Value Global)). array_view values.now) c.as_array.result _ c.as_array.ensures c.in-None.is in
    alone_in (λ xs. xs.items) (view c.args.value.now) c.alone.result none c.alone.ensures
