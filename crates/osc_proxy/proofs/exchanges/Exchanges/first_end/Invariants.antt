use Rattle.std.proofs.Common.{◌≡◌, ◌||◌, true, is_some}
use Rattle.std.specs.List.{list_any}
use Rattle.osc_model.specs.declared.node.Moment.{Moment}
use Rattle.osc_message.specs.{is_reached}
use Rattle.osc_proxy.specs.{entries, is_overdue, any_overdue}
use Rattle.osc_proxy.proofs.exchanges.Exchanges.first_end.Given as goal

abbrev pub invariant-loop-exchange : goal.invariant-loop-exchange
invariant-loop-exchange l = record {
  reached : (now : Moment) → (is_reached now l.first || list_any (λ entry. is_overdue now entry.1) l.exchange-iterator) ≡ any_overdue now l.self;
  open_is : (is_some l.first || list_any (λ _. true) l.exchange-iterator) ≡ list_any (λ _. true) (entries l.self);
}
