use Rattle.std.proofs.Common.{◌≡◌, ℕ, Option, Some, None, sym}
use Rattle.std.specs.Prelude.{IfSome}
use Rattle.osc_model.specs.declared.node.Peer.{Peer}
use Rattle.osc_proxy.specs.{first_key, is_named}
use Rattle.osc_proxy.specs.Exchanges.{Table}
use Rattle.osc_proxy.specs.Inner.Bounds.{IsNamed}
use Rattle.osc_proxy.proofs.Keys.{first_is_there}
use Rattle.osc_proxy.proofs.case.ended_by.Goals as goal

by : (table : Table) (peer : Peer) (id : ℕ) (found : Option ℕ) → found ≡ first_key (is_named peer id) table → IfSome found (IsNamed table peer id)
by table peer id None is = tt
by table peer id (Some key) is =
    let there = first_is_there (is_named peer id) table key (sym is) in
    record { exchange = there.exchange; is = there.is; names = there.passes }

pub returns-in-Reset-clause-named : goal.returns-in-Reset-clause-named
returns-in-Reset-clause-named c = by c.args.exchanges.now c.args.named.peer c.args.named.id c.find_named.result c.find_named.ensures
