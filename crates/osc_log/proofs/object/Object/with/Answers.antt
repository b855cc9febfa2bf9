use Rattle.osc_log.proofs.NoFloats.{no_float_put}
use Rattle.serde_json.specs.View.{members_view, view}
use Rattle.osc_log.proofs.object.Object.with.Goals as goal

pub invariant_of-result : goal.invariant_of-result
invariant_of-result c =
    record { whole = rw c.in_ok-put.ensures.ok (no_float_put c.args.key.now (view c.args.value) (members_view c.args.self.map.entries) c.requires c.args.self.whole) }
