-- The members of an object that is being built.
use Rattle.serde_json.specs.Data.{Members}
use Rattle.serde_json.specs.View.{members_view}
use Rattle.osc_log.specs.declared.object.Object.{Object}

abbrev pub members_of : Object → Members
members_of o = members_view o.map.entries
