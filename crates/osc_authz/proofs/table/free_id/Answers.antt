use Rattle.std.proofs.Common.{sym, ◌∙◌}
use Rattle.osc_authz.specs.Inner.Lives.{alive_by, holds_live_by}
use Rattle.osc_authz.specs.{ids, without_pending}
use Rattle.osc_authz.proofs.MarkLemmas.{least_is_free, one_is_unmarked}
use Rattle.osc_authz.proofs.table.free_id.Goals as goal

pub unreachable-requires : goal.unreachable-requires
unreachable-requires c =
    one_is_unmarked (holds_live_by c.args.now c.args.revoked.now) c.args.token.now c.args.client_id.now c.args.table.now c.mark.new.marks c.mark_staying.new.marks c.requires
    c.mark.ensures c.mark_staying.ensures c.mark_staying.array_long (sym c.least_unmarked.ensures ∙ c.in-None.is)

pub returns : goal.returns
returns c =
    least_is_free c.args.client_id.now (ids (without_pending c.args.token.now (alive_by c.args.now c.args.revoked.now c.args.table.now))) c.mark.new.marks c.mark_staying.new.marks c.in-Some.byte
    c.mark.ensures c.mark_staying.ensures c.mark_staying.array_long (sym c.least_unmarked.ensures ∙ c.in-Some.is)
