use Rattle.std.proofs.Common.{sym}
use Rattle.osc_protect.proofs.ValueWriting.{plain_value, full_value}
use Rattle.osc_protect.proofs.value.request_option.Goals as goal
use Rattle.osc_protect.proofs.value.request_option.Goals.{in-Some, in-None}

pub returns : goal.returns
returns c = elim c.match-name.branch [
  | in-Some w ↦
      rw (c.append-2.ensures, w.out-is, w.append-in-Some.ensures, w.push-in-Some.ensures.items, w.append.ensures, w.push.ensures.items, c.new-out.ensures, w.deref.ensures.0, w.as_slice.ensures, w.len-in-Some.ensures.len, c.as_slice-2.ensures, c.len.ensures.value, c.partial_iv_of-partial_iv.ensures.value, w.in-Some.is) (sym (full_value c.args.number w.in-Some.id_context c.args.name.now.client_id))
  | in-None w ↦
      rw (c.append-2.ensures, w.out-is, w.append-in-None.ensures, w.push-in-None.ensures.items, c.new-out.ensures, w.deref-in-None.ensures.0, c.as_slice-2.ensures, c.len.ensures.value, c.partial_iv_of-partial_iv.ensures.value, w.in-None.is) (sym (plain_value c.args.number c.args.name.now.client_id))
]
