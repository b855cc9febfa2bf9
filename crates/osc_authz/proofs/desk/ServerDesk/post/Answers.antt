use Rattle.osc_authz.proofs.PostMarks.{posted_marked}
use Rattle.osc_authz.proofs.desk.ServerDesk.post.Goals as goal

pub returns-clause-marked : goal.returns-clause-marked
returns-clause-marked g c =
    posted_marked c.args.marks.now c.unmark_new.new.self g.A.Aead.is_sealing c.args.self.now c.post_bytes-posted.new.self
    (record { on = c.args.on.now; body = c.args.body.now; draw = c.args.draw.now }) c.post_bytes-posted.result c.post_bytes-posted.ensures.posted c.post_bytes-posted.ensures.err
    c.has_a_table.ensures c.requires.marked c.unmark_new.ensures
