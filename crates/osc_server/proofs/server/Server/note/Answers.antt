use Rattle.osc_server.proofs.Notes.{noted_quiet}
use Rattle.osc_server.proofs.server.Server.note.Goals as goal

pub invariant_of-self : goal.invariant_of-self
invariant_of-self c =
    let came = c.came.inside in (
      rw (c.settle.ensures, c.take_reply_id.ensures)
          (noted_quiet c.self.inside.endpoint (record { at = came.at; from = came.from; draw = came.draw.now; what = came.message }) c.args.reply c.requires.message c.self.invariant.0),
      c.self.invariant.1,
    )
