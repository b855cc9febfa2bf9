use Rattle.std.proofs.Common.{sym}
use Rattle.osc_message.proofs.Sound.{queue_paced}
use Rattle.osc_message.proofs.confirmable.acknowledge.Goals as goal

pub returns-clause-sound : goal.returns-clause-sound
returns-clause-sound c = λ whole. c.withdraw.ensures.sound _ (queue_paced c.args.pace.now c.quicken.new.pace c.args.queue.now.items (sym c.quicken.ensures.more) whole)
