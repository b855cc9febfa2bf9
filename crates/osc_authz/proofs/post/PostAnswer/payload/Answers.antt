use Rattle.std.proofs.Common.{arith}
use Rattle.osc_authz.proofs.AnswerLemmas.{answer_bytes}
use Rattle.osc_authz.proofs.post.PostAnswer.payload.Goals as goal

pub returns : goal.returns
returns c = answer_bytes c.args.self.now.nonce2 c.args.self.now.recipient_id (omega arith)
