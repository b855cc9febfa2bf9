use Rattle.std.proofs.Common.{arith}
use Rattle.osc_options.proofs.ReplyMessageLaws.{reply_message_lawful, reply_message_spelled}
use Rattle.osc_options.proofs.written_reply.write_reply_message.Goals as goal

pub returns : goal.returns
returns c = record {
  lawful = reply_message_lawful c.args.kind c.args.id c.args.token.now c.args.reply.now (omega arith) c.requires.token c.requires.code c.append_etag.ensures.eight;
  whole = grind (arith, reply_message_spelled);
}
