use Rattle.std.proofs.Common.{◌∙◌, ap, subst, decimal}
use Rattle.std.proofs.lemmas.Result.{IfOk-weaker}
use Rattle.std.specs.Prelude.{string_bytes}
use Rattle.osc_simulation.specs.{TellsMessage, wanted_bytes_text}
use Rattle.osc_simulation.proofs.Printing.{datagram_pieces}
use Rattle.osc_simulation.proofs.record.sent_line.Goals as goal

pub returns : goal.returns
returns c = IfOk-weaker c.format.result _ _ (λ line e. record {
  from = c.peer_name-from.result.now;
  to = c.peer_name-to.result.now;
  message = string_bytes c.in_ok-message.message;
  from_is = c.peer_name-from.ensures;
  to_is = c.peer_name-to.ensures;
  message_is = subst (λ bytes. TellsMessage bytes (string_bytes c.in_ok-message.message)) c.as_slice.ensures c.in_ok-message.ensures;
  whole = e ∙ datagram_pieces (decimal c.args.number) _ _ _ _ _ (c.in_ok-bytes.ensures ∙ ap (wanted_bytes_text c.args.with_bytes) c.as_slice-2.ensures);
}) c.format.ensures.ok
