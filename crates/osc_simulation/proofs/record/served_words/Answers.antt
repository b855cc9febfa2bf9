use Rattle.std.proofs.Common.{◌∙◌, ap, decimal}
use Rattle.std.proofs.lemmas.Result.{IfOk-weaker}
use Rattle.osc_model.specs.declared.context.ContextName.{ContextName}
use Rattle.osc_simulation.specs.{holder_text}
use Rattle.osc_model.specs.{code_text}
use Rattle.osc_simulation.proofs.Printing.{served_pieces}
use Rattle.osc_simulation.proofs.record.served_words.Goals as goal

pub returns : goal.returns
returns c =
    let holder = c.holder_name-holder.ensures ∙ ap (λ (name : ContextName). holder_text c.args.clients.now c.args.minted.now name.secret) c.deref.ensures in
    IfOk-weaker c.format.result _ _
    (λ text e. e ∙ served_pieces _ (decimal c.args.entry.now.number) (code_text c.args.entry.now.reply.code.0) _ holder) c.format.ensures.ok
