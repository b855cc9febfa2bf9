-- It is that of the note.
use Rattle.std.proofs.Common.{rules, ◌≡◌, option_copied, sym, subst, Option, Some, List, ℕ}
use Rattle.osc_model.specs.declared.step.Note.{Note}
use Rattle.osc_token.specs.{IsNameIn}
use Rattle.osc_device.specs.Words.{IsTokenOf}
use Rattle.osc_device.proofs.words.token_of.Goals as goal

pub returns-in-Some : goal.returns-in-Some
returns-in-Some c =
    let is : option_copied c.args.opened ≡ Some c.in-Some.note.now = search rules in
    subst (λ (o : Option Note). IsTokenOf o (option_copied c.name_in.result)) (sym is)
    (subst (λ (p : List ℕ). IsNameIn p (option_copied c.name_in.result)) c.as_slice.ensures c.name_in.ensures)
