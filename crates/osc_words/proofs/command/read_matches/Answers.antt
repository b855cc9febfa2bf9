use Rattle.std.proofs.Common.{◌≡◌, ◌∙◌, ap, subst, refl, map, true}
use Rattle.std.proofs.lemmas.Result.{IfOk-weaker}
use Rattle.clap.specs.Words.{FailsBy, app_of, fault_of, is_simple, is_simple_and_free, subcommand_of}
use Rattle.clap.proofs.OnLiterals.{clap_on_literals}
use Rattle.osc_words.specs.{program}
use Rattle.osc_words.proofs.command.read_matches.Goals as goal

simple_program : is_simple program ≡ true
unfolding clap_on_literals
simple_program = refl

free_program : is_simple_and_free program ≡ true
unfolding clap_on_literals
free_program = refl

pub returns-clause-entered : goal.returns-clause-entered
returns-clause-entered c =
    let words = map (λ word. word.now) c.args.words.now in
    let program_is : app_of c.in_ok-program.field-0 ≡ program = c.in_ok-program.ensures in
    IfOk-weaker c.try_get_matches_from.result _ _
    (λ matches has. (has (ap is_simple program_is ∙ simple_program)).1 ∙ ap (λ app. subcommand_of app words) program_is) c.try_get_matches_from.ensures.matches

pub returns-clause-fault : goal.returns-clause-fault
returns-clause-fault c =
    let words = map (λ word. word.now) c.args.words.now in
    let program_is : app_of c.in_ok-program.field-0 ≡ program = c.in_ok-program.ensures in
    subst (λ app. FailsBy (fault_of app words) c.try_get_matches_from.result) program_is
    (c.try_get_matches_from.ensures.kinds (ap is_simple_and_free program_is ∙ free_program))
