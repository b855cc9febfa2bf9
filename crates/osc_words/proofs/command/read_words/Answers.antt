use Rattle.std.proofs.Common.{map, subst, sym}
use Rattle.clap.specs.Words.{subcommand_rows_of}
use Rattle.osc_words.specs.{AreWords}
use Rattle.osc_words.specs.Inner.Reading.{IsKnown}
use Rattle.osc_words.proofs.Entered.{words_known}
use Rattle.osc_words.proofs.Stand.{asked_by_methods, says_something, stand_for_nothing}
use Rattle.osc_words.proofs.command.read_words.Goals as goal

pub words_in-requires : goal.words_in-requires
words_in-requires c = subst IsKnown (sym c.in_ok-matches.ensures.entered) (words_known (map (λ word. word.now) c.args.words.now) c.in_ok-matches.ensures.fault)

pub returns-clause-method : goal.returns-clause-method
returns-clause-method c = asked_by_methods (subcommand_rows_of c.in_ok-matches.matches) c.words_in.result c.words_in.ensures

pub returns-clause-not_one : goal.returns-clause-not_one
returns-clause-not_one c = λ option refused read stands.
    stand_for_nothing (subcommand_rows_of c.in_ok-matches.matches) c.words_in.result option c.words_in.ensures refused read
    (subst (λ entered. AreWords entered read) (sym c.in_ok-matches.ensures.entered) stands)

pub returns-clause-nothing : goal.returns-clause-nothing
returns-clause-nothing c = λ option refused read stands.
    says_something (subcommand_rows_of c.in_ok-matches.matches) c.words_in.result option c.words_in.ensures refused read
    (subst (λ entered. AreWords entered read) (sym c.in_ok-matches.ensures.entered) stands)
