use Rattle.std.proofs.Common.{◌≡◌, false, take, codes}
use Rattle.std.specs.Prelude.{fold}
use Rattle.clap.specs.Words.{app_of, new_app, with_rule}
use Rattle.clap.specs.declared.builder.command.Command.TheViews.{out-Command}
use Rattle.osc_words.specs.{option_rule}
use Rattle.osc_words.proofs.command.token_command.Given as goal

-- the options so far are in the command
abbrev pub invariant-loop-option : goal.invariant-loop-option
invariant-loop-option l = record {
  app : app_of l.command ≡ fold (λ app option. with_rule app (option_rule option)) (new_app (codes "token")) (take l.option-index l.option-items);
  local : (out-Command l.command).has_globals ≡ false;
}
