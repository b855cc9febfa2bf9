use Rattle.std.proofs.Common.{◌∙◌, ap₂, refl, sym, codes}
use Rattle.std.proofs.lemmas.List.Sums.{fold_more}
use Rattle.clap.specs.Words.{App, new_app, with_rule}
use Rattle.osc_words.specs.{client_options}
use Rattle.osc_words.specs.ClientOptions.{option_rule}
use Rattle.osc_words.specs.declared.client_option.ClientOption.{ClientOption}
use Rattle.osc_words.specs.declared.client_option.ClientOption.TheVariants.{Turns}
use Rattle.osc_words.proofs.command.client_options.Goals as goal

pub loop-option-preserved : goal.loop-option-preserved
loop-option-preserved c =
    let here = c.loop-option in
    let i = here.option-index in
    record {
      app = c.in_ok-command.ensures.app ∙ ap₂ with_rule here.invariant.app refl
          ∙ sym (fold_more (λ (app : App) (option : ClientOption). with_rule app (option_rule option)) (new_app (codes "client")) client_options i Turns c.loop-option-test.true);
      local = c.in_ok-command.ensures.local ∙ here.invariant.local;
    }
