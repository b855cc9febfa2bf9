use Rattle.std.proofs.Common.{◌≡◌, ◌∙◌, ap, ap₂, sym, codes, get_or}
use Rattle.std.proofs.lemmas.List.Sums.{fold_more}
use Rattle.clap.specs.Words.{App, new_app, with_rule}
use Rattle.osc_words.specs.{token_options, name_of, option_rule, value_rule}
use Rattle.osc_words.specs.declared.token_option.TokenOption.{TokenOption}
use Rattle.osc_words.specs.declared.token_option.TokenOption.TheVariants.{Key}
use Rattle.osc_words.proofs.command.token_command.Goals as goal

pub loop-option-preserved : goal.loop-option-preserved
loop-option-preserved c =
    let here = c.loop-option in
    let i = here.option-index in
    let item = get_or token_options i Key in
    let rule_is : value_rule (name_of item) c.is_required.result ≡ option_rule item = ap (value_rule (name_of item)) c.is_required.ensures in
    record {
      app = c.in_ok-command.ensures.app ∙ ap₂ with_rule here.invariant.app rule_is
          ∙ sym (fold_more (λ (app : App) (option : TokenOption). with_rule app (option_rule option)) (new_app (codes "token")) token_options i Key c.loop-option-test.true);
      local = c.in_ok-command.ensures.local ∙ here.invariant.local;
    }
