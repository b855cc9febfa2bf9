use Rattle.std.proofs.Common.{sym, ◌∙◌}
use Rattle.osc_script.proofs.Numbers.{number_parsed, no_text, refused, text_is}
use Rattle.osc_script.proofs.words.unsigned.Goals as goal

pub returns-in_err-ok : goal.returns-in_err-ok
returns-in_err-ok c = λ plain. c.from_residual.ensures ∙ sym (no_text c.args.word.now (refused _ _ _ c.from_utf8.result c.ok.result c.from_utf8.ensures.cases c.ok.ensures.value c.in_err-ok.was))

pub returns : goal.returns
returns c = λ plain.
    let is_word = text_is c.args.word.now _ _ c.from_utf8.result c.in_ok-ok.field-0 c.from_utf8.ensures.cases c.in_ok-ok.ensures.value in
    c.ok-2.ensures.value ∙ number_parsed c.args.word.now c.parse.result (rw is_word at c.parse.ensures.value.0) plain
