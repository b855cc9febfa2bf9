use Rattle.std.proofs.lemmas.Result.{IfOk-weaker}
use Rattle.osc_words.proofs.RequestLines.{four_words, many_words, one_word, three_words}
use Rattle.osc_words.proofs.request_lines.request_in.Goals as goal

pub returns-in-len3 : goal.returns-in-len3
returns-in-len3 c =
    IfOk-weaker c.request_of_three.result _ _ (λ found reads. three_words c.args.words.now _ _ _ found c.in-len3.len_at_least c.in-len3.len_below reads)
    c.request_of_three.ensures

pub returns-in-len4 : goal.returns-in-len4
returns-in-len4 c =
    IfOk-weaker c.request_of_four.result _ _ (λ found reads. four_words c.args.words.now _ _ _ _ found c.in-len4.len_at_least c.in-len4.len_below reads)
    c.request_of_four.ensures

pub returns-in-len5-up : goal.returns-in-len5-up
returns-in-len5-up c = many_words c.args.words.now c.in-len5-up.len_at_least

pub returns-in-len1 : goal.returns-in-len1
returns-in-len1 c = one_word c.args.words.now c.in-len1.len_at_least c.in-len1.len_below
