use Rattle.osc_words.proofs.request_lines.request.Goals as goal

pub returns-in_default : goal.returns-in_default
returns-in_default c = λ request says.
    let nothing = rw c.in_default.is at c.code.ensures in nothing request.code says.method
