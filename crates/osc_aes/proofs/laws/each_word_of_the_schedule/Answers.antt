use Rattle.osc_aes.proofs.Schedule.{length-key_expansion, take-key_expansion, each_word}
use Rattle.osc_aes.proofs.laws.each_word_of_the_schedule.Goals as goal

pub returns-clause-all : goal.returns-clause-all
returns-clause-all c = length-key_expansion

pub returns-clause-first : goal.returns-clause-first
returns-clause-first c = take-key_expansion

pub returns-clause-others : goal.returns-clause-others
returns-clause-others c = each_word
