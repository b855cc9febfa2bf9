use Rattle.osc_model.specs.declared.algorithm.Algorithm.TheVariants.{EightByteTag}
use Rattle.osc_world.proofs.Beginnings.{holds, may_exchange, ready_straight, ready_through}
use Rattle.osc_world.proofs.laws.where_a_world_begins.Goals as goal

pub returns-clause-premise : goal.returns-clause-premise
returns-clause-premise g c = λ start separate. record { genuine = tt; fresh = tt; separate = separate }

pub returns-clause-may_exchange : goal.returns-clause-may_exchange
returns-clause-may_exchange g c = λ before after start holder now draw enrols key lawful fits audience begins ends unrevoked allowed lasting iv_size token_size.
    may_exchange g.A.Ciphers.is_sealing (g.A.Ciphers.TAG EightByteTag) (g.met.A.Ciphers.sealed_length EightByteTag) (g.met.A.Ciphers.short_tag EightByteTag)
    before after start holder enrols key lawful fits iv_size token_size audience now begins ends unrevoked allowed lasting draw

pub returns-clause-holds : goal.returns-clause-holds
returns-clause-holds g c = holds g.A.Ciphers.is_sealing (g.A.Ciphers.TAG EightByteTag) (g.met.A.Ciphers.sealed_length EightByteTag) (g.met.A.Ciphers.short_tag EightByteTag)

pub returns-clause-straight : goal.returns-clause-straight
returns-clause-straight g c = ready_straight g.A.Ciphers.is_sealing

pub returns-clause-through : goal.returns-clause-through
returns-clause-through g c = ready_through g.A.Ciphers.is_sealing
