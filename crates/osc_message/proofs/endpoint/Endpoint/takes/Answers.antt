use Rattle.std.proofs.Common.{◌≡◌, ◌∙◌, ◌<◌, ◌+◌, ◌*◌, length, true, sym, ap, arith}
use Rattle.std.proofs.lemmas.Bool.{lt-ltb}
use Rattle.std.proofs.lemmas.List.{length-map}
use Rattle.osc_message.specs.{takes as takes_of, EndpointState, messages}
use Rattle.osc_message.proofs.Sound.{room_for_one}
use Rattle.osc_message.proofs.endpoint.Endpoint.takes.Goals as goal

pub returns-then-takes-clause-enough : goal.returns-then-takes-clause-enough
returns-then-takes-clause-enough g c = λ enough.
    let all = messages c.self.inside.sending.items in
    let taken : takes_of c.args.to all ≡ true = sym (ap (λ q. takes_of c.args.to (messages q)) c.deref.ensures.value) ∙ sym c.takes.ensures ∙ c.if-takes.true in
    let few : length all < 64 * (17 + c.self.inside.pace.more) = room_for_one c.self.inside.pace c.args.to all taken c.self.invariant.3.sound in
    let more : c.len.result < c.self.inside.places = omega (arith, c.self.invariant.5, enough, few, c.len.ensures, c.deref.ensures.len, ap length c.deref.ensures.value, length-map c.self.inside.sending.items (λ q. q.message)) in
    lt-ltb c.len.result c.self.inside.places more ∙ sym taken ∙ ap (λ (s : EndpointState). takes_of c.args.to s.sending) c.self.view_is
