use Rattle.std.proofs.Common.{◌≡◌, ◌∙◌, ◌<◌, ◌+◌, ◌*◌, length, true, false, ap, arith}
use Rattle.std.proofs.lemmas.List.{length-map}
use Rattle.osc_message.specs.{takes as takes_of, EndpointState, messages}
use Rattle.osc_message.proofs.Sound.{room_for_one}
use Rattle.osc_message.proofs.endpoint.Endpoint.send.Goals as goal
use Rattle.osc_message.proofs.endpoint.Endpoint.send.Goals.{then-not-takes-via-then-not-takes, then-not-takes-via-else-not-takes+then-len-self}

-- places for as many messages as are ever open are never all taken
pub returns-then-not-takes-clause-enough : goal.returns-then-not-takes-clause-enough
returns-then-not-takes-clause-enough g c = λ enough.
    let all = messages c.self.inside.sending.items in
    let viewed : takes_of c.args.to all ≡ takes_of c.args.to c.args.self.now.sending = ap (λ (s : EndpointState). takes_of c.args.to s.sending) c.self.view_is in
    let told : c.takes.result ≡ takes_of c.args.to all = c.takes.ensures ∙ ap (λ q. takes_of c.args.to (messages q)) c.deref.ensures.value in
    let none : takes_of c.args.to all ≡ true → false ≡ true = λ taken. elim c.then-not-takes.branch [
      | then-not-takes-via-then-not-takes w ↦ cc
      | then-not-takes-via-else-not-takes+then-len-self w ↦
          let few : length all < 64 * (17 + c.self.inside.pace.more) = room_for_one c.self.inside.pace c.args.to all taken c.self.invariant.3.sound in
          absurd (omega (arith, c.self.invariant.5, enough, few, w.len.ensures, w.if-len-self, c.deref.ensures.len, ap length c.deref.ensures.value, length-map c.self.inside.sending.items (λ q. q.message)))
    ] in
    (λ e. absurd (cc), λ taken. none (viewed ∙ taken))
