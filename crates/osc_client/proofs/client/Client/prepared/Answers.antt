use Rattle.std.proofs.Common.{rules, ◌≡◌, ℕ, ◌<◌, ◌≤◌, Some, None, refl, ap, ◌∙◌, false, true, arith, inl, inr}
use Rattle.std.proofs.lemmas.Bool.{cases_lt}
use Rattle.std.specs.Option.{IsSome}
use Rattle.osc_context.specs.{greatest_number}
use Rattle.osc_message.specs.{own_id}
use Rattle.osc_protect.specs.{longest_message, request_length}
use Rattle.osc_client.specs.{exhausted, plain_of, too_long}
use Rattle.osc_client.proofs.client.Client.prepared.Goals as goal

pub returns-then-next_number-gt-NUMBER_LIMIT-clause-hindered : goal.returns-then-next_number-gt-NUMBER_LIMIT-clause-hindered
returns-then-next_number-gt-NUMBER_LIMIT-clause-hindered g c =
    let idle : c.args.self.now.waiting ≡ None = search rules in
    let held : c.args.self.now.context ≡ Some c.in-Some.context = search rules in
    let late : greatest_number < c.in-Some.context.next = omega (arith, c.if-next_number-gt-NUMBER_LIMIT.true, c.next_number.ensures, ap (λ s. s.next) c.sender.ensures) in
    exhausted refl c.in-Some.context idle held late

pub returns-in-None-clause-hindered : goal.returns-in-None-clause-hindered
returns-in-None-clause-hindered g c =
    let idle : c.args.self.now.waiting ≡ None = search rules in
    let held : c.args.self.now.context ≡ Some c.in-Some.context = search rules in
    let early : c.in-Some.context.next ≤ greatest_number = omega (arith, c.if-next_number-gt-NUMBER_LIMIT.false, c.next_number.ensures, ap (λ s. s.next) c.sender.ensures) in
    let id : c.own_id-id.result ≡ own_id c.args.draw.now c.args.self.now.endpoint.next_id =
    c.own_id-id.ensures ∙ ap (λ s. own_id c.args.draw.now s.endpoint.next_id) c.self.view_is in
    let origin : c.self.inside.origin ≡ c.args.self.now.origin = ap (λ s. s.origin) c.self.view_is in
    let size : ℕ = request_length g.A.Ciphers.TAG c.in-Some.context.name c.in-Some.context.next (plain_of c.args.self.now c.args.draw.now c.args.request.now) in
    let long : longest_message < size =
    elim (cases_lt longest_message size) [
      | inl lt ↦ lt
      | inr le ↦
          let some : IsSome c.fitting.result = c.fitting.ensures.fits.1 (rw (id, origin, c.token.ensures) le) in
          let wrong : false ≡ true = rw c.in-None.is at some in
          absurd (cc)
    ] in
    too_long refl c.in-Some.context idle held early long
