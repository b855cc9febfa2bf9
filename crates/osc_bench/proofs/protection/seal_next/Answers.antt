use Rattle.std.proofs.Common.{◌≡◌, ℕ, length, arith, refl, sym, subst, rules}
use Rattle.osc_ccm.specs.{chosen_tag}
use Rattle.osc_coap.specs.Message.{Message}
use Rattle.osc_model.specs.declared.context.ContextName.{ContextName}
use Rattle.osc_options.specs.{request_plaintext, unprotected}
use Rattle.osc_protect.specs.{IsDraft, plain_bytes}
use Rattle.osc_bench.proofs.protection.seal_next.Goals as goal

pub seal_request-note-requires-clause-drafted : goal.seal_request-note-requires-clause-drafted
seal_request-note-requires-clause-drafted c =
    let message : Message = unprotected c.args.outside.now (request_plaintext c.args.request.now) in
    let room = c.in_ok-room.room in
    let draft = c.draft_request.new.draft in
    let is = c.in_ok-room.ensures in
    let number : c.unwrap-number.result.number ≡ c.next_number-next.result = search rules in
    let name : room.name ≡ c.deref.result.now = search rules in
    let most : room.most ≡ length (plain_bytes message) = search rules in
    let drafted : IsDraft (chosen_tag 8 16) c.deref.result.now c.next_number-next.result message draft = c.in-Some.ensures.drafted refl in
    let numbered : IsDraft (chosen_tag 8 16) c.deref.result.now c.unwrap-number.result.number message draft =
    subst (λ (n : ℕ). IsDraft (chosen_tag 8 16) c.deref.result.now n message draft) (sym number) drafted in
    (message, subst (λ (n : ContextName). IsDraft (chosen_tag 8 16) n c.unwrap-number.result.number message draft) (sym name) numbered, omega (arith, most))
