use Rattle.std.proofs.Common.{◌+◌, ◌≤◌, ℕ, length, arith, refl, subst}
use Rattle.osc_model.specs.declared.context.ContextName.{ContextName}
use Rattle.osc_context.specs.{algorithm_of}
use Rattle.osc_protect.specs.{IsDraft, longest_message, plain_bytes, request_length, request_value}
use Rattle.osc_protect.proofs.LengthLemmas.{least_protected}
use Rattle.osc_protect.proofs.request.protect_request.Goals as goal

pub seal_request-note-requires-clause-drafted : goal.seal_request-note-requires-clause-drafted
seal_request-note-requires-clause-drafted g c =
    let message = c.args.message.now in
    let room = c.args.room in
    let tag = g.A.Ciphers.TAG in
    let drafted : IsDraft tag room.name c.args.number.number message c.draft_message.new.draft =
    subst (λ (name : ContextName). IsDraft tag name c.args.number.number message c.draft_message.new.draft) c.name.ensures
    (subst (λ (number : ℕ). IsDraft tag c.name.result.now number message c.draft_message.new.draft) c.get.ensures.value (c.in-Some.ensures.drafted refl)) in
    let least = least_protected c.length_of_growing.ensures.payload message 2 (request_value room.name c.args.number.number) (length (plain_bytes message) + tag (algorithm_of room.name)) in
    let fits : request_length tag room.name c.args.number.number message ≤ longest_message = drafted.fits in
    (message, drafted, c.requires.room (omega (arith, least, fits)))
