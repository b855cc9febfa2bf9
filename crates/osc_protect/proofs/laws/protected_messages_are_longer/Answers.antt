use Rattle.std.proofs.Common.{ℕ, ◌+◌, ◌≤◌, List, length, arith, replicate}
use Rattle.std.proofs.lemmas.List.{length-replicate}
use Rattle.osc_context.specs.{algorithm_of}
use Rattle.osc_protect.specs.{plain_bytes, request_value, response_value}
use Rattle.osc_protect.proofs.laws.protected_messages_are_longer.Goals as goal

-- a text with a tag has no fewer bytes than the text
with_tag : (text : List ℕ) (tag : ℕ) → length text ≤ length {A = ℕ} (replicate (length text + tag) 0)
with_tag text tag = omega (arith, length-replicate {A = ℕ} (length text + tag) 0)

pub returns-clause-request : goal.returns-clause-request
returns-clause-request c = λ tag number name m order none.
    let size = tag (algorithm_of name) in
    c.protecting_lengthens.ensures m 2 (request_value name number) (replicate (length (plain_bytes m) + size) 0) order none (with_tag (plain_bytes m) size)

pub returns-clause-response : goal.returns-clause-response
returns-clause-response c = λ tag own m order none.
    c.protecting_lengthens.ensures m 68 (response_value own) (replicate (length (plain_bytes m) + tag) 0) order none (with_tag (plain_bytes m) tag)
