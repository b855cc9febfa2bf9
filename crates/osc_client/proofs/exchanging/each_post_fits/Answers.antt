use Rattle.std.proofs.Common.{ℕ, List, [], ◌∷◌, ◌<◌, ◌≤◌, refl, arith}
use Rattle.std.proofs.lemmas.Bool.{leb-true, leb-false}
use Rattle.osc_protect.specs.{longest_message}
use Rattle.osc_client.proofs.Posting.{as_long, of_each}
use Rattle.osc_client.proofs.exchanging.each_post_fits.Goals as goal

abbrev zeros : List ℕ
zeros = 0 ∷ 0 ∷ 0 ∷ 0 ∷ 0 ∷ 0 ∷ 0 ∷ 0 ∷ []

pub returns-then-token-gt-DATAGRAM_LIMIT-clause-too_long : goal.returns-then-token-gt-DATAGRAM_LIMIT-clause-too_long
returns-then-token-gt-DATAGRAM_LIMIT-clause-too_long c = λ longer.
    of_each c.length_of_spelling.ensures.exact (λ n. longest_message < n) c.args.desk.now c.args.origin.now 0 zeros refl
    (omega (arith, c.if-token-gt-DATAGRAM_LIMIT.true, c.len-token.ensures.len))

pub returns-clause-fits : goal.returns-clause-fits
returns-clause-fits c = λ fits.
    of_each c.length_of_spelling.ensures.exact (λ n. n ≤ longest_message) c.args.desk.now c.args.origin.now 0 _ refl
    (as_long (λ n. n ≤ longest_message) c.args.desk.now c.args.origin.now 0 _ c.post_around-post.result c.bytes.result.now c.head_size.result c.len-token.result
    c.post_around-post.ensures c.bytes.ensures.spelled.whole c.head_size.ensures.size c.len-token.ensures.len (leb-true _ _ fits))

pub returns-clause-too_long : goal.returns-clause-too_long
returns-clause-too_long c = λ longer.
    of_each c.length_of_spelling.ensures.exact (λ n. longest_message < n) c.args.desk.now c.args.origin.now 0 _ refl
    (as_long (λ n. longest_message < n) c.args.desk.now c.args.origin.now 0 _ c.post_around-post.result c.bytes.result.now c.head_size.result c.len-token.result
    c.post_around-post.ensures c.bytes.ensures.spelled.whole c.head_size.ensures.size c.len-token.ensures.len (leb-false _ _ longer))
