-- Posts that are known change nothing, and where no post is remembered, no post is known.
use Rattle.std.proofs.Common.{◌≡◌, ℕ, Bool, true, false, cond, List, [], ◌∷◌, length, Some, None, option_map, Result, Ok, Err, refl, sym, ap, ◌∙◌, arith, option_and_then, ◌≤◌}
use Rattle.std.specs.List.{AllByRecursion, find}
use Rattle.std.specs.Str.{bytes_eq}
use Rattle.std.proofs.lemmas.List.Elements.{All-from_recursion, recursion_from_All}
use Rattle.osc_authz.specs.{AreFew, Answers, DeskState, Posts, again, agreed, disallowed, full, known, offered, offers, refused, replayed, revoked}
use Rattle.osc_authz.specs.Posting.{Posting}
use Rattle.osc_authz.specs.declared.agreed_post.AgreedPost.{AgreedPost}
use Rattle.osc_authz.specs.declared.error.PostError.{PostError}
use Rattle.osc_authz.specs.declared.post.Post.{Post}
use Rattle.osc_authz.specs.declared.post.PostAnswer.{PostAnswer}
use Rattle.osc_authz.specs.declared.post.PostReply.{PostReply}
use Rattle.osc_authz.specs.declared.post.PostReply.TheVariants.{New, Known}
use Rattle.osc_authz.specs.declared.token_entry.TokenEntry.{TokenEntry}

-- ---- what is answered as before

no_answer : (post : Post) (answer : PostAnswer) (opened : _) (e : PostError) → post ≡ record { opened = opened; answer = Err e; holder = None } → post.answer ≡ Ok (Known answer) → ⊥
no_answer post answer opened e is ok = let refused : post.answer ≡ Err e = ap (λ (p : Post). p.answer) is in cc (refused, ok)

not_refused : (answer : Result PostReply PostError) (made : PostAnswer) (e : PostError) → answer ≡ Err e → answer ≡ Ok (Known made) → ⊥
not_refused answer made e is ok = cc

not_new : (answer : Result PostReply PostError) (made other : PostAnswer) → answer ≡ Ok (New other) → answer ≡ Ok (Known made) → ⊥
not_new answer made other is ok = cc

pub known_answer : (IsSealing : List ℕ → List ℕ → List ℕ → List ℕ → List ℕ → Type 0) (before after : DeskState) (posting : Posting) (post : Post) (answer : PostAnswer)
    → Posts IsSealing before posting post after → post.answer ≡ Ok (Known answer) → after ≡ before
known_answer IsSealing before after posting post answer (Posts.no_post none is same) ok = same
known_answer IsSealing before after posting post answer (Posts.not_genuine token nonce1 client_id posts none is same) ok = same
known_answer IsSealing before after posting post answer (Posts.opened key nonce1 client_id token its o its_key answers is) ok = by answers
  where
    answer_is : its ≡ Ok (Known answer)
    answer_is = sym (ap (λ (p : Post). p.answer) is) ∙ ok

    by : Answers before (offered posting nonce1 client_id) token.text its after → after ≡ before
    by (refused error comes e same) = same
    by (disallowed claims scope comes below e same) = same
    by (revoked claims scope comes allowed gone e same) = same
    by (full claims scope granted many e same) = same
    by (again claims scope made granted k held e same) = same
    by (replayed claims scope made granted k gone e same) = same
    by (agreed claims scope made granted k agrees e) = absurd (not_new its answer made e answer_is)

-- ---- none

none_in : (nonce1 client_id : List ℕ) (posts : List AgreedPost) → length posts ≤ 0 → option_map (λ (post : AgreedPost). post.answer) (find (offers nonce1 client_id) posts) ≡ None
none_in nonce1 client_id [] few = refl
none_in nonce1 client_id (post ∷ posts) few = absurd (omega (arith, few))

pub none_known : (token nonce1 client_id : List ℕ) (table : List TokenEntry) → AreFew 0 table → known token nonce1 client_id table ≡ None
none_known token nonce1 client_id [] few = refl
none_known token nonce1 client_id (entry ∷ table) few =
    by (bytes_eq token entry.id) (λ rest. none_known token nonce1 client_id table rest) (recursion_from_All _ (entry ∷ table) few)
  where
    by : (b : Bool) → (AreFew 0 table → known token nonce1 client_id table ≡ None) → AllByRecursion (λ (e : TokenEntry). length e.posts ≤ 0) (entry ∷ table)
        → option_and_then (λ (e : TokenEntry). option_map (λ (post : AgreedPost). post.answer) (find (offers nonce1 client_id) e.posts)) (cond b (Some entry) (find (λ (e : TokenEntry). bytes_eq token e.id) table)) ≡ None
    by true later all = none_in nonce1 client_id entry.posts all.0
    by false later all = later (All-from_recursion _ table all.1)
