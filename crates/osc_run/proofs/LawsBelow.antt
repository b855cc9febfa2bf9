-- What the proofs use of the crates below: the laws that these state, all of them.
use Rattle.std.proofs.Common.{◌≡◌, ◌≢◌, ◌==◌, ◌≤◌, ◌<◌, ◌^◌, ℕ, false, List, [], ◌∷◌, ◌++◌, length, Option, Some, Result}
use Rattle.std.specs.Prelude.{IfSome}
use Rattle.osc_model.specs.{apply, IsLegal, MayFollow, effect, tree_after}
use Rattle.osc_model.specs.Grant.{Grant}
use Rattle.osc_model.specs.Scope.{Scope}
use Rattle.osc_model.specs.Tree.{Tree}
use Rattle.osc_model.specs.declared.code.Code.{Code}
use Rattle.osc_model.specs.declared.context.ContextName.{ContextName}
use Rattle.osc_model.specs.declared.reply.Reply.{Reply}
use Rattle.osc_model.specs.declared.request.Request.{Request}
use Rattle.osc_model.specs.declared.step.Entry.{Entry}
use Rattle.osc_coap.specs.{SpellsPlaintext, HasPlaintextSpelling}
use Rattle.osc_coap.specs.Plaintext.{Plaintext}
use Rattle.osc_options.specs.{reply_plaintext, reply_in}
use Rattle.osc_context.specs.{master_salt, server_nonce, longest_id, greatest_number, nonce_of}
use Rattle.osc_window.specs.{IsFresh, with_accepted}
use Rattle.osc_protect.specs.{aad_of}

-- Each field has the name of its law.
pub record Laws : Type 0 where
  pub one_more_legal : (read : List ℕ → Result Request Code) (root : Option (List ℕ)) (grants : List Grant) (first : Tree) (history : List Entry) (entry : Entry)
      → IsLegal read root grants first history → MayFollow read root grants first history entry → IsLegal read root grants first (history ++ entry ∷ [])
  pub one_more_effect : (read : List ℕ → Result Request Code) (root : Option (List ℕ)) (grants : List Grant) (first : Tree) (history : List Entry) (entry : Entry)
      → effect read root grants first (history ++ entry ∷ []) ≡ tree_after read root grants (effect read root grants first history) entry
  pub never_out_of_memory : (root : Option (List ℕ)) (tree : Tree) (scope : Scope) (request : Request) → ((apply root tree scope request).reply.code.0 == 160) ≡ false
  pub least_code : (root : Option (List ℕ)) (tree : Tree) (scope : Scope) (request : Request) → 64 ≤ (apply root tree scope request).reply.code.0
  pub most_code : (root : Option (List ℕ)) (tree : Tree) (scope : Scope) (request : Request) → (apply root tree scope request).reply.code.0 < 192
  pub one_plaintext : (bytes : List ℕ) (p q : Plaintext) → SpellsPlaintext bytes p → SpellsPlaintext bytes q → p ≡ q
  pub a_written_reply : (reply : Reply) → IfSome reply.etag (λ tag. length tag ≡ 8) → HasPlaintextSpelling (reply_plaintext reply)
  pub a_reply_is_read_again : (reply : Reply) → 64 ≤ reply.code.0 → reply.code.0 < 192
      → IfSome reply.etag (λ tag. length tag ≡ 8) → IfSome reply.format (λ format. format < 65536)
      → reply_in (reply_plaintext reply) ≡ Some reply
  pub nonces_of_a_key : (a b : ContextName) (x y : List ℕ) (m n : ℕ)
      → a.secret ≡ b.secret → a.salt ≡ b.salt → a.id_context ≡ b.id_context → a.alg ≡ b.alg
      → length x ≤ longest_id → length y ≤ longest_id → m ≤ greatest_number → n ≤ greatest_number
      → nonce_of a x m ≡ nonce_of b y n → (x ≡ y) × (m ≡ n)
  pub one_master_salt : (salt nonce1 nonce2 other other1 other2 : List ℕ)
      → length salt < 2 ^ 64 → length nonce1 < 2 ^ 64 → length nonce2 < 2 ^ 64
      → length other < 2 ^ 64 → length other1 < 2 ^ 64 → length other2 < 2 ^ 64
      → master_salt salt nonce1 nonce2 ≡ master_salt other other1 other2
      → (salt ≡ other) × (nonce1 ≡ other1) × (nonce2 ≡ other2)
  pub nonces_of_a_salt : (salt nonce1 nonce2 : List ℕ) → length nonce2 ≡ 8 → server_nonce (master_salt salt nonce1 nonce2) ≡ nonce2
  pub fresh_after : (window : List ℕ) (n m : ℕ) → IsFresh (with_accepted window n) m → IsFresh window m × (m ≢ n)
  pub aad_tells_the_number : (name : ContextName) (m n : ℕ)
      → length name.client_id ≤ longest_id → m ≤ greatest_number → n ≤ greatest_number
      → aad_of name m ≡ aad_of name n → m ≡ n
