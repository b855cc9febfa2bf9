-- Posts that a desk knows again. For each token id it keeps the newest ones that it agreed to.
use Rattle.std.specs.Prelude.{◌≡◌, ℕ, Bool, true, ◌&&◌, ◌≤◌, List, ◌∷◌, length, take, find, bytes_eq, Option, Some, option_map, option_and_then}
use Rattle.std.specs.List.{All}
use Rattle.osc_model.specs.declared.context.ContextName.{ContextName}
use Rattle.osc_authz.specs.SecurityContext.{SecurityContext}
use Rattle.osc_authz.specs.Standing.{Standing}
use Rattle.osc_authz.specs.Table.{is_live, with_id}
use Rattle.osc_authz.specs.declared.agreed_post.AgreedPost.{AgreedPost}
use Rattle.osc_authz.specs.declared.post.PostAnswer.{PostAnswer}
use Rattle.osc_authz.specs.declared.token_entry.TokenEntry.{TokenEntry}

-- whether a post had this nonce and this recipient ID of the client
abbrev pub offers : List ℕ → List ℕ → AgreedPost → Bool
offers nonce1 client_id post = bytes_eq nonce1 post.nonce1 && bytes_eq client_id post.client_id

-- what the post of a token id with this nonce and this ID was answered, where the desk knows it
abbrev pub known : List ℕ → List ℕ → List ℕ → List TokenEntry → Option PostAnswer
known token nonce1 client_id table =
    option_and_then (λ entry. option_map (λ post. post.answer) (find (offers nonce1 client_id) entry.posts)) (find (λ entry. bytes_eq token entry.id) table)

-- the context of this name is held, and lives
pub record IsStillHeld (on : Standing) (name : ContextName) (table : List TokenEntry) : Type 0 where
  pub held : SecurityContext
  pub found : with_id name.client_id table ≡ Some held
  pub is_named : held.name ≡ name
  pub live : is_live on held ≡ true

-- the post before the older ones; at most `most` are kept in all
abbrev pub remembering : ℕ → AgreedPost → List AgreedPost → List AgreedPost
remembering most post older = take most (post ∷ older)

-- each token id has at most `most` posts
abbrev pub AreFew : ℕ → List TokenEntry → Type 0
AreFew most table = All (λ entry. length entry.posts ≤ most) table
