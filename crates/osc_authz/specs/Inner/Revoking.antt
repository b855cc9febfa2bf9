-- How marks of revoked contexts change. No public contract rests on this.
use Rattle.std.specs.Prelude.{◌≡◌, ℕ, Bool, false, ◌&&◌, if◌then◌else◌, List, [], ◌∷◌, bytes_eq, Result, Ok, Err}
use Rattle.std.specs.List.{list_any}
use Rattle.std.specs.Option.{option_map_or}
use Rattle.osc_model.specs.{stands}
use Rattle.osc_model.specs.Tree.{Tree}
use Rattle.osc_authz.specs.Inner.Marks.{is_marked}
use Rattle.osc_authz.specs.SecurityContext.{SecurityContext}
use Rattle.osc_authz.specs.Table.{has_id}
use Rattle.osc_authz.specs.declared.error.PostError.{PostError}
use Rattle.osc_authz.specs.declared.post.Post.{Post}
use Rattle.osc_authz.specs.declared.post.PostReply.{PostReply}
use Rattle.osc_authz.specs.declared.post.PostReply.TheVariants.{New, Known}
use Rattle.std.specs.declared.alloc.AllocError.{AllocError}

-- An ID of one byte has this mark now, and each other one has the mark that it had.
abbrev pub SetsMark : List ℕ → Bool → List Bool → List Bool → Type 0
SetsMark id mark old new = (byte : ℕ) → is_marked new byte ≡ (if bytes_eq (byte ∷ []) id then mark else is_marked old byte)

-- whether a resource at this path revokes the context's token
abbrev pub is_revoked_at : List ℕ → SecurityContext → Bool
is_revoked_at path held = option_map_or (bytes_eq path) held.revocation false

-- whether the tree has a resource that does
abbrev pub is_revoked_in : Tree → SecurityContext → Bool
is_revoked_in tree held = stands tree held.revocation

-- the context has the ID of this byte, and passes the test
abbrev pub is_such : (SecurityContext → Bool) → ℕ → SecurityContext → Bool
is_such test byte held = has_id (byte ∷ []) held && test held

-- Those of the contexts that pass the test have this mark now, and each other ID has the mark that it had.
abbrev pub SetsMarks : (SecurityContext → Bool) → Bool → List SecurityContext → List Bool → List Bool → Type 0
SetsMarks test mark held old new = (byte : ℕ) → is_marked new byte ≡ (if list_any (is_such test byte) held then mark else is_marked old byte)

-- The ID that an answer gives a new context has no mark.
abbrev pub UnmarksNew : Result PostReply PostError → List Bool → List Bool → Type 0
UnmarksNew (Ok (New made)) old new = SetsMark (made.recipient_id ∷ []) false old new
UnmarksNew (Ok (Known made)) old new = new ≡ old
UnmarksNew (Err error) old new = new ≡ old

abbrev pub UnmarksPosted : Result Post AllocError → List Bool → List Bool → Type 0
UnmarksPosted (Ok post) old new = UnmarksNew post.answer old new
UnmarksPosted (Err error) old new = new ≡ old
