-- The security contexts of a server, by the ids of the tokens that made them. For each token id there are a confirmed context,
-- whose key the client was seen to have, and a pending one of the newest post, until a request opens under it.
use Rattle.std.specs.Prelude.{◌≡◌, ◌≢◌, ℕ, ◌+◌, ◌/◌, ◌≤◌, ◌<◌, Bool, true, false, not, ◌&&◌, ◌||◌, nat_le, nat_lt, if◌then◌else◌, List, [], ◌∷◌, ◌++◌, length, map, filter, find, bytes_eq, slice_get, Option, Some, None, option_map, option_and_then}
use Rattle.std.specs.Option.{option_map_or}
use Rattle.std.specs.List.{All, Contains, IsDistinct, list_any}
use Rattle.osc_model.specs.{stands}
use Rattle.osc_window.specs.{with_accepted}
use Rattle.osc_authz.specs.SecurityContext.{SecurityContext}
use Rattle.osc_authz.specs.Standing.{Standing}
use Rattle.osc_authz.specs.LastAnswer.{LastAnswerState}
use Rattle.osc_authz.specs.declared.agreed_post.AgreedPost.{AgreedPost}
use Rattle.osc_authz.specs.declared.token_entry.TokenEntry.{TokenEntry}

abbrev pub listed : Option SecurityContext → List SecurityContext
listed None = []
listed (Some held) = held ∷ []

abbrev pub contexts : List TokenEntry → List SecurityContext
contexts [] = []
contexts (entry ∷ table) = listed entry.confirmed ++ listed entry.pending ++ contexts table

-- the recipient IDs in use: the clients' sender IDs
abbrev pub ids : List TokenEntry → List (List ℕ)
ids table = map (λ held. held.name.client_id) (contexts table)

-- Token ids and recipient IDs stand once; recipient IDs have one byte, and differ from the sender IDs.
pub record IsLawfulContext (held : SecurityContext) : Type 0 where
  pub byte : ℕ
  pub one_byte : held.name.client_id ≡ byte ∷ []
  pub apart : held.name.client_id ≢ held.name.server_id

pub record IsTable (table : List TokenEntry) : Type 0 where
  pub few : length table ≤ 64
  pub own_tokens : IsDistinct bytes_eq (map (λ entry. entry.id) table)
  pub own_ids : IsDistinct bytes_eq (ids table)
  pub lawful : All IsLawfulContext (contexts table)

-- ---- which of them live

-- its token is in its time, and isn't revoked, and it isn't too old
abbrev pub is_live : Standing → SecurityContext → Bool
is_live on held =
    option_map_or (λ seconds. nat_le seconds (on.at.ms / 1000)) held.not_before true
    && option_map_or (λ seconds. nat_lt (on.at.ms / 1000) seconds) held.expires true
    && not (stands on.tree held.revocation)
    && option_map_or (λ seconds. nat_lt (on.at.ms / 1000) seconds) held.ends true

abbrev pub holds_live : Standing → TokenEntry → Bool
holds_live on entry = option_map_or (is_live on) entry.confirmed false || option_map_or (is_live on) entry.pending false

-- the token ids that have a live context
abbrev pub alive : Standing → List TokenEntry → List TokenEntry
alive on table = filter (holds_live on) table

-- ---- looking up

abbrev pub has_id : List ℕ → SecurityContext → Bool
has_id id held = bytes_eq id held.name.client_id

abbrev pub holds_id : List ℕ → TokenEntry → Bool
holds_id id entry = option_map_or (has_id id) entry.confirmed false || option_map_or (has_id id) entry.pending false

-- the context with this recipient ID
abbrev pub with_id : List ℕ → List TokenEntry → Option SecurityContext
with_id id table = find (has_id id) (contexts table)

-- the id of the token that made the context with this recipient ID
abbrev pub holder_at : List ℕ → List TokenEntry → Option (List ℕ)
holder_at id table = option_map (λ entry. entry.id) (find (holds_id id) table)

-- the context that a request has opened under of the token id at this place
abbrev pub confirmed_at : ℕ → List TokenEntry → Option SecurityContext
confirmed_at place table = option_and_then (λ entry. entry.confirmed) (slice_get table place)

-- a kid context, where a request has one, names the id context
abbrev pub is_named : Option (List ℕ) → SecurityContext → Bool
is_named None held = true
is_named (Some kid_context) held = option_map_or (bytes_eq kid_context) held.name.id_context false

-- the live context that a request's kid and kid context name (RFC 8613 section 8.2)
abbrev pub if_meant : Standing → Option (List ℕ) → Option SecurityContext → Option SecurityContext
if_meant on kid_context None = None
if_meant on kid_context (Some held) = if is_live on held && is_named kid_context held then Some held else None

abbrev pub meant : Standing → List ℕ → Option (List ℕ) → List TokenEntry → Option SecurityContext
meant on kid kid_context table = if_meant on kid_context (with_id kid table)

-- ---- a request opened

abbrev pub taking : ℕ → SecurityContext → SecurityContext
taking number held = record held { window = with_accepted held.window number }

-- The window of the context takes the number. If it is the pending one, it is confirmed, and the older one goes. The answer that is kept for
-- the confirmed one is to an older number, and goes.
abbrev pub accepted_in : List ℕ → ℕ → TokenEntry → TokenEntry
accepted_in id number entry =
    if option_map_or (has_id id) entry.pending false
    then record entry { confirmed = option_map (taking number) entry.pending; pending = None; last = None }
    else if option_map_or (has_id id) entry.confirmed false
    then record entry { confirmed = option_map (taking number) entry.confirmed; last = None }
    else entry

abbrev pub accepted : List ℕ → ℕ → List TokenEntry → List TokenEntry
accepted id number table = map (accepted_in id number) table

-- ---- the last answer

-- whether the confirmed context has this recipient ID
abbrev pub confirms_id : List ℕ → TokenEntry → Bool
confirms_id id entry = option_map_or (has_id id) entry.confirmed false

-- the last answer of the context with this recipient ID, where that is confirmed and an answer is kept
abbrev pub last_in : List ℕ → TokenEntry → Option LastAnswerState
last_in id entry = if confirms_id id entry then entry.last else None

abbrev pub last_at : List ℕ → List TokenEntry → Option LastAnswerState
last_at id table = option_and_then (last_in id) (find (holds_id id) table)

-- this answer is kept for the confirmed context with this recipient ID, in the place of the one before
abbrev pub with_last_in : List ℕ → LastAnswerState → TokenEntry → TokenEntry
with_last_in id last entry = record entry { last = if confirms_id id entry then Some last else entry.last }

abbrev pub with_last : List ℕ → LastAnswerState → List TokenEntry → List TokenEntry
with_last id last table = map (with_last_in id last) table

-- The context with this recipient ID takes the number of this answer, and where answers are kept, this one is kept for it.
abbrev pub answered_by : Bool → List ℕ → LastAnswerState → List TokenEntry → List TokenEntry
answered_by answers id last table = if answers then with_last id last (accepted id last.number table) else accepted id last.number table

-- ---- one more context

abbrev pub has_token : List ℕ → List TokenEntry → Bool
has_token token table = list_any (λ entry. bytes_eq token entry.id) table

-- The place that is reserved for a token id, if one is, is kept from other ids while that one isn't in the table.
abbrev pub kept_places : Option (List ℕ) → List ℕ → List TokenEntry → ℕ
kept_places None token table = 0
kept_places (Some id) token table = if bytes_eq id token || has_token id table then 0 else 1

-- 64 places are kept from this token id or have one, and this one is new
pub record IsFull (reserved : Option (List ℕ)) (token : List ℕ) (table : List TokenEntry) : Type 0 where
  pub many : 64 ≤ kept_places reserved token table + length table
  pub new : has_token token table ≡ false

-- the places that token ids have, with the one that is reserved
abbrev pub places_taken : Option (List ℕ) → List TokenEntry → ℕ
places_taken None table = length table
places_taken (Some id) table = if has_token id table then length table else 1 + length table

-- the reserved id has a place, or there is one left for it
abbrev pub KeepsPlace : Option (List ℕ) → List TokenEntry → Type 0
KeepsPlace reserved table = places_taken reserved table ≤ 64

-- without the pending context of a token id
abbrev pub without_pending_in : List ℕ → TokenEntry → TokenEntry
without_pending_in token entry = if bytes_eq token entry.id then record entry { pending = None } else entry

abbrev pub without_pending : List ℕ → List TokenEntry → List TokenEntry
without_pending token table = map (without_pending_in token) table

-- with this pending context of a token id, in the place of the one before, and with the posts that are known of it then
abbrev pub with_pending : List ℕ → SecurityContext → (List AgreedPost → List AgreedPost) → List TokenEntry → List TokenEntry
with_pending token held remember [] = (record { id = token; confirmed = None; pending = Some held; posts = remember []; last = None }) ∷ []
with_pending token held remember (entry ∷ table) =
    if bytes_eq token entry.id then (record entry { pending = Some held; posts = remember entry.posts }) ∷ table
    else entry ∷ with_pending token held remember table

-- the least byte that is none of these IDs
pub record IsLeastFree (taken : List (List ℕ)) (byte : ℕ) : Type 0 where
  pub small : byte < 256
  pub free : ¬ Contains taken (byte ∷ [])
  pub least : (lower : ℕ) → lower < byte → Contains taken (lower ∷ [])
