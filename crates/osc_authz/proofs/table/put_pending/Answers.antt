use Rattle.std.proofs.Common.{◌≡◌, ℕ, List, [], ◌∷◌, ◌++◌, set, ap, take, Some, None, ap₂, sym, ◌∙◌, position}
use Rattle.std.specs.Str.{bytes_eq}
use Rattle.osc_authz.specs.declared.agreed_post.AgreedPost.{AgreedPost}
use Rattle.osc_authz.specs.declared.agreed_post.PostRoom.{PostRoom}
use Rattle.osc_authz.specs.declared.token_entry.TokenEntry.{TokenEntry}
use Rattle.osc_authz.proofs.Lookups.{put_here, put_last}
use Rattle.osc_authz.proofs.table.put_pending.Goals as goal

-- what is known then of a token id
abbrev remembered : PostRoom → List AgreedPost → List AgreedPost
remembered room older = take room.most (room.posts.items ++ older)

pub returns-in-Some : goal.returns-in-Some
returns-in-Some c =
    let place : position (λ entry. bytes_eq c.args.added.token entry.id) c.args.table.now.items ≡ Some c.in-Some.index =
    ap₂ (λ (token : List ℕ) (table : List TokenEntry). position (λ entry. bytes_eq token entry.id) table) (sym c.as_slice.ensures) (sym c.deref.ensures.value)
    ∙ sym c.place_of.ensures
    ∙ c.in-Some.is
    in
    ap (λ (entry : TokenEntry). set c.args.table.now.items c.in-Some.index entry) c.add.ensures
    ∙ put_here c.args.added.token c.args.added.context (remembered c.args.added.room) c.args.table.now.items c.in-Some.index c.index_mut.result.now place c.index_mut.ensures.value

pub returns-in-None : goal.returns-in-None
returns-in-None c =
    let place : position (λ entry. bytes_eq c.args.added.token entry.id) c.args.table.now.items ≡ None =
    ap₂ (λ (token : List ℕ) (table : List TokenEntry). position (λ entry. bytes_eq token entry.id) table) (sym c.as_slice.ensures) (sym c.deref.ensures.value)
    ∙ sym c.place_of.ensures
    ∙ c.in-None.is
    in
    c.push_reserved.ensures.items
    ∙ ap (λ (posts : List AgreedPost). c.args.table.now.items ++ (record { id = c.args.added.token; confirmed = None; pending = Some c.args.added.context; posts = posts; last = None }) ∷ [])
    (c.before-in-None.ensures ∙ ap (remembered c.args.added.room) c.none.ensures)
    ∙ put_last c.args.added.token c.args.added.context (remembered c.args.added.room) c.args.table.now.items place
