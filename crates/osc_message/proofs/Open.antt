-- Where a message is open, a tick has something to do sooner or later.
use Rattle.std.proofs.Common.{◌≡◌, ◌≢◌, ℕ, ◌+◌, ◌<◌, ◌≤◌, List, [], ◌∷◌, length, take, get_or, refl, sym, subst, Option, Some, None, IfNone, IsSome, arith, rules}
use Rattle.std.specs.List.{All}
use Rattle.std.proofs.lemmas.List.{take_more, take_all}
use Rattle.std.proofs.lemmas.List.Elements.{All-head, All-push}
use Rattle.osc_message.specs.{ArePlaced, IsIdle}
use Rattle.osc_message.specs.declared.queued.Queued.{Queued}
use Rattle.osc_message.proofs.Peers.{same_peer_equiv}

none_of : (o : Option ℕ) (Q : Type 0) → o ≡ None → IfNone o Q → Q
none_of None Q e q = q
none_of (Some n) Q e q = absurd (cc)

pub one_more_idle : (all : List Queued) (i : ℕ) (x : Queued) → i < length all → x ≡ get_or all i x → (first this next : Option ℕ)
    → IfNone next ((first ≡ None) × (this ≡ None)) → IfNone first (All IsIdle (take i all)) → IfNone this (IsIdle x)
    → IfNone next (All IsIdle (take (i + 1) all))
one_more_idle all i x inside is first this (Some n) given old mine = tt
one_more_idle all i x inside is first this None (e, f) old mine =
    let before : All IsIdle (take i all) = none_of first (All IsIdle (take i all)) e old in
    let here : IsIdle x = none_of this (IsIdle x) f mine in
    subst (All IsIdle) (sym (take_more all i x inside)) (All-push IsIdle (take i all) (get_or all i x) before (subst IsIdle is here))

-- the first of them all has none before it
one_goes : (all : List Queued) → all ≢ [] → ArePlaced all → All IsIdle all → ⊥
one_goes [] some places idle = some refl
one_goes (x ∷ xs) some places idle =
    let head = All-head IsIdle x xs idle in
    absurd (omega (arith, head.later, (places x.message.to).0 (same_peer_equiv.refl x.message.to)))

pub all_idle : (all : List Queued) (first : Option ℕ) (i : ℕ) → length all ≤ i → all ≢ [] → ArePlaced all
    → IfNone first (All IsIdle (take i all)) → IsSome first
all_idle all (Some n) i le some places idle = search rules
all_idle all None i le some places idle = absurd (one_goes all some places (subst (All IsIdle) (take_all i all le) idle))
