-- What wasn't heard before isn't heard either once another message was noted.
use Rattle.std.proofs.Common.{◌≡◌, ◌≢◌, ◌+◌, ◌-◌, ◌&&◌, inl, inr, ℕ, Bool, false, nat_eq, List, [], ◌∷◌, ◌++◌, drop, filter, length, refl, Option, Some, None}
use Rattle.std.specs.Prelude.{cond, find, option_map}
use Rattle.std.specs.List.{All}
use Rattle.std.proofs.lemmas.Bool.{and_right, cases_Bool, ne_eqb}
use Rattle.std.proofs.lemmas.List.Elements.{All-append, All-cons, All-drop, All-filter, All-head, All-nil, All-tail}
use Rattle.osc_coap.specs.Message.{Message}
use Rattle.osc_dedup.specs.{Entry, alive, is_alive, is_of, looked, staying}
use Rattle.osc_message.specs.{empty_acknowledgement}
use Rattle.osc_model.specs.Arrival.{Arrival}
use Rattle.osc_model.specs.declared.node.Moment.{Moment}
use Rattle.osc_model.specs.declared.node.Peer.{Peer}
use Rattle.osc_coap.specs.{spelling}
use Rattle.osc_proxy.specs.State.{State}
use Rattle.osc_proxy.specs.{heard_with}

-- ---- nothing is found among those that are kept

first_fails : {X : Type 0} (p q : X → Bool) (x : X) (rest : List X) → find p (cond (q x) (x ∷ rest) rest) ≡ None
    → ((q x && p x) ≡ false) × (find p rest ≡ None)
first_fails p q x rest none =
    elim (cases_Bool (q x)) [
      | inl kept ↦
          let here : cond (p x) (Some x) (find p rest) ≡ None = rw kept at none in
          elim (cases_Bool (p x)) [
            | inl passes ↦
                let wrong : Some x ≡ None = rw passes at here in
                absurd (cc)
            | inr fails ↦ (and_right (q x) (p x) fails, rw fails at here)
          ]
      | inr left ↦ (rw left refl, rw left at none)
    ]

none_passes : {X : Type 0} (p q : X → Bool) (xs : List X) → find p (filter q xs) ≡ None → All (λ x. (q x && p x) ≡ false) xs
none_passes p q [] none = All-nil (λ x. (q x && p x) ≡ false)
none_passes p q (x ∷ xs) none =
    let both = first_fails p q x (filter q xs) none in
    All-cons (λ x. (q x && p x) ≡ false) x xs both.0 (none_passes p q xs both.1)

none_first : {X : Type 0} (p q : X → Bool) (x : X) (rest : List X) → (q x && p x) ≡ false → find p rest ≡ None → find p (cond (q x) (x ∷ rest) rest) ≡ None
none_first p q x rest fails none =
    elim (cases_Bool (q x)) [
      | inl kept ↦
          let other : p x ≡ false = rw kept at fails in
          rw kept (rw other none)
      | inr left ↦ rw left none
    ]

none_found : {X : Type 0} (p q : X → Bool) (xs : List X) → All (λ x. (q x && p x) ≡ false) xs → find p (filter q xs) ≡ None
none_found p q [] all = refl
none_found p q (x ∷ xs) all =
    none_first p q x (filter q xs) (All-head (λ x. (q x && p x) ≡ false) x xs all)
    (none_found p q xs (All-tail (λ x. (q x && p x) ≡ false) x xs all))

-- ---- notes

nothing_there : (found : Option Entry) → option_map (λ entry. entry.noted) found ≡ None → found ≡ None
nothing_there None e = refl
nothing_there (Some entry) e = absurd (cc)

nothing_noted : (found : Option Entry) → found ≡ None → option_map (λ (entry : Entry). entry.noted) found ≡ None
nothing_noted found e = rw e refl

pub still_unheard : (proxy : State) (came : Arrival Message) (at : Moment) (peer : Peer) (id : ℕ) → id ≢ came.what.id
    → looked at peer id proxy.endpoint.seen ≡ None → looked at peer id (heard_with proxy came) ≡ None
still_unheard proxy came at peer id other unheard =
    let now = came.at in
    let from = came.from in
    let message = came.what in
    let fails : Entry → Type 0 = λ entry. (is_alive at entry && is_of peer id entry) ≡ false in
    let seen = proxy.endpoint.seen in
    let note : Entry = record {
      peer = from;
      id = message.id;
      noted = record { until = now.ms + 247000; reply = Some (spelling (empty_acknowledgement message.id)) };
    } in
    let others = staying now from message.id seen in
    let before : All fails seen = none_passes (is_of peer id) (is_alive at) seen (nothing_there (find (is_of peer id) (alive at seen)) unheard) in
    let kept : All fails others = All-filter _ fails seen before in
    let apart : fails note = and_right (is_alive at note) (is_of peer id note) (and_right _ (nat_eq id message.id) (ne_eqb id message.id other)) in
    let whole : All fails (drop (length others + 1 - 64) others ++ note ∷ []) =
    All-append fails (drop (length others + 1 - 64) others) (note ∷ []) (All-drop fails (length others + 1 - 64) others kept)
    (All-cons fails note [] apart (All-nil fails)) in
    nothing_noted _ (none_found (is_of peer id) (is_alive at) (drop (length others + 1 - 64) others ++ note ∷ []) whole)
