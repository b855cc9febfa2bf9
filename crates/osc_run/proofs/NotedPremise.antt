-- Whether what is assumed of a run holds of steps that are kept with the oldest first.
use Rattle.std.proofs.Common.{◌≡◌, ◌≢◌, ◌<◌, ◌≤◌, ℕ, ◌+◌, ◌-◌, List, [], ◌∷◌, length, get_or, take, drop, reverse, Some, refl, sym, ap, ◌∙◌, inl, ⊎_elim, subst, arith}
use Rattle.std.proofs.lemmas.List.{drop_all}
use Rattle.osc_model.specs.declared.step.Note.{Note}
use Rattle.osc_authz.specs.{In}
use Rattle.osc_run.specs.{Noted, Minted, IsVouched, IsGenuineOpening, IsGenuine, IsDrawn, HasFreshDraws, HasOwnSecrets}
use Rattle.osc_run.proofs.Members.{Has, has_at, has_of_reverse, has_in_reverse, none_from, up_to, from_on, next_first, next_of_rest}
use Rattle.osc_run.proofs.Separate.{all_differ, each_differs}

-- what is sealed at one end and opened at the other
abbrev pub IsSealedFor : Note → Note → Type 0
IsSealedFor sealing opening =
    (sealing.context ≡ opening.context) × (sealing.side ≢ opening.side) × (sealing.nonce ≡ opening.nonce) × (sealing.aad ≡ opening.aad) × (sealing.plaintext ≡ opening.plaintext)

pub vouched_by : (step : Noted) (sealing opening : Note) → step.notes.seals ≡ Some sealing → IsSealedFor sealing opening → IsVouched (step ∷ []) opening
vouched_by step sealing opening seal same = record {
  step = step;
  noted = inl refl;
  sealing = sealing;
  seal = seal;
  context = same.0;
  side = same.1;
  nonce = same.2;
  aad = same.3;
  plaintext = same.4;
}

same_seal : (a b : Note) → Some a ≡ Some b → a ≡ b
same_seal a b e = cc

pub vouched_parts : (step : Noted) (sealing opening : Note) → step.notes.seals ≡ Some sealing → IsVouched (step ∷ []) opening → IsSealedFor sealing opening
vouched_parts step sealing opening seal v =
    let here : v.step ≡ step = ⊎_elim (λ (e : v.step ≡ step). e) (λ (e : ⊥). absurd e) v.noted in
    let same : v.sealing ≡ sealing = same_seal v.sealing sealing (sym v.seal ∙ ap (λ (s : Noted). s.notes.seals) here ∙ seal) in
    subst (λ (n : Note). IsSealedFor n opening) same (v.context, v.side, v.nonce, v.aad, v.plaintext)

-- ---- among several

abbrev pub Vouching : Note → Noted → Type 0
Vouching opening step = IsVouched (step ∷ []) opening

-- by one of several, or by each of them alone
pub by_one : (steps : List Noted) (opening : Note) → IsVouched steps opening → Has (Vouching opening) steps
by_one steps opening v = (v.step, v.noted, vouched_by v.step v.sealing opening v.seal (v.context, v.side, v.nonce, v.aad, v.plaintext))

pub of_one : (steps : List Noted) (opening : Note) → Has (Vouching opening) steps → IsVouched steps opening
of_one steps opening r =
    let v = r.2 in
    let here : v.step ≡ r.0 = ⊎_elim (λ (e : v.step ≡ r.0). e) (λ (e : ⊥). absurd e) v.noted in record {
      step = v.step;
      noted = subst (λ (s : Noted). In s steps) (sym here) r.1;
      sealing = v.sealing;
      seal = v.seal;
      context = v.context;
      side = v.side;
      nonce = v.nonce;
      aad = v.aad;
      plaintext = v.plaintext;
    }

pub vouched_at : (steps : List Noted) (i : ℕ) (s : Noted) (opening : Note) → i < length steps → s ≡ get_or steps i s → IsVouched (s ∷ []) opening → IsVouched (reverse steps) opening
vouched_at steps i s opening lt is v = of_one (reverse steps) opening (has_in_reverse (Vouching opening) steps (has_at (Vouching opening) steps i s lt is v))

-- by none of some steps
none_in_reverse : (steps : List Noted) (opening : Note) → (IsVouched (reverse steps) opening → ⊥) → Has (Vouching opening) steps → ⊥
none_in_reverse steps opening none r = none (of_one (reverse steps) opening (has_in_reverse (Vouching opening) steps r))

-- by none from a place on, and not by the one before it
pub not_vouched_before : (steps : List Noted) (i : ℕ) (s : Noted) (opening : Note) → 0 < i → i ≤ length steps → s ≡ get_or steps (i - 1) s
    → (IsVouched (reverse (drop i steps)) opening → ⊥) → (IsVouched (s ∷ []) opening → ⊥) → IsVouched (reverse (drop (i - 1) steps)) opening → ⊥
not_vouched_before steps i s opening some within is none here v =
    let next : i ≡ i - 1 + 1 = omega (arith, some) in
    let behind = subst (λ (n : ℕ). IsVouched (reverse (drop n steps)) opening → ⊥) next none in
    none_from (Vouching opening) steps (i - 1) s (omega (arith, some, within)) is (none_in_reverse (drop (i - 1 + 1) steps) opening behind) here
    (has_of_reverse (Vouching opening) (drop (i - 1) steps) (by_one (reverse (drop (i - 1) steps)) opening v))

pub not_vouched_from_first : (steps : List Noted) (i : ℕ) (opening : Note) → i ≤ 0 → (IsVouched (reverse (drop i steps)) opening → ⊥) → IsVouched (reverse steps) opening → ⊥
not_vouched_from_first steps i opening first none =
    let is_first : i ≡ 0 = omega (arith, first) in
    subst (λ (n : ℕ). IsVouched (reverse (drop n steps)) opening → ⊥) is_first none

-- none follows the last
pub not_vouched_behind : (steps : List Noted) (i : ℕ) (opening : Note) → length steps ≤ i → IsVouched (reverse (drop i steps)) opening → ⊥
not_vouched_behind steps i opening all v = subst (λ (none : List Noted). Has (Vouching opening) (reverse none) → ⊥) (sym (drop_all i steps all)) (λ r. r.1) (by_one (reverse (drop i steps)) opening v)

-- ---- step by step

-- where all are genuine, what a step opened is
pub genuine_at : (minted : List Minted) (steps : List Noted) (i : ℕ) (s : Noted) → i < length steps → s ≡ get_or steps i s → IsGenuine minted (reverse steps)
    → (opening : Note) → s.notes.opens ≡ Some opening → IsGenuineOpening minted (reverse (take i steps)) opening
genuine_at minted steps i s lt is g =
    (subst (IsGenuine minted) (next_first steps i s lt is) (up_to (IsGenuine minted) (λ x xs p. p.1) steps (i + 1) g)).0

-- where all are fresh, no step drew what an earlier one drew
pub fresh_at : (steps : List Noted) (i : ℕ) (s : Noted) → i < length steps → s ≡ get_or steps i s → HasFreshDraws (reverse steps)
    → (nonce : List ℕ) → s.notes.drawn ≡ Some nonce → ¬ IsDrawn (reverse (take i steps)) nonce
fresh_at steps i s lt is f =
    (subst HasFreshDraws (next_first steps i s lt is) (up_to HasFreshDraws (λ x xs p. p.1) steps (i + 1) f)).0

-- ---- secrets

pub own_secrets_more : (minted : List Minted) (i : ℕ) (m : Minted) → i < length minted → m ≡ get_or minted i m → HasOwnSecrets (drop (i + 1) minted)
    → ((other : Minted) → In other (drop (i + 1) minted) → other.grant.secret ≢ m.grant.secret) → HasOwnSecrets (drop i minted)
own_secrets_more minted i m lt is rest here = subst HasOwnSecrets (sym (next_of_rest minted i m lt is)) (all_differ m.grant.secret (drop (i + 1) minted) here, rest)

pub shared_secret : (minted : List Minted) (i : ℕ) (m : Minted) → i < length minted → m ≡ get_or minted i m → HasOwnSecrets minted
    → (other : Minted) → In other (drop (i + 1) minted) → other.grant.secret ≢ m.grant.secret
shared_secret minted i m lt is own =
    each_differs m.grant.secret (drop (i + 1) minted) (subst HasOwnSecrets (next_of_rest minted i m lt is) (from_on HasOwnSecrets (λ x xs p. p.1) minted i own)).0
