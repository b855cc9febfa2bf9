-- The user version that a log gives.
use Rattle.std.proofs.Common.{◌≡◌, ◌≢◌, ◌⊎◌, ◌≤◌, ◌<◌, ◌+◌, ◌*◌, ◌%◌, ◌^◌, ℕ, List, Option, None, length, slice_index, arith, refl, sym, subst, ap, ◌∙◌, inl, inr}
use Rattle.std.proofs.lemmas.Bool.{cases_lt}
use Rattle.sqlite_wal.specs.declared.page_size.PageSize.{PageSize}
use Rattle.sqlite_wal.specs.Format.{be32, page_number}
use Rattle.sqlite_wal.specs.PageSize.{IsPageSize, Names}
use Rattle.sqlite_wal.specs.Recovery.{AreFramesOf, IsIgnored, Replays, frame, frame_at, frames_len}
use Rattle.sqlite_wal.proofs.FormatLemmas.{be32-part}
use Rattle.sqlite_wal.proofs.RecoveryLemmas.{replays_once}
use Rattle.osc_store.specs.{GivesVersion}

-- where a file has a whole frame, the place in it doesn't wrap
pub place_is : (at size n : ℕ) → 512 ≤ size → frame_at size at + (24 + size) ≤ n → n < 2 ^ 64 → ((at * (24 + size)) % 2 ^ 64 + 116) % 2 ^ 64 ≡ frame_at size at + 84
unfolding frames_len
place_is at size n large within few = omega (arith, large, within, few)

-- a frame that recovery takes is there whole
pub whole_frame : (size : ℕ) (log : List ℕ) (k at : ℕ) → Replays size log k → at < k → frame_at size at + (24 + size) ≤ length log
whole_frame size log k at (inl none) low = absurd (omega (arith, none.1, low))
whole_frame size log k at (inr taken) low = (taken.0.valid at low).within

-- frames are taken from a log alone that has a header, in pages of the size that it names
pub is_read : (log : List ℕ) (size k at : ℕ) → Replays size log k → at < k → ¬ IsIgnored log
is_read log size k at replays low ignored = let none : 0 ≡ k = replays_once size log 0 k (inl (ignored, refl)) replays in absurd (omega (arith, none, low))

pub size_named : (log : List ℕ) (size k at : ℕ) → Replays size log k → at < k → be32 log 8 ≡ size
size_named log size k at (inl none) low = absurd (omega (arith, none.1, low))
size_named log size k at (inr taken) low = sym (be32-part log 0 32 8 (omega arith)) ∙ taken.0.head.size

same_last : (P : ℕ → Type 0) (k a b : ℕ) → a < k → b < k → P a → P b → ((i : ℕ) → a < i → i < k → ¬ P i) → ((i : ℕ) → b < i → i < k → ¬ P i) → a ≡ b
same_last P k a b al bl pa pb an bn = elim (cases_lt a b) [
  | inl below ↦ absurd (an b below bl pb)
  | inr above ↦ elim (cases_lt b a) [ inl over ↦ absurd (bn a over al pa) | inr same ↦ omega (arith, above, same) ]
]

-- a log gives one version
pub gives_once : (log : List ℕ) (v w : ℕ) → GivesVersion log v → GivesVersion log w → v ≡ w
gives_once log v w a b =
    let sizes : a.size ≡ b.size = sym (size_named log a.size a.frames a.at a.replays a.taken) ∙ size_named log b.size b.frames b.at b.replays b.taken in
    let frames : a.frames ≡ b.frames = replays_once a.size log a.frames b.frames a.replays (subst (λ n. Replays n log b.frames) (sym sizes) b.replays) in
    let places : a.at ≡ b.at = same_last (λ i. page_number (frame a.size log i) ≡ 1) a.frames a.at b.at a.taken (subst (λ k. b.at < k) (sym frames) b.taken) a.first
    (subst (λ n. page_number (frame n log b.at) ≡ 1) (sym sizes) b.first) a.last
    (λ i low high. subst (λ n. page_number (frame n log i) ≢ 1) (sym sizes) (b.last i low (subst (λ k. i < k) frames high))) in
    a.is ∙ ap (λ at. be32 log (frame_at a.size at + 84)) places ∙ ap (λ n. be32 log (frame_at n b.at + 84)) sizes ∙ sym b.is

-- by the pages of the frames that are taken
pub gives_by : (size : ℕ) (log pages : List ℕ) (at version : ℕ) → IsPageSize size → AreFramesOf size log pages → at < length pages → slice_index pages at ≡ 1
    → ((i : ℕ) → at < i → i < length pages → slice_index pages i ≢ 1) → version ≡ be32 log (frame_at size at + 84) → GivesVersion log version
gives_by size log pages at version sized taken low one last is = record {
  size = size;
  sized = sized;
  frames = length pages;
  replays = taken.0;
  at = at;
  taken = low;
  first = sym (taken.1 at low) ∙ one;
  last = λ i over high first. last i over high (taken.1 i high ∙ first);
  is = is;
}

-- no frame is the first page's
pub gives_none : (size : ℕ) (log pages : List ℕ) (version : ℕ) → (¬ IsIgnored log → be32 log 8 ≡ size)
    → AreFramesOf size log pages ⊎ ((length pages ≡ 0) × ((k : ℕ) → ¬ Replays size log k))
    → ((i : ℕ) → i < length pages → slice_index pages i ≢ 1) → ¬ GivesVersion log version
gives_none size log pages version named taken none given =
    let sizes : given.size ≡ size = sym (size_named log given.size given.frames given.at given.replays given.taken) ∙ named (is_read log given.size given.frames given.at given.replays given.taken) in
    let replays : Replays size log given.frames = subst (λ n. Replays n log given.frames) sizes given.replays in
    elim taken [
      | inl are ↦
          let frames : given.frames ≡ length pages = replays_once size log given.frames (length pages) replays are.0 in
          let low : given.at < length pages = subst (λ k. given.at < k) frames given.taken in
          none given.at low (are.1 given.at low ∙ subst (λ n. page_number (frame n log given.at) ≡ 1) sizes given.first)
      | inr without ↦ without.1 given.frames replays
    ]

-- no size of a page is named
pub none_named : (log : List ℕ) (found : Option PageSize) (version : ℕ) → (¬ IsIgnored log → Names found (be32 log 8)) → found ≡ None → ¬ GivesVersion log version
none_named log found version named none given =
    let names = named (is_read log given.size given.frames given.at given.replays given.taken) in
    let sized : IsPageSize (be32 log 8) = subst IsPageSize (sym (size_named log given.size given.frames given.at given.replays given.taken)) given.sized in
    let some = names.0.1 sized in
    let never = rw none at some in
    absurd (cc)
