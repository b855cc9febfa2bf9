-- What stands in a log past the frames that are taken.
use Rattle.std.proofs.Common.{◌≡◌, ◌≢◌, ◌≤◌, ◌<◌, ◌↔◌, ◌+◌, ◌*◌, ◌-◌, ◌/◌, ◌%◌, ◌^◌, ℕ, Bool, true, false, IsTrue, List, Option, None, length, arith, sym, subst, ◌∙◌, inl, inr}
use Rattle.std.proofs.Math.Nat.{le-div_iff_mul-le}
use Rattle.std.proofs.lemmas.Bool.{cases_lt, iff_false}
use Rattle.sqlite_wal.specs.declared.page_size.PageSize.{PageSize}
use Rattle.sqlite_wal.specs.Format.{be32}
use Rattle.sqlite_wal.specs.PageSize.{IsPageSize, Names}
use Rattle.sqlite_wal.specs.Recovery.{IsIgnored, Replays, frame_at, frames_len}
use Rattle.sqlite_wal.proofs.RecoveryLemmas.{replays_once}
use Rattle.osc_store.specs.{EndTwoCommits, EndsCommit, IsDamagedLog}

-- how many whole frames stand in a file of this length
pub whole_are : (size len i : ℕ) → (i < (len - 32) / (24 + size)) ↔ (frame_at size i + (24 + size) ≤ len)
unfolding frames_len
whole_are size len i =
    let fits = le-div_iff_mul-le {k = 24 + size} {x = i + 1} {y = len - 32} (omega arith) in
    (λ low. let h = fits.0 (omega (arith, low)) in omega (arith, h), λ within. let h = fits.1 (omega (arith, within)) in omega (arith, h))

-- two ends, found one after the other
pub two_found : (size : ℕ) (log : List ℕ) (past one other : ℕ) → past < one → EndsCommit size log one → one < other → EndsCommit size log other → EndTwoCommits size log past
two_found size log past one other over first later second = record { one = one; past_it = over; first = first; other = other; later = later; second = second }

-- no end past this frame, or past the first
pub none_past : (size : ℕ) (log : List ℕ) (past : ℕ) → ((i : ℕ) → past < i → ¬ EndsCommit size log i) → ¬ EndTwoCommits size log past
none_past size log past none two = none two.one two.past_it two.first

pub one_past : (size : ℕ) (log : List ℕ) (past at : ℕ) → ((i : ℕ) → past < i → i < at → ¬ EndsCommit size log i) → ((i : ℕ) → at < i → ¬ EndsCommit size log i) → ¬ EndTwoCommits size log past
one_past size log past at before after two = elim (cases_lt two.one at) [
  | inl below ↦ before two.one two.past_it below two.first
  | inr above ↦ let h = two.later in after two.other (omega (arith, above, h)) two.second
]

-- where a file has a whole frame, a place in its header doesn't wrap
pub place_of : (at size n k : ℕ) → 512 ≤ size → frame_at size at + (24 + size) ≤ n → n < 2 ^ 64 → k ≤ 24
    → (((at * (24 + size)) % 2 ^ 64 + 32) % 2 ^ 64 + k) % 2 ^ 64 ≡ frame_at size at + k
unfolding frames_len
place_of at size n k large within few low = omega (arith, large, within, few, low)

-- a frame ends no commit, or has another salt
pub no_end : (size : ℕ) (log : List ℕ) (at place : ℕ) (b : Bool) → place ≡ frame_at size at + 4 → (place + 4 ≤ length log → (IsTrue b ↔ (be32 log place ≢ 0))) → b ≡ false
    → ¬ EndsCommit size log at
no_end size log at place b is tells none ends =
    let within = ends.within in
    iff_false (tells (omega (arith, is, within))) none (subst (λ p. be32 log p ≢ 0) (sym is) ends.commits)

pub no_salt : (size : ℕ) (log : List ℕ) (at place : ℕ) (b : Bool) → place ≡ frame_at size at + 8
    → (place + 4 ≤ length log → 20 ≤ length log → (IsTrue b ↔ (be32 log place ≡ be32 log 16))) → b ≡ false → ¬ EndsCommit size log at
no_salt size log at place b is tells none ends =
    let within = ends.within in
    iff_false (tells (omega (arith, is, within)) (omega (arith, within))) none (subst (λ p. be32 log p ≡ be32 log 16) (sym is) ends.salt)

-- by the three of its numbers
pub ends_by : (size : ℕ) (log : List ℕ) (at commit salt other : ℕ) (a b c : Bool) → commit ≡ frame_at size at + 4 → salt ≡ frame_at size at + 8 → other ≡ frame_at size at + 12
    → frame_at size at + (24 + size) ≤ length log → (commit + 4 ≤ length log → (IsTrue a ↔ (be32 log commit ≢ 0)))
    → (salt + 4 ≤ length log → 20 ≤ length log → (IsTrue b ↔ (be32 log salt ≡ be32 log 16)))
    → (other + 4 ≤ length log → 24 ≤ length log → (IsTrue c ↔ (be32 log other ≡ be32 log 20))) → a ≡ true → b ≡ true
    → IsTrue c ↔ EndsCommit size log at
ends_by size log at commit salt other a b c commit_is salt_is other_is within commits salts others is_end both =
    let third = others (omega (arith, other_is, within)) (omega (arith, within)) in (
      λ last. record {
        within = within;
        salt = subst (λ p. be32 log p ≡ be32 log 16) salt_is ((salts (omega (arith, salt_is, within)) (omega (arith, within))).0 both);
        other_salt = subst (λ p. be32 log p ≡ be32 log 20) other_is (third.0 last);
        commits = subst (λ p. be32 log p ≢ 0) commit_is ((commits (omega (arith, commit_is, within))).0 is_end);
      },
      λ ends. third.1 (subst (λ p. be32 log p ≡ be32 log 20) (sym other_is) ends.other_salt),
    )

-- the damage of a log in pages of this size
pub damaged_by : (log : List ℕ) (size k : ℕ) → IsPageSize size → ¬ IsIgnored log → be32 log 8 ≡ size → Replays size log k → EndTwoCommits size log k → IsDamagedLog log
damaged_by log size k sized signed named replays two = record { size = size; sized = sized; is_log = (signed, named); frames = k; replays = replays; two = two }

pub undamaged : (log : List ℕ) (size : ℕ) → be32 log 8 ≡ size → ((k : ℕ) → Replays size log k → ¬ EndTwoCommits size log k) → ¬ IsDamagedLog log
undamaged log size named none damaged =
    let sizes : damaged.size ≡ size = sym damaged.is_log.1 ∙ named in
    none damaged.frames (subst (λ n. Replays n log damaged.frames) sizes damaged.replays) (subst (λ n. EndTwoCommits n log damaged.frames) sizes damaged.two)

-- a log that names no size of a page
pub unnamed : (log : List ℕ) (found : Option PageSize) → (¬ IsIgnored log → Names found (be32 log 8)) → found ≡ None → ¬ IsDamagedLog log
unnamed log found named none damaged =
    let names = named damaged.is_log.0 in
    let sized : IsPageSize (be32 log 8) = subst IsPageSize (sym damaged.is_log.1) damaged.sized in
    let some = names.0.1 sized in
    let never = rw none at some in
    absurd (cc)
