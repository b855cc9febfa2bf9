-- Tables whose first entries went.
use Rattle.std.proofs.Common.{◌≡◌, ℕ, ◌-◌, ◌<◌, ◌≤◌, Bool, true, false, cond, ◌&&◌, List, [], ◌∷◌, ◌++◌, filter, drop, length, count_by, nat_lt, zero, suc, refl, ap, sym, ◌∙◌, Option, Some, None, arith}
use Rattle.indexmap.specs.Layout.{set_value_at}
use Rattle.std.specs.Map.{lookup, keys_of}
use Rattle.std.proofs.lemmas.List.Sums.{length-filter}
use Rattle.osc_model.specs.declared.node.Moment.{Moment}
use Rattle.osc_dedup.specs.declared.table.Remembered.{Remembered}
use Rattle.osc_dedup.specs.{alive, is_alive, Key, same_key, entry_of, entries_of, stays, is_other, nothing, AreGone, AllLiveUntil}

never : (n : ℕ) → nat_lt n 0 ≡ false
never n = grind arith

-- what never lived doesn't stay
pub stays_behind : (now : Moment) (replaced : Option Key) (n : ℕ) (es : List (Key × Remembered)) → AreGone n es
    → filter (stays now replaced) es ≡ filter (stays now replaced) (drop n es)
stays_behind now replaced zero es gone = refl
stays_behind now replaced (suc n) [] gone = refl
stays_behind now replaced (suc n) (e ∷ es) gone =
    let dead : stays now replaced e ≡ false = ap (λ until. nat_lt now.ms until && is_other replaced e.0) gone.0 ∙ ap (λ b. b && is_other replaced e.0) (never now.ms) in
    rw dead (stays_behind now replaced n es gone.1)

pub moved_behind : (now : Moment) (replaced : Option Key) (most n : ℕ) (es ys : List (Key × Remembered)) → AreGone n es
    → ys ≡ drop (count_by (stays now replaced) es - most) (filter (stays now replaced) es)
    → ys ≡ drop (count_by (stays now replaced) (drop n es) - most) (filter (stays now replaced) (drop n es))
moved_behind now replaced most n es ys gone moved =
    let test = stays now replaced in
    let behind = stays_behind now replaced n es gone in
    let count : count_by test es ≡ count_by test (drop n es) = sym (length-filter test es) ∙ ap length behind ∙ length-filter test (drop n es) in
    moved ∙ ap (λ k. drop (k - most) (filter test es)) count ∙ ap (drop (count_by test (drop n es) - most)) behind

pub alive_behind : (now : Moment) (n : ℕ) (es : List (Key × Remembered)) → AreGone n es → alive now (entries_of es) ≡ alive now (entries_of (drop n es))
alive_behind now zero es gone = refl
alive_behind now (suc n) [] gone = refl
alive_behind now (suc n) (e ∷ es) gone =
    let dead : is_alive now (entry_of e) ≡ false = ap (nat_lt now.ms) gone.0 ∙ never now.ms in
    rw dead (alive_behind now n es gone.1)

lives : (ms : ℕ) (now : Moment) (until : ℕ) → now.ms < ms → ms ≤ until → nat_lt now.ms until ≡ true
lives ms now until early late = let before : now.ms < until = omega (arith, early, late) in grind (arith, before)

-- where no entry is dead, all stay alive
pub all_alive : (ms : ℕ) (now : Moment) (es : List (Key × Remembered)) → now.ms < ms → AllLiveUntil ms es → alive now (entries_of es) ≡ entries_of es
all_alive ms now [] early live = refl
all_alive ms now (e ∷ es) early live =
    let at : is_alive now (entry_of e) ≡ true = lives ms now e.1.until early live.0 in
    rw at (ap (λ xs. entry_of e ∷ xs) (all_alive ms now es early live.1))

-- where no entry is dead or of this key, all stay
pub all_stay : (ms : ℕ) (now : Moment) (key : Key) (es : List (Key × Remembered)) → now.ms < ms → AllLiveUntil ms es → lookup (same_key key) es ≡ None
    → filter (stays now (Some key)) es ≡ es
all_stay ms now key [] early live none = refl
all_stay ms now key (e ∷ es) early live none = by (same_key key e.0) refl none (all_stay ms now key es early live.1)
  where
    by : (b : Bool) → same_key key e.0 ≡ b → cond b (Some e.1) (lookup (same_key key) es) ≡ None
        → (lookup (same_key key) es ≡ None → filter (stays now (Some key)) es ≡ es) → filter (stays now (Some key)) (e ∷ es) ≡ e ∷ es
    by true same found rest = let wrong : Some e.1 ≡ None = found in absurd (cc)
    by false other found rest =
        let alive_at : nat_lt now.ms e.1.until ≡ true = lives ms now e.1.until early live.0 in
        rw (alive_at, other) (ap (λ xs. e ∷ xs) (rest found))

-- what a table whose entries all stay drops
pub none_moved : (ms : ℕ) (now : Moment) (key : Key) (es ys : List (Key × Remembered)) → now.ms < ms → AllLiveUntil ms es → lookup (same_key key) es ≡ None
    → ys ≡ drop (length es - 63) es → ys ≡ drop (count_by (stays now (Some key)) es - 63) (filter (stays now (Some key)) es)
none_moved ms now key es ys early live none kept =
    let all = all_stay ms now key es early live none in
    let count : count_by (stays now (Some key)) es ≡ length es = sym (length-filter (stays now (Some key)) es) ∙ ap length all in
    rw (count, all) kept

-- ---- the entry at an index let go

pub keys_stay : (es : List (Key × Remembered)) (i : ℕ) (w : Remembered) → keys_of (set_value_at es i w) ≡ keys_of es
keys_stay [] i w = refl
keys_stay (e ∷ es) zero w = refl
keys_stay (e ∷ es) (suc i) w = ap (λ ks. e.0 ∷ ks) (keys_stay es i w)

pub drop_past : (es : List (Key × Remembered)) (i : ℕ) (w : Remembered) → drop (suc i) (set_value_at es i w) ≡ drop 1 (drop i es)
drop_past [] zero w = refl
drop_past [] (suc i) w = refl
drop_past (e ∷ es) zero w = refl
drop_past (e ∷ es) (suc i) w = drop_past es i w

pub one_more_gone : (es : List (Key × Remembered)) (i : ℕ) → AreGone i es → AreGone (suc i) (set_value_at es i nothing)
one_more_gone [] zero gone = tt
one_more_gone [] (suc i) gone = tt
one_more_gone (e ∷ es) zero gone = (refl, tt)
one_more_gone (e ∷ es) (suc i) gone = (gone.0, one_more_gone es i gone.1)

-- ---- keys

-- a key that none of these is
pub absent_by_keys : (key : Key) (es fs : List (Key × Remembered)) → keys_of es ≡ keys_of fs → lookup (same_key key) fs ≡ None → lookup (same_key key) es ≡ None
absent_by_keys key [] fs same none = refl
absent_by_keys key (e ∷ es) [] same none = let wrong : e.0 ∷ keys_of es ≡ [] = same in cc
absent_by_keys key (e ∷ es) (f ∷ fs) same none =
    let heads : e.0 ≡ f.0 = cc in
    let tails : keys_of es ≡ keys_of fs = cc in
    by (same_key key f.0) refl heads none (absent_by_keys key es fs tails)
  where
    by : (b : Bool) → same_key key f.0 ≡ b → e.0 ≡ f.0 → cond b (Some f.1) (lookup (same_key key) fs) ≡ None
        → (lookup (same_key key) fs ≡ None → lookup (same_key key) es ≡ None) → lookup (same_key key) (e ∷ es) ≡ None
    by true at heads found rest = let wrong : Some f.1 ≡ None = found in absurd (cc)
    by false at heads found rest = rw (heads, at) (rest found)

-- ---- the earliest end

pub live_longer : (ms less : ℕ) (es : List (Key × Remembered)) → less ≤ ms → AllLiveUntil ms es → AllLiveUntil less es
live_longer ms less [] under live = tt
live_longer ms less (e ∷ es) under live = (omega (arith, under, live.0), live_longer ms less es under live.1)

pub live_with : (ms : ℕ) (es : List (Key × Remembered)) (e : Key × Remembered) → AllLiveUntil ms es → ms ≤ e.1.until → AllLiveUntil ms (es ++ e ∷ [])
live_with ms [] e live at = (at, tt)
live_with ms (x ∷ es) e live at = (live.0, live_with ms es e live.1 at)

pub live_past : (ms n : ℕ) (es : List (Key × Remembered)) → AllLiveUntil ms es → AllLiveUntil ms (drop n es)
live_past ms zero es live = live
live_past ms (suc n) [] live = tt
live_past ms (suc n) (e ∷ es) live = live_past ms n es live.1

pub gone_with : (n : ℕ) (es fs : List (Key × Remembered)) → n ≤ length es → AreGone n es → AreGone n (es ++ fs)
gone_with zero es fs within gone = tt
gone_with (suc n) [] fs within gone = absurd (omega (arith, within))
gone_with (suc n) (e ∷ es) fs within gone = (gone.0, gone_with n es fs (omega (arith, within)) gone.1)
