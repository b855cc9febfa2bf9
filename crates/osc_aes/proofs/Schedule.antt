-- Laws of the key schedule.
use Rattle.std.proofs.Common.{◌≡◌, ℕ, zero, suc, ◌+◌, ◌-◌, ◌*◌, ◌/◌, ◌%◌, ◌<◌, ◌≤◌, ◌==◌, ◌∙◌, Bool, true, false, if◌then◌else◌, List, ◌++◌, length, take, slice_index, sym, ap, ap₂, refl, subst, inl, inr, arith, length-append}
use Rattle.std.proofs.lemmas.List.{take-append-le, take_all, get_or_append_left, get_or-append_right}
use Rattle.std.proofs.lemmas.Bool.{cases_lt}
use Rattle.std.proofs.lemmas.Bool.Decides.{nat_tests}
use Rattle.osc_aes.specs.{word, add_words, rot_word, sub_word, schedule_word, first_words, key_expansion, round_constant}

-- which word begins a round key
pub turned_word : (round : ℕ) (a b t x : List ℕ) → 1 ≤ round → t ≡ add_words (sub_word (rot_word b)) (round_constant round) →
    x ≡ add_words a t → x ≡ schedule_word (4 * round) a b
unfolding schedule_word
turned_word round a b t x low et ex =
    let begins : (4 * round % 4 == 0) ≡ true = grind (arith, nat_tests) in
    let quarter : 4 * round / 4 ≡ round = omega arith in
    ex ∙ ap (add_words a) (et ∙ ap (λ j. add_words (sub_word (rot_word b)) (round_constant j)) (sym quarter))
    ∙ ap (λ (p : Bool). add_words a (if p then add_words (sub_word (rot_word b)) (round_constant (4 * round / 4)) else b)) (sym begins)

pub plain_word : (i : ℕ) (a b x : List ℕ) → 0 < i % 4 → x ≡ add_words a b → x ≡ schedule_word i a b
unfolding schedule_word
plain_word i a b x inner ex =
    let goes_on : (i % 4 == 0) ≡ false = grind (arith, nat_tests) in
    ex ∙ ap (λ (p : Bool). add_words a (if p then add_words (sub_word (rot_word b)) (round_constant (i / 4)) else b)) (sym goes_on)

-- the key is at the head of its schedule
long : (key : List ℕ) (n : ℕ) → length key ≡ 16 → 16 ≤ length (first_words key n)
unfolding first_words
long key zero h = omega arith
long key (suc n) h = omega (arith, long key n h, length-append (first_words key n) (schedule_word (4 + n) (word (first_words key n) (4 + n - 4)) (word (first_words key n) (4 + n - 1))))

pub take-first_words : (key : List ℕ) (n : ℕ) → length key ≡ 16 → take 16 (first_words key n) ≡ key
unfolding first_words
take-first_words key zero h = take_all 16 key (omega arith)
take-first_words key (suc n) h = take-append-le 16 (first_words key n) (schedule_word (4 + n) (word (first_words key n) (4 + n - 4)) (word (first_words key n) (4 + n - 1))) (long key n h) ∙ take-first_words key n h

pub take-key_expansion : (key : List ℕ) → length key ≡ 16 → take 16 (key_expansion key) ≡ key
unfolding key_expansion
take-key_expansion key h = take-first_words key 40 h

-- ---- the schedule by its words

-- a word before the end of a list is there whatever follows
word-append : (w x : List ℕ) (j : ℕ) → 4 * j + 4 ≤ length w → word (w ++ x) j ≡ word w j
word-append w x j h =
    let at : (r : ℕ) → r < 4 → slice_index (w ++ x) (4 * j + r) ≡ slice_index w (4 * j + r) =
    λ r below. get_or_append_left w x 0 (4 * j + r) (omega arith) in
    cc (at 0 (omega arith), at 1 (omega arith), at 2 (omega arith), at 3 (omega arith))

-- the word after j words
word-end : (w x : List ℕ) (j : ℕ) → length w ≡ 4 * j → word (w ++ x) j ≡ word x 0
word-end w x j h =
    let at : (r : ℕ) → slice_index (w ++ x) (4 * j + r) ≡ slice_index x r =
    λ r. get_or-append_right w x (4 * j) (4 * j + r) 0 h (omega arith) ∙ ap (slice_index x) (omega arith) in
    cc (at 0, at 1, at 2, at 3)

word-schedule_word : (i : ℕ) (a b : List ℕ) → word (schedule_word i a b) 0 ≡ schedule_word i a b
unfolding schedule_word
word-schedule_word i a b = refl

length-schedule_word : (i : ℕ) (a b : List ℕ) → length (schedule_word i a b) ≡ 4
unfolding schedule_word
length-schedule_word i a b = refl

length-first_words : (key : List ℕ) (n : ℕ) → length key ≡ 16 → length (first_words key n) ≡ 4 * (4 + n)
unfolding first_words
length-first_words key zero h = h
length-first_words key (suc n) h =
    let w : List ℕ = first_words key n in
    let x : List ℕ = schedule_word (4 + n) (word w (4 + n - 4)) (word w (4 + n - 1)) in
    omega (arith, length-first_words key n h, length-append w x, length-schedule_word (4 + n) (word w (4 + n - 4)) (word w (4 + n - 1)))

abbrev IsWordAt : List ℕ → ℕ → Type 0
IsWordAt w i = word w i ≡ schedule_word i (word w (i - 4)) (word w (i - 1))

each_first_word : (key : List ℕ) (n i : ℕ) → length key ≡ 16 → 4 ≤ i → i < 4 + n → IsWordAt (first_words key n) i
unfolding first_words
each_first_word key zero i h low high = absurd (omega arith)
each_first_word key (suc n) i h low high =
    let w : List ℕ = first_words key n in
    let x : List ℕ = schedule_word (4 + n) (word w (4 + n - 4)) (word w (4 + n - 1)) in
    let long : length w ≡ 4 * (4 + n) = length-first_words key n h in
    let back : word (w ++ x) (i - 4) ≡ word w (i - 4) = word-append w x (i - 4) (omega arith) in
    let last : word (w ++ x) (i - 1) ≡ word w (i - 1) = word-append w x (i - 1) (omega arith) in
    elim (cases_lt i (4 + n)) [
      | inl below ↦
          let here : word (w ++ x) i ≡ word w i = word-append w x i (omega arith) in
          here ∙ each_first_word key n i h low below ∙ sym (ap₂ (schedule_word i) back last)
      | inr past ↦
          let top : 4 + n ≡ i = omega arith in
          subst (λ j. IsWordAt (w ++ x) j) top
          (word-end w x (4 + n) long ∙ word-schedule_word (4 + n) (word w (4 + n - 4)) (word w (4 + n - 1))
          ∙ sym (ap₂ (schedule_word (4 + n))
          (word-append w x (4 + n - 4) (omega arith)) (word-append w x (4 + n - 1) (omega arith))))
    ]

pub length-key_expansion : (key : List ℕ) → length key ≡ 16 → length (key_expansion key) ≡ 4 * 44
unfolding key_expansion
length-key_expansion key h = length-first_words key 40 h

pub each_word : (key : List ℕ) (i : ℕ) → length key ≡ 16 → 4 ≤ i → i < 44 → IsWordAt (key_expansion key) i
unfolding key_expansion
each_word key i h low high = each_first_word key 40 i h low high
