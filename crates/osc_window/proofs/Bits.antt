-- Bits that are moved up and set.
use Rattle.std.proofs.Common.{◌≡◌, ◌≢◌, ℕ, ◌+◌, ◌-◌, ◌*◌, ◌/◌, ◌%◌, ◌^◌, ◌<◌, ◌≤◌, max, bit_or, sym, ap, add-zero, mul_assoc, ◌∙◌, arith}
use Rattle.std.specs.Int.{bit_at}
use Rattle.std.proofs.lemmas.Nat.{div-add-mod', pow-add, pow_pos}
use Rattle.std.proofs.Math.Nat.{mul-mod_left}
use Rattle.std.proofs.lemmas.Nat.Bits.{bit_at_or, bit_at-lt, bit_at-zero, bit_at-pow_other, bit_at_cat_low, bit_at_cat_high}

-- the low bits alone
bit_at_mod : (bits width i : ℕ) → i < width → bit_at (bits % 2 ^ width) i ≡ bit_at bits i
bit_at_mod bits width i within =
    sym (bit_at_cat_low (bits / 2 ^ width) width (bits % 2 ^ width) i within) ∙ ap (λ n. bit_at n i) (div-add-mod' bits (2 ^ width))

-- moved up past the last
pub all_gone : (bits places width : ℕ) → width ≤ places → 0 ≡ bits * 2 ^ places % 2 ^ width
all_gone bits places width past =
    let split : 2 ^ places ≡ 2 ^ (places - width) * 2 ^ width = ap (λ k. 2 ^ k) (whole places width past) ∙ pow-add 2 (places - width) width in
    sym (ap (λ k. bits * k % 2 ^ width) split ∙ ap (λ k. k % 2 ^ width) (sym (mul_assoc bits (2 ^ (places - width)) (2 ^ width))) ∙ mul-mod_left (bits * 2 ^ (places - width)) (2 ^ width))
  where
    whole : (k w : ℕ) → w ≤ k → k ≡ k - w + w
    whole k w le = omega (arith, le)

-- a bit that is set stays so where others are set
pub stays_set : (bits others i : ℕ) → bit_at bits i ≡ 1 → bit_at (bit_or bits others) i ≡ 1
stays_set bits others i set = bit_at_or bits others i ∙ most (bit_at bits i) (bit_at others i) set (bit_at-lt others i)
  where
    most : (a b : ℕ) → a ≡ 1 → b < 2 → max a b ≡ 1
    most a b one few = omega (arith, one, few)

-- ---- moved up, and the lowest set

pub raised_lowest : (bits : ℕ) → bit_at (bit_or bits 1) 0 ≡ 1
raised_lowest bits = bit_at_or bits 1 0 ∙ top (bit_at bits 0) (bit_at-lt bits 0)
  where
    top : (b : ℕ) → b < 2 → max b 1 ≡ 1
    top b few = omega arith

above_lowest : (bits i : ℕ) → 0 < i → bit_at (bit_or bits 1) i ≡ bit_at bits i
above_lowest bits i above =
    let other : i ≢ 0 = omega arith in
    bit_at_or bits 1 i ∙ ap (max (bit_at bits i)) (bit_at-pow_other 0 i other) ∙ least (bit_at bits i)
  where
    least : (b : ℕ) → max b 0 ≡ b
    least b = omega arith

pub raised_between : (bits places width i : ℕ) → 0 < i → i < places → i < width → bit_at (bit_or (bits * 2 ^ places % 2 ^ width) 1) i ≡ 0
raised_between bits places width i above low within =
    above_lowest (bits * 2 ^ places % 2 ^ width) i above
    ∙ bit_at_mod (bits * 2 ^ places) width i within
    ∙ ap (λ n. bit_at n i) (sym (add-zero (bits * 2 ^ places)))
    ∙ bit_at_cat_low bits places 0 i low
    ∙ bit_at-zero i

pub raised_above : (bits places width i : ℕ) → 0 < i → places ≤ i → i < width → bit_at (bit_or (bits * 2 ^ places % 2 ^ width) 1) i ≡ bit_at bits (i - places)
raised_above bits places width i above high within =
    above_lowest (bits * 2 ^ places % 2 ^ width) i above
    ∙ bit_at_mod (bits * 2 ^ places) width i within
    ∙ ap (λ n. bit_at n i) (sym (add-zero (bits * 2 ^ places)))
    ∙ bit_at_cat_high bits places 0 i (pow_pos places) high
