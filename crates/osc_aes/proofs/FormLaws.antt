-- What forms mean: computed at each byte.
use Rattle.std.proofs.Common.{◌≡◌, ℕ, ◌<◌, ◌∙◌, T, ◌&&◌, eqb, ltb, get_or, map, bit_xor, refl, sym, ap, eqb→eq, ltb→lt, arith}
use Rattle.std.proofs.lemmas.List.FromFn.{get_or-map-range_with_len}
use Rattle.std.specs.List.{range_with_len}
use lib.Ieee.Fits.{and_l, and_r}
use Rattle.osc_aes.specs.{times_x, inverse, sub_byte}
use Rattle.osc_aes.specs.Inner.Tower.{first_place, second_place, form_of, byte_of, substitute, doubled, plain_substitute}
use Rattle.osc_aes.proofs.Lanes.{all_below, every_below}

-- two functions that compute to the same at each byte
at_byte : (f g : ℕ → ℕ) → map f (range_with_len 0 256) ≡ map g (range_with_len 0 256) → (x : ℕ) → x < 256 → f x ≡ g x
at_byte f g e x h =
    sym (get_or-map-range_with_len f 0 256 x x 0 h (omega arith))
    ∙ ap (λ l. get_or l x 0) e
    ∙ get_or-map-range_with_len g 0 256 x x 0 h (omega arith)

all_formed : map (λ b. byte_of (form_of b)) (range_with_len 0 256) ≡ map (λ b. b) (range_with_len 0 256)
unfolding form_of byte_of
all_formed = refl

pub byte_of-form_of : (b : ℕ) → b < 256 → byte_of (form_of b) ≡ b
byte_of-form_of = at_byte (λ b. byte_of (form_of b)) (λ b. b) all_formed

all_bytes : T (all_below (λ x. ltb (byte_of x) 256) 256)
unfolding byte_of
all_bytes = tt

below : (x : ℕ) → T (ltb x 256) → x < 256
below x t = ltb→lt x 256 t

pub byte_of-lt : (x : ℕ) → x < 256 → byte_of x < 256
byte_of-lt x h = below _ (every_below (λ x. ltb (byte_of x) 256) 256 all_bytes x h)

-- 256 inverses, each sought from 0 on
all_substituted : map (λ x. byte_of (substitute x)) (range_with_len 0 256) ≡ map (λ x. bit_xor (sub_byte (byte_of x)) 0x63) (range_with_len 0 256)
unfolding first_place second_place byte_of substitute sub_byte inverse times_x
all_substituted = refl

pub byte_of-substitute : (x : ℕ) → x < 256 → byte_of (substitute x) ≡ bit_xor (sub_byte (byte_of x)) 0x63
byte_of-substitute = at_byte (λ x. byte_of (substitute x)) (λ x. bit_xor (sub_byte (byte_of x)) 0x63) all_substituted

all_doubled : map (λ x. byte_of (doubled x)) (range_with_len 0 256) ≡ map (λ x. times_x (byte_of (substitute x))) (range_with_len 0 256)
unfolding first_place second_place byte_of substitute doubled times_x
all_doubled = refl

pub byte_of-doubled : (x : ℕ) → x < 256 → byte_of (doubled x) ≡ times_x (byte_of (substitute x))
byte_of-doubled = at_byte (λ x. byte_of (doubled x)) (λ x. times_x (byte_of (substitute x))) all_doubled

all_plain : map plain_substitute (range_with_len 0 256) ≡ map (λ x. byte_of (substitute x)) (range_with_len 0 256)
unfolding first_place second_place byte_of substitute plain_substitute
all_plain = refl

pub plain_substitute_is : (x : ℕ) → x < 256 → plain_substitute x ≡ bit_xor (sub_byte (byte_of x)) 0x63
plain_substitute_is x h = at_byte plain_substitute (λ x. byte_of (substitute x)) all_plain x h ∙ byte_of-substitute x h

-- sums
all_summed : T (all_below (λ x. all_below (λ y. eqb (byte_of (bit_xor x y)) (bit_xor (byte_of x) (byte_of y))) 256) 256)
unfolding byte_of
all_summed = tt

pub byte_of-sum : (x y : ℕ) → x < 256 → y < 256 → byte_of (bit_xor x y) ≡ bit_xor (byte_of x) (byte_of y)
byte_of-sum x y hx hy =
    eqb→eq _ _ (every_below (λ y. eqb (byte_of (bit_xor x y)) (bit_xor (byte_of x) (byte_of y))) 256
    (every_below (λ x. all_below (λ y. eqb (byte_of (bit_xor x y)) (bit_xor (byte_of x) (byte_of y))) 256) 256 all_summed x hx) y hy)

all_shifted : map (λ b. times_x (bit_xor b 0x63)) (range_with_len 0 256) ≡ map (λ b. bit_xor (times_x b) 0xc6) (range_with_len 0 256)
unfolding times_x
all_shifted = refl

pub times_x-sum : (b : ℕ) → b < 256 → times_x (bit_xor b 0x63) ≡ bit_xor (times_x b) 0xc6
times_x-sum = at_byte (λ b. times_x (bit_xor b 0x63)) (λ b. bit_xor (times_x b) 0xc6) all_shifted

-- forms are bytes
all_forms : T (all_below (λ x. ltb (substitute x) 256 && ltb (doubled x) 256) 256)
unfolding first_place second_place substitute doubled
all_forms = tt

both_forms : (x : ℕ) → x < 256 → T (ltb (substitute x) 256 && ltb (doubled x) 256)
both_forms x h = every_below (λ x. ltb (substitute x) 256 && ltb (doubled x) 256) 256 all_forms x h

pub substitute-lt : (x : ℕ) → x < 256 → substitute x < 256
substitute-lt x h = below _ (and_l _ _ (both_forms x h))

pub doubled-lt : (x : ℕ) → x < 256 → doubled x < 256
doubled-lt x h = below _ (and_r (ltb (substitute x) 256) _ (both_forms x h))
