-- Look-ups on forms, lane by lane.
use Rattle.std.proofs.Common.{◌≡◌, ℕ, ◌/◌, ◌^◌, ◌∙◌, List, map, replicate, bit_and, bit_xor, ap, T}
use Rattle.std.proofs.lemmas.Simd.{zip2_splat, zip2_of_maps, map-map}
use lib.Lanes.{Each1, zip2}
use Rattle.osc_aes.specs.Inner.Tower.{is_place, IsPlace, looked, upper, lower, sum_of, both, one, other, first_place, second_place}
use Rattle.osc_aes.proofs.Lanes.{IsBlock, all_below, each_made}

-- the halves of sixteen bytes
pub uppers : (v : List ℕ) → IsBlock v → zip2 (λ a b. a / 2 ^ b) v (replicate 16 4) ≡ map upper v
uppers v h = zip2_splat (λ a b. a / 2 ^ b) v 16 4 h.0

pub lowers : (v : List ℕ) → IsBlock v → zip2 bit_and v (replicate 16 15) ≡ map lower v
lowers v h = zip2_splat bit_and v 16 15 h.0

-- places that are made of one byte each
pub made_places : (g : ℕ → ℕ) (v js : List ℕ) → IsBlock v → js ≡ map g v → T (all_below (λ x. is_place (g x)) 256) → Each1 IsPlace js
made_places g v js h e all = rw e (each_made is_place g v h.1 all)

-- a look-up there
pub looked_at : (t : List ℕ) (g : ℕ → ℕ) (v js r : List ℕ) → r ≡ map (looked t) js → js ≡ map g v → r ≡ map (λ x. looked t (g x)) v
looked_at t g v js r er ej = er ∙ ap (map (looked t)) ej ∙ map-map (looked t) g v

-- two look-ups added
pub sum_at : (t u : List ℕ) (f g : ℕ → ℕ) (v i j a b : List ℕ) → a ≡ map (looked t) i → b ≡ map (looked u) j → i ≡ map f v → j ≡ map g v →
    zip2 bit_xor a b ≡ map (λ x. sum_of t u (f x) (g x)) v
sum_at t u f g v i j a b ea eb ei ej =
    zip2_of_maps bit_xor (λ x. looked t (f x)) (λ x. looked u (g x)) v (looked_at t f v i a ea ei) (looked_at u g v j b eb ej)

-- computed: every place that is looked up is one
pub lower_places : T (all_below (λ x. is_place (lower x)) 256)
lower_places = tt

pub upper_places : T (all_below (λ x. is_place (upper x)) 256)
upper_places = tt

pub both_places : T (all_below (λ x. is_place (both x)) 256)
both_places = tt

pub one_places : T (all_below (λ x. is_place (one x)) 256)
one_places = tt

pub other_places : T (all_below (λ x. is_place (other x)) 256)
other_places = tt

pub first_places : T (all_below (λ x. is_place (first_place x)) 256)
unfolding first_place
first_places = tt

pub second_places : T (all_below (λ x. is_place (second_place x)) 256)
unfolding second_place
second_places = tt
