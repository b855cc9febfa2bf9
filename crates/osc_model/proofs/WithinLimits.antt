-- Which changes keep a tree within its limits.
use Rattle.std.proofs.Common.{◌≡◌, ℕ, ◌<◌, ◌≤◌, ◌+◌, ◌-◌, Bool, true, false, cond, List, length, Option, Some, None, arith, refl, sym, subst}
use Rattle.std.specs.FinMap as map
use Rattle.osc_model.specs.{path_cmp, IsWithinLimits, payload_length, longest_payload, most_resources}
use Rattle.osc_model.specs.Tree.{Tree}
use Rattle.osc_model.specs.declared.resource.Resource.{Resource}
use Rattle.osc_model.proofs.Orders.{paths_total}

either : (b : Bool) (x y : Option Resource) → payload_length x ≤ longest_payload → payload_length y ≤ longest_payload → payload_length (cond b x y) ≤ longest_payload
either true x y p q = p
either false x y p q = q

either_count : (b : Bool) (n : ℕ) → n ≤ most_resources → (b ≡ false → n < most_resources) → cond b n (n + 1) ≤ most_resources
either_count true n h room = h
either_count false n h room = let h : n < most_resources = room refl in omega arith

fewer : (b : Bool) (n : ℕ) → n ≤ most_resources → cond b (n - 1) n ≤ most_resources
fewer true n h = omega arith
fewer false n h = h

pub limits_empty : IsWithinLimits map.empty
limits_empty = record {
  few = subst (λ n. n ≤ most_resources) (sym (map.len-empty path_cmp Resource)) (omega arith);
  short = λ path. subst (λ found. payload_length found ≤ longest_payload) (sym (map.get-empty path_cmp path)) (omega arith);
}

pub limits_insert : (tree : Tree) (path : List ℕ) (resource : Resource) → IsWithinLimits tree → length resource.payload ≤ longest_payload → (map.contains_key tree path ≡ false → map.len tree < most_resources) → IsWithinLimits (map.insert tree path resource)
limits_insert tree path resource within short room = record {
  few = subst (λ n. n ≤ most_resources) (sym (map.len-insert paths_total tree path resource)) (either_count _ _ within.few room);
  short = λ q. subst (λ found. payload_length found ≤ longest_payload) (sym (map.get-insert paths_total tree path resource q)) (either _ (Some resource) (map.get tree q) short (within.short q));
}

pub limits_remove : (tree : Tree) (path : List ℕ) → IsWithinLimits tree → IsWithinLimits (map.remove tree path)
limits_remove tree path within = record {
  few = subst (λ n. n ≤ most_resources) (sym (map.len-remove paths_total tree path)) (fewer _ _ within.few);
  short = λ q. subst (λ found. payload_length found ≤ longest_payload) (sym (map.get-remove paths_total tree path q)) (either _ None (map.get tree q) (omega arith) (within.short q));
}
