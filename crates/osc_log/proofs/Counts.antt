-- The line of counters, count by count.
use Rattle.std.proofs.Common.{◌≡◌, ◌<◌, ◌≤◌, ◌+◌, ◌∙◌, ℕ, List, length, get_or, drop, ap, sym}
use Rattle.std.proofs.lemmas.List.{drop_more, drop_all}
use Rattle.osc_log.specs.Counters.{with_count, with_counts}
use Rattle.osc_log.specs.Line.{Growing}

pub counts_next : (counts : List ℕ) (i : ℕ) (line next all : Growing) → i < length counts → next ≡ with_count i (get_or counts i 0) line
    → with_counts i (drop i counts) line ≡ all → with_counts (i + 1) (drop (i + 1) counts) next ≡ all
counts_next counts i line next all lt is_next so_far =
    ap (with_counts (i + 1) (drop (i + 1) counts)) is_next ∙ sym (ap (λ left. with_counts i left line) (drop_more counts i 0 lt)) ∙ so_far

pub counts_last : (counts : List ℕ) (i : ℕ) (line all : Growing) → length counts ≤ i → with_counts i (drop i counts) line ≡ all → line ≡ all
counts_last counts i line all le so_far = sym (ap (λ left. with_counts i left line) (drop_all i counts le)) ∙ so_far
