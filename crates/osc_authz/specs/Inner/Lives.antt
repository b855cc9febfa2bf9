-- Which contexts live, by the marks of those whose tokens are revoked. No public contract rests on this.
use Rattle.std.specs.Prelude.{◌/◌, Bool, true, false, not, ◌&&◌, ◌||◌, nat_le, nat_lt, List, filter}
use Rattle.std.specs.Option.{option_map_or}
use Rattle.osc_model.specs.declared.node.Moment.{Moment}
use Rattle.osc_authz.specs.Marked.{mark_of}
use Rattle.osc_authz.specs.SecurityContext.{SecurityContext}
use Rattle.osc_authz.specs.declared.token_entry.TokenEntry.{TokenEntry}

abbrev pub is_live_by : Moment → List Bool → SecurityContext → Bool
is_live_by now marks held =
    option_map_or (λ seconds. nat_le seconds (now.ms / 1000)) held.not_before true
    && option_map_or (λ seconds. nat_lt (now.ms / 1000) seconds) held.expires true
    && not (mark_of marks held.name.client_id)
    && option_map_or (λ seconds. nat_lt (now.ms / 1000) seconds) held.ends true

abbrev pub holds_live_by : Moment → List Bool → TokenEntry → Bool
holds_live_by now marks entry = option_map_or (is_live_by now marks) entry.confirmed false || option_map_or (is_live_by now marks) entry.pending false

-- the token ids that have a live context
abbrev pub alive_by : Moment → List Bool → List TokenEntry → List TokenEntry
alive_by now marks table = filter (holds_live_by now marks) table
