-- What is kept of the lines above, with one more.
use Rattle.std.proofs.Common.{◌≡◌, ℕ, ◌+◌, zero-add, Bool, true, false, cond, List, [], ◌∷◌, ◌++◌, ◌||◌, count_by, refl, sym, ap, ◌∙◌}
use Rattle.std.specs.Prelude.{slice_index_or}
use Rattle.std.specs.List.{list_any, sum_by}
use Rattle.std.proofs.lemmas.List.Folds.{list_any-append}
use Rattle.std.proofs.lemmas.List.Sums.{sum_by-append}
use Rattle.osc_script.specs.declared.client_name.ClientName.{ClientName}
use Rattle.osc_script.specs.declared.line.Line.{Line}
use Rattle.osc_script.specs.declared.place.LinesAbove.{LinesAbove}
use Rattle.osc_script.specs.declared.proxy_name.ProxyName.{ProxyName}
use Rattle.osc_script.specs.{grants, is_event, is_put, is_revocation, makes, moment_after, moment_behind, routes}
use Rattle.osc_script.specs.Inner.Place.{IsPlace}

or_false : (b : Bool) → (b || false) ≡ b
or_false true = refl
or_false false = refl

or_one : (b c : Bool) → (b || (c || false)) ≡ (b || c)
or_one true c = refl
or_one false c = or_false c

any_more : (p : Line → Bool) (above : List Line) (line : Line) → list_any p (above ++ line ∷ []) ≡ (list_any p above || p line)
any_more p above line = list_any-append p above (line ∷ []) ∙ or_one (list_any p above) (p line)

puts_more : (above : List Line) (line : Line) → count_by is_put (above ++ line ∷ []) ≡ count_by is_put above + cond (is_put line) 1 0
puts_more above line = let count : Line → ℕ = λ l. cond (is_put l) 1 0 in sum_by-append count above (line ∷ []) ∙ ap (λ n. sum_by count above + n) (zero-add (count line))

moment_more : (moment : ℕ) (above : List Line) (line : Line) → moment_after moment (above ++ line ∷ []) ≡ moment_behind (moment_after moment above) line
moment_more moment [] line = refl
moment_more moment (l ∷ above) line = moment_more (moment_behind moment l) above line

pub place_more : (above : List Line) (line : Line) (place next : LinesAbove) → IsPlace above place
    → next.has_event ≡ (place.has_event || is_event line) → next.moment.ms ≡ moment_behind place.moment.ms line → next.puts ≡ place.puts + cond (is_put line) 1 0
    → next.has_revoked ≡ (place.has_revoked || is_revocation line)
    → ((client : ClientName) → slice_index_or next.granted client.digit false ≡ (slice_index_or place.granted client.digit false || grants client line))
    → ((proxy : ProxyName) → slice_index_or next.made proxy.digit false ≡ (slice_index_or place.made proxy.digit false || makes proxy line))
    → ((client : ClientName) → slice_index_or next.routed client.digit false ≡ (slice_index_or place.routed client.digit false || routes client line))
    → IsPlace (above ++ line ∷ []) next
place_more above line place next is event moment puts revoked granted made routed = record {
  event = event ∙ (ap (λ b. b || is_event line) is.event ∙ sym (any_more is_event above line));
  moment = moment ∙ (ap (λ m. moment_behind m line) is.moment ∙ sym (moment_more 0 above line));
  puts = puts ∙ (ap (λ n. n + cond (is_put line) 1 0) is.puts ∙ sym (puts_more above line));
  revoked = revoked ∙ (ap (λ b. b || is_revocation line) is.revoked ∙ sym (any_more is_revocation above line));
  granted = λ client. granted client ∙ (ap (λ b. b || grants client line) (is.granted client) ∙ sym (any_more (grants client) above line));
  made = λ proxy. made proxy ∙ (ap (λ b. b || makes proxy line) (is.made proxy) ∙ sym (any_more (makes proxy) above line));
  routed = λ client. routed client ∙ (ap (λ b. b || routes client line) (is.routed client) ∙ sym (any_more (routes client) above line));
}
