-- What is read from the words of a line, they say, and what they say is read.
use Rattle.std.proofs.Common.{◌≡◌, ℕ, ◌<◌, ◌^◌, Bool, true, false, List, [], ◌∷◌, Option, Some, None, codes, length, leb-true, nat_le, nat_lt, inl, inr, refl, sym, ap, subst, ◌∙◌, ltb-true, lt-ltb}
use Rattle.std.specs.Prelude.{IfSome, IsSome, ◌↔◌}
use Rattle.std.proofs.Props.{props}
use Rattle.std.proofs.lemmas.Bool.{cases_Bool}
use Rattle.osc_model.specs.{segments_of, IsPath, longest_payload}
use Rattle.osc_model.specs.declared.node.Moment.{Moment}
use Rattle.osc_script.specs.declared.line.Line.{Line}
use Rattle.osc_script.specs.declared.line.Line.TheVariants.{Put, Open, Revoked, Proxy, Via, At, Draw, Drop, Skip, Exchange, Ask, Tick, Restart, Deliver, Graft, Inject, Lie}
use Rattle.osc_script.specs.{client_name, most_revocation_segments, name_of, SpellsNumber, Say}
use Rattle.osc_script.specs.Inner.Reading.{◌>>=◌, number_in, request_number_in, format_in, client_in, node_in, worker_in, kept_in, short_bytes_in, nonce_in, changes_in, some_changes, request_in, moment_if, moment_in, put_in, at_in, draw_in, exchange_in, skip_in, ask_in, lie_in, deliver_in, drop_in, alter_in, graft_in, tick_in, restart_in, inject_in, revoked_in, proxy_in, proxy_line_in, via_in, HasPath}
use Rattle.osc_script.proofs.Found.{step_found, test_held}
use Rattle.osc_script.proofs.Numbers.{number_found, format_found, request_number_found}
use Rattle.osc_script.proofs.Payloads.{bytes_found, kept_found, nonce_found, short_found}
use Rattle.osc_script.proofs.Nodes.{client_found, node_found, proxy_found, worker_found}
use Rattle.osc_script.proofs.Requests.{request_found}
use Rattle.osc_script.proofs.ChangeWords.{changes_found, some_found}

pub line_is : (x y : Line) → Some x ≡ Some y → x ≡ y
line_is x y e = cc

-- ---- a moment

moment_tested : (ms : ℕ) (few : Bool) (e : nat_lt ms (2 ^ 63) ≡ few) (moment : Moment) → moment_if ms few e ≡ Some moment → ms ≡ moment.ms
moment_tested ms true e moment found = let is : record { ms = ms; early = ltb-true ms (2 ^ 63) e } ≡ moment = cc in ap (λ (m : Moment). m.ms) is
moment_tested ms false e moment found = absurd cc

moment_found : (ms : ℕ) (moment : Moment) → moment_in ms ≡ Some moment → ms ≡ moment.ms
moment_found ms moment found = moment_tested ms (nat_lt ms (2 ^ 63)) refl moment found

-- a bound has one proof
bound_prop : (ms : ℕ) → IsProp (ms < 2 ^ 63)
bound_prop ms = Prim.hlevel props

moment_one : (moment : Moment) (few : Bool) (e : nat_lt moment.ms (2 ^ 63) ≡ few) → moment_if moment.ms few e ≡ Some moment
moment_one moment true e = ap (λ (early : moment.ms < 2 ^ 63). Some (record { ms = moment.ms; early = early })) (bound_prop moment.ms (ltb-true moment.ms (2 ^ 63) e) moment.early)
moment_one moment false e = let yes_ : nat_lt moment.ms (2 ^ 63) ≡ true = lt-ltb moment.ms (2 ^ 63) moment.early in absurd cc

pub moment_again : (moment : Moment) → moment_in moment.ms ≡ Some moment
moment_again moment = moment_one moment (nat_lt moment.ms (2 ^ 63)) refl

-- what is found of some milliseconds is their moment, and nothing is where there are too many
pub moment_read : (ms : ℕ) (found : Option Moment) → IfSome found (λ moment. moment.ms ≡ ms) → (IsSome found ↔ (ms < 2 ^ 63)) → found ≡ moment_in ms
moment_read ms (Some moment) value some = sym (moment_again moment) ∙ ap moment_in value
moment_read ms None value some =
    elim (cases_Bool (nat_lt ms (2 ^ 63))) [
      | inl few ↦ let no : false ≡ true = some.1 (ltb-true ms (2 ^ 63) few) in absurd cc
      | inr many ↦ none_found ms (nat_lt ms (2 ^ 63)) refl many
    ]
  where
    none_found : (ms : ℕ) (few : Bool) (e : nat_lt ms (2 ^ 63) ≡ few) → few ≡ false → None ≡ moment_if ms few e
    none_found ms true e f = absurd cc
    none_found ms false e f = refl

-- ---- each kind of line

pub put_found : (path format bytes : List ℕ) (line : Line) → put_in path format bytes ≡ Some line → HasPath line → Say (codes "put" ∷ path ∷ format ∷ bytes ∷ []) line
unfolding put_in
put_found path format bytes line e has =
    let a = step_found (format_in format) (λ f. short_bytes_in longest_payload bytes >>= λ p. Some (Put path (record { format = f; payload = p }))) line e in
    let b = step_found (short_bytes_in longest_payload bytes) (λ p. Some (Put path (record { format = a.0; payload = p }))) line a.2 in
    let c = short_found longest_payload bytes b.0 b.1 in
    let is_put : Put path (record { format = a.0; payload = b.0 }) ≡ line = line_is (Put path (record { format = a.0; payload = b.0 })) line b.2 in
    let is_path : IsPath path = subst HasPath (sym is_put) has in
    subst (Say (codes "put" ∷ path ∷ format ∷ bytes ∷ [])) is_put (format, bytes, refl, is_path, format_found format a.0 a.1, bytes_found bytes b.0 c.0, c.1)

pub open_found : (path : List ℕ) (line : Line) → Some (Open path) ≡ Some line → HasPath line → Say (codes "open" ∷ path ∷ []) line
open_found path line e has =
    let is_open : Open path ≡ line = line_is (Open path) line e in
    let is_path : IsPath path = subst HasPath (sym is_open) has in
    subst (Say (codes "open" ∷ path ∷ [])) is_open (refl, is_path)

pub revoked_found : (path : List ℕ) (line : Line) → revoked_in path ≡ Some line → HasPath line → Say (codes "revoked" ∷ path ∷ []) line
unfolding revoked_in
revoked_found path line e has =
    let t = test_held (nat_le (length (segments_of path)) most_revocation_segments) (Some (Revoked path)) line e in
    let is_revoked : Revoked path ≡ line = line_is (Revoked path) line t.1 in
    let is_path : IsPath path = subst HasPath (sym is_revoked) has in
    subst (Say (codes "revoked" ∷ path ∷ [])) is_revoked (refl, is_path, leb-true (length (segments_of path)) most_revocation_segments t.0)

pub proxy_line_found : (proxy : List ℕ) (line : Line) → proxy_line_in proxy ≡ Some line → Say (codes "proxy" ∷ proxy ∷ []) line
unfolding proxy_line_in
proxy_line_found proxy line e =
    let a = step_found (proxy_in proxy) (λ p. Some (Proxy p)) line e in
    subst (Say (codes "proxy" ∷ proxy ∷ [])) (line_is (Proxy a.0) line a.2) (ap (λ (w : List ℕ). codes "proxy" ∷ w ∷ []) (proxy_found proxy a.0 a.1))

pub via_found : (client proxy : List ℕ) (line : Line) → via_in client proxy ≡ Some line → Say (codes "via" ∷ client ∷ proxy ∷ []) line
unfolding via_in
via_found client proxy line e =
    let a = step_found (client_in client) (λ c. proxy_in proxy >>= λ p. Some (Via c p)) line e in
    let b = step_found (proxy_in proxy) (λ p. Some (Via a.0 p)) line a.2 in
    subst (Say (codes "via" ∷ client ∷ proxy ∷ [])) (line_is (Via a.0 b.0) line b.2)
    (ap (λ (w : List ℕ). codes "via" ∷ w ∷ proxy ∷ []) (client_found client a.0 a.1) ∙ ap (λ (w : List ℕ). codes "via" ∷ client_name a.0 ∷ w ∷ []) (proxy_found proxy b.0 b.1))

pub at_found : (number : List ℕ) (line : Line) → at_in number ≡ Some line → Say (codes "at" ∷ number ∷ []) line
unfolding at_in
at_found number line e =
    let a = step_found (number_in number) (λ ms. moment_in ms >>= λ moment. Some (At moment)) line e in
    let m = step_found (moment_in a.0) (λ moment. Some (At moment)) line a.2 in
    let is_ms : a.0 ≡ m.0.ms = moment_found a.0 m.0 m.1 in
    subst (Say (codes "at" ∷ number ∷ [])) (line_is (At m.0) line m.2) (number, refl, subst (SpellsNumber number) is_ms (number_found number a.0 a.1))

pub draw_found : (digits : List ℕ) (line : Line) → draw_in digits ≡ Some line → Say (codes "draw" ∷ digits ∷ []) line
unfolding draw_in
draw_found digits line e =
    let a = step_found (nonce_in digits) (λ nonce. Some (Draw nonce)) line e in
    let n = nonce_found digits a.0 a.1 in
    subst (Say (codes "draw" ∷ digits ∷ [])) (line_is (Draw a.0) line a.2) (digits, refl, n.0, n.1)

pub exchange_found : (client : List ℕ) (line : Line) → exchange_in client ≡ Some line → Say (codes "exchange" ∷ client ∷ []) line
unfolding exchange_in
exchange_found client line e =
    let a = step_found (client_in client) (λ c. Some (Exchange c)) line e in
    subst (Say (codes "exchange" ∷ client ∷ [])) (line_is (Exchange a.0) line a.2) (ap (λ (w : List ℕ). codes "exchange" ∷ w ∷ []) (client_found client a.0 a.1))

pub skip_found : (client number : List ℕ) (line : Line) → skip_in client number ≡ Some line → Say (codes "skip" ∷ client ∷ number ∷ []) line
unfolding skip_in
skip_found client number line e =
    let a = step_found (client_in client) (λ c. request_number_in number >>= λ n. Some (Skip c n)) line e in
    let b = step_found (request_number_in number) (λ n. Some (Skip a.0 n)) line a.2 in
    let n = request_number_found number b.0 b.1 in
    subst (Say (codes "skip" ∷ client ∷ number ∷ [])) (line_is (Skip a.0 b.0) line b.2) (number, ap (λ (w : List ℕ). codes "skip" ∷ w ∷ number ∷ []) (client_found client a.0 a.1), n.0, n.1)

pub ask_found : (client : List ℕ) (words : List (List ℕ)) (line : Line) → ask_in client words ≡ Some line → HasPath line → Say (codes "ask" ∷ client ∷ words) line
unfolding ask_in
ask_found client words line e has =
    let a = step_found (client_in client) (λ c. request_in words >>= λ r. Some (Ask c r)) line e in
    let b = step_found (request_in words) (λ r. Some (Ask a.0 r)) line a.2 in
    let is : Ask a.0 b.0 ≡ line = line_is (Ask a.0 b.0) line b.2 in
    subst (Say (codes "ask" ∷ client ∷ words)) is (words, ap (λ (w : List ℕ). codes "ask" ∷ w ∷ words) (client_found client a.0 a.1), request_found words b.0 b.1 (subst HasPath (sym is) has))

pub lie_found : (client number : List ℕ) (words : List (List ℕ)) (line : Line) → lie_in client number words ≡ Some line → HasPath line → Say (codes "lie" ∷ client ∷ number ∷ words) line
unfolding lie_in
lie_found client number words line e has =
    let a = step_found (client_in client) (λ c. request_number_in number >>= λ n. request_in words >>= λ r. Some (Lie c n r)) line e in
    let b = step_found (request_number_in number) (λ n. request_in words >>= λ r. Some (Lie a.0 n r)) line a.2 in
    let c = step_found (request_in words) (λ r. Some (Lie a.0 b.0 r)) line b.2 in
    let n = request_number_found number b.0 b.1 in
    let is : Lie a.0 b.0 c.0 ≡ line = line_is (Lie a.0 b.0 c.0) line c.2 in
    subst (Say (codes "lie" ∷ client ∷ number ∷ words)) is
    (number, words, ap (λ (w : List ℕ). codes "lie" ∷ w ∷ number ∷ words) (client_found client a.0 a.1), n.0, n.1, request_found words c.0 c.1 (subst HasPath (sym is) has))

pub deliver_found : (number : List ℕ) (line : Line) → deliver_in number ≡ Some line → Say (codes "deliver" ∷ number ∷ []) line
unfolding deliver_in
deliver_found number line e =
    let a = step_found (number_in number) (λ n. Some (Deliver n)) line e in
    subst (Say (codes "deliver" ∷ number ∷ [])) (line_is (Deliver a.0) line a.2) (number, refl, number_found number a.0 a.1)

pub drop_found : (number : List ℕ) (line : Line) → drop_in number ≡ Some line → Say (codes "drop" ∷ number ∷ []) line
unfolding drop_in
drop_found number line e =
    let a = step_found (number_in number) (λ n. Some (Drop n)) line e in
    subst (Say (codes "drop" ∷ number ∷ [])) (line_is (Drop a.0) line a.2) (number, refl, number_found number a.0 a.1)

pub alter_found : (number : List ℕ) (words : List (List ℕ)) (line : Line) → alter_in number words ≡ Some line → Say (codes "alter" ∷ number ∷ words) line
unfolding alter_in
alter_found number words line e =
    let a = step_found (number_in number) (λ n. changes_in words >>= some_changes n) line e in
    let b = step_found (changes_in words) (some_changes a.0) line a.2 in
    let c = some_found a.0 b.0 line b.2 in
    subst (Say (codes "alter" ∷ number ∷ words)) (sym c.0) (number, words, refl, number_found number a.0 a.1, changes_found words b.0 b.1, c.1)

pub graft_found : (first second : List ℕ) (line : Line) → graft_in first second ≡ Some line → Say (codes "graft" ∷ first ∷ second ∷ []) line
unfolding graft_in
graft_found first second line e =
    let a = step_found (number_in first) (λ j. number_in second >>= λ k. Some (Graft j k)) line e in
    let b = step_found (number_in second) (λ k. Some (Graft a.0 k)) line a.2 in
    subst (Say (codes "graft" ∷ first ∷ second ∷ [])) (line_is (Graft a.0 b.0) line b.2) (first, second, refl, number_found first a.0 a.1, number_found second b.0 b.1)

pub tick_found : (word : List ℕ) (line : Line) → tick_in word ≡ Some line → Say (codes "tick" ∷ word ∷ []) line
unfolding tick_in
tick_found word line e =
    let a = step_found (worker_in word) (λ node. Some (Tick node)) line e in
    let w = worker_found word a.0 a.1 in
    subst (Say (codes "tick" ∷ word ∷ [])) (line_is (Tick a.0) line a.2) (ap (λ (w : List ℕ). codes "tick" ∷ w ∷ []) w.0, w.1)

pub restart_found : (word : List ℕ) (line : Line) → restart_in word ≡ Some line → Say (codes "restart" ∷ word ∷ []) line
unfolding restart_in
restart_found word line e =
    let a = step_found (worker_in word) (λ node. Some (Restart node)) line e in
    let w = worker_found word a.0 a.1 in
    subst (Say (codes "restart" ∷ word ∷ [])) (line_is (Restart a.0) line a.2) (ap (λ (w : List ℕ). codes "restart" ∷ w ∷ []) w.0, w.1)

pub inject_found : (from to spelled : List ℕ) (line : Line) → inject_in from to spelled ≡ Some line → Say (codes "inject" ∷ from ∷ to ∷ spelled ∷ []) line
unfolding inject_in
inject_found from to spelled line e =
    let f = step_found (node_in from) (λ f. node_in to >>= λ t. kept_in spelled >>= λ bytes. Some (Inject f t bytes)) line e in
    let t = step_found (node_in to) (λ t. kept_in spelled >>= λ bytes. Some (Inject f.0 t bytes)) line f.2 in
    let a = step_found (kept_in spelled) (λ bytes. Some (Inject f.0 t.0 bytes)) line t.2 in
    let from_is = node_found from f.0 f.1 in
    let to_is = node_found to t.0 t.1 in
    let words : codes "inject" ∷ from ∷ to ∷ spelled ∷ [] ≡ codes "inject" ∷ name_of f.0 ∷ name_of t.0 ∷ spelled ∷ [] =
    ap (λ (w : List ℕ). codes "inject" ∷ w ∷ to ∷ spelled ∷ []) from_is ∙ ap (λ (w : List ℕ). codes "inject" ∷ name_of f.0 ∷ w ∷ spelled ∷ []) to_is in
    subst (Say (codes "inject" ∷ from ∷ to ∷ spelled ∷ [])) (line_is (Inject f.0 t.0 a.0) line a.2) (spelled, words, kept_found spelled a.0 a.1)
