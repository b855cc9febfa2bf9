-- What the words of a line say is what is read from them, kind by kind.
use Rattle.std.proofs.Common.{◌≡◌, ℕ, ◌≤◌, true, false, List, [], ◌∷◌, length, get_or, map, drop, Option, Some, None, codes, Bor, inl, inr, refl, sym, ap, subst, ◌∙◌, arith, bytes_eq, le-leb, IsUtf8}
use Rattle.std.proofs.lemmas.Bool.{cases_Bool}
use Rattle.std.proofs.lemmas.Slice.Eq.{bytes_eq-Decides}
use Rattle.osc_model.specs.{longest_payload, segments_of}
use Rattle.osc_script.specs.declared.line.Line.{Line}
use Rattle.osc_script.specs.declared.line.Line.TheVariants.{Skipped, Put, Open, Revoked, Grant, Proxy, Via, At, Draw, Drop, Skip, Exchange, Ask, Tick, Restart, Deliver, Alter, Graft, Inject, Lie, Quiet}
use Rattle.osc_script.specs.{Reads, most_revocation_segments, words_of, IsSkipped, Say, Says}
use Rattle.osc_script.specs.Inner.Reading.{with_none, with_one, with_two, with_three, with_more, with_two_more, put_in, revoked_in, at_in, draw_in, exchange_in, skip_in, ask_in, lie_in, deliver_in, drop_in, alter_in, graft_in, tick_in, restart_in, inject_in, proxy_line_in, via_in, node_line_in, datagram_line_in, client_line_in, timed_line_in, line_in, HasPath, Gives}
use Rattle.osc_script.proofs.Found.{chosen, test_held}
use Rattle.osc_script.proofs.Numbers.{number_again, format_again, request_number_again}
use Rattle.osc_script.proofs.Payloads.{bytes_again, kept_again, nonce_again, short_again}
use Rattle.osc_script.proofs.Nodes.{client_again, node_again, proxy_again, worker_again}
use Rattle.osc_script.proofs.Requests.{request_again}
use Rattle.osc_script.proofs.ChangeWords.{changes_again, some_again}
use Rattle.osc_script.proofs.GrantWords.{one_grant}
use Rattle.osc_script.proofs.Lines.{line_is, moment_again, put_found, open_found, revoked_found, proxy_line_found, via_found, at_found, draw_found, exchange_found, skip_found, ask_found, lie_found, deliver_found, drop_found, alter_found, graft_found, tick_found, restart_found, inject_found}

-- ---- arguments

none_found : (it : Line) (args : List (List ℕ)) (line : Line) → with_none it args ≡ Some line → (args ≡ []) × (it ≡ line)
none_found it [] line e = (refl, line_is it line e)
none_found it (a ∷ args) line e = absurd cc

one_found : (f : List ℕ → Option Line) (args : List (List ℕ)) (line : Line) → with_one f args ≡ Some line → (a : List ℕ) × (args ≡ a ∷ []) × (f a ≡ Some line)
one_found f [] line e = absurd cc
one_found f (a ∷ []) line e = (a, refl, e)
one_found f (a ∷ b ∷ args) line e = absurd cc

two_found : (f : List ℕ → List ℕ → Option Line) (args : List (List ℕ)) (line : Line) → with_two f args ≡ Some line → (a b : List ℕ) × (args ≡ a ∷ b ∷ []) × (f a b ≡ Some line)
two_found f [] line e = absurd cc
two_found f (a ∷ []) line e = absurd cc
two_found f (a ∷ b ∷ []) line e = (a, b, refl, e)
two_found f (a ∷ b ∷ c ∷ args) line e = absurd cc

three_found : (f : List ℕ → List ℕ → List ℕ → Option Line) (args : List (List ℕ)) (line : Line) → with_three f args ≡ Some line → (a b c : List ℕ) × (args ≡ a ∷ b ∷ c ∷ []) × (f a b c ≡ Some line)
three_found f [] line e = absurd cc
three_found f (a ∷ []) line e = absurd cc
three_found f (a ∷ b ∷ []) line e = absurd cc
three_found f (a ∷ b ∷ c ∷ []) line e = (a, b, c, refl, e)
three_found f (a ∷ b ∷ c ∷ d ∷ args) line e = absurd cc

more_found : (f : List ℕ → List (List ℕ) → Option Line) (args : List (List ℕ)) (line : Line) → with_more f args ≡ Some line → (a : List ℕ) × (rest : List (List ℕ)) × (args ≡ a ∷ rest) × (f a rest ≡ Some line)
more_found f [] line e = absurd cc
more_found f (a ∷ args) line e = (a, args, refl, e)

two_more_found : (f : List ℕ → List ℕ → List (List ℕ) → Option Line) (args : List (List ℕ)) (line : Line) → with_two_more f args ≡ Some line
    → (a b : List ℕ) × (rest : List (List ℕ)) × (args ≡ a ∷ b ∷ rest) × (f a b rest ≡ Some line)
two_more_found f [] line e = absurd cc
two_more_found f (a ∷ []) line e = absurd cc
two_more_found f (a ∷ b ∷ args) line e = (a, b, args, refl, e)

-- ---- a line

same_verb : (verb word : List ℕ) → bytes_eq verb word ≡ true → verb ≡ word
same_verb verb word e = (bytes_eq-Decides verb word).0 e

other_verb : (verb word : List ℕ) → (verb ≡ word → ⊥) → bytes_eq verb word ≡ false
other_verb verb word h =
    elim (cases_Bool (bytes_eq verb word)) [
      | inl same ↦ absurd (h (same_verb verb word same))
      | inr other ↦ other
    ]

node_said : (verb : List ℕ) (args : List (List ℕ)) (line : Line) → node_line_in verb args ≡ Some line → Say (verb ∷ args) line
unfolding node_line_in
node_said verb args line e =
    elim (chosen (bytes_eq verb (codes "tick")) _ _ _ e) [
      | inl tick ↦
          let a = one_found tick_in args line tick.1 in
          rw (same_verb verb (codes "tick") tick.0, a.1) (tick_found a.0 line a.2)
      | inr other ↦ elim (chosen (bytes_eq verb (codes "restart")) _ _ _ other.1) [
        | inl restart ↦
            let a = one_found restart_in args line restart.1 in
            rw (same_verb verb (codes "restart") restart.0, a.1) (restart_found a.0 line a.2)
        | inr other ↦ elim (chosen (bytes_eq verb (codes "inject")) _ _ _ other.1) [
          | inl inject ↦
              let a = three_found inject_in args line inject.1 in
              rw (same_verb verb (codes "inject") inject.0, a.3) (inject_found a.0 a.1 a.2 line a.4)
          | inr other ↦
              let t = test_held (bytes_eq verb (codes "quiet")) (with_none Quiet args) line other.1 in
              let a = none_found Quiet args line t.1 in
              rw (same_verb verb (codes "quiet") t.0, a.0) (subst (Say (codes "quiet" ∷ [])) a.1 refl)
        ]
      ]
    ]

datagram_said : (verb : List ℕ) (args : List (List ℕ)) (line : Line) → datagram_line_in verb args ≡ Some line → Say (verb ∷ args) line
unfolding datagram_line_in
datagram_said verb args line e =
    elim (chosen (bytes_eq verb (codes "deliver")) _ _ _ e) [
      | inl deliver ↦
          let a = one_found deliver_in args line deliver.1 in
          rw (same_verb verb (codes "deliver") deliver.0, a.1) (deliver_found a.0 line a.2)
      | inr other ↦ elim (chosen (bytes_eq verb (codes "drop")) _ _ _ other.1) [
        | inl drop ↦
            let a = one_found drop_in args line drop.1 in
            rw (same_verb verb (codes "drop") drop.0, a.1) (drop_found a.0 line a.2)
        | inr other ↦ elim (chosen (bytes_eq verb (codes "alter")) _ _ _ other.1) [
          | inl alter ↦
              let a = more_found alter_in args line alter.1 in
              rw (same_verb verb (codes "alter") alter.0, a.2) (alter_found a.0 a.1 line a.3)
          | inr other ↦ elim (chosen (bytes_eq verb (codes "graft")) _ _ _ other.1) [
            | inl graft ↦
                let a = two_found graft_in args line graft.1 in
                rw (same_verb verb (codes "graft") graft.0, a.2) (graft_found a.0 a.1 line a.3)
            | inr other ↦ node_said verb args line other.1
          ]
        ]
      ]
    ]

client_said : (verb : List ℕ) (args : List (List ℕ)) (line : Line) → client_line_in verb args ≡ Some line → HasPath line → Say (verb ∷ args) line
unfolding client_line_in
client_said verb args line e has =
    elim (chosen (bytes_eq verb (codes "exchange")) _ _ _ e) [
      | inl exchange ↦
          let a = one_found exchange_in args line exchange.1 in
          rw (same_verb verb (codes "exchange") exchange.0, a.1) (exchange_found a.0 line a.2)
      | inr other ↦ elim (chosen (bytes_eq verb (codes "ask")) _ _ _ other.1) [
        | inl ask ↦
            let a = more_found ask_in args line ask.1 in
            rw (same_verb verb (codes "ask") ask.0, a.2) (ask_found a.0 a.1 line a.3 has)
        | inr other ↦ elim (chosen (bytes_eq verb (codes "skip")) _ _ _ other.1) [
          | inl skip ↦
              let a = two_found skip_in args line skip.1 in
              rw (same_verb verb (codes "skip") skip.0, a.2) (skip_found a.0 a.1 line a.3)
          | inr other ↦ elim (chosen (bytes_eq verb (codes "lie")) _ _ _ other.1) [
            | inl lie ↦
                let a = two_more_found lie_in args line lie.1 in
                rw (same_verb verb (codes "lie") lie.0, a.3) (lie_found a.0 a.1 a.2 line a.4 has)
            | inr other ↦ datagram_said verb args line other.1
          ]
        ]
      ]
    ]

timed_said : (verb : List ℕ) (args : List (List ℕ)) (line : Line) → timed_line_in verb args ≡ Some line → HasPath line → Say (verb ∷ args) line
unfolding timed_line_in
timed_said verb args line e has =
    elim (chosen (bytes_eq verb (codes "at")) _ _ _ e) [
      | inl at ↦
          let a = one_found at_in args line at.1 in
          rw (same_verb verb (codes "at") at.0, a.1) (at_found a.0 line a.2)
      | inr other ↦ elim (chosen (bytes_eq verb (codes "draw")) _ _ _ other.1) [
        | inl draw ↦
            let a = one_found draw_in args line draw.1 in
            rw (same_verb verb (codes "draw") draw.0, a.1) (draw_found a.0 line a.2)
        | inr other ↦ client_said verb args line other.1 has
      ]
    ]

line_said : (verb : List ℕ) (args : List (List ℕ)) (line : Line) → line_in verb args ≡ Some line → HasPath line → Say (verb ∷ args) line
unfolding line_in
line_said verb args line e has =
    elim (chosen (bytes_eq verb (codes "put")) _ _ _ e) [
      | inl put ↦
          let a = three_found put_in args line put.1 in
          rw (same_verb verb (codes "put") put.0, a.3) (put_found a.0 a.1 a.2 line a.4 has)
      | inr other ↦ elim (chosen (bytes_eq verb (codes "open")) _ _ _ other.1) [
        | inl open_ ↦
            let a = one_found (λ path. Some (Open path)) args line open_.1 in
            rw (same_verb verb (codes "open") open_.0, a.1) (open_found a.0 line a.2 has)
        | inr other ↦ elim (chosen (bytes_eq verb (codes "revoked")) _ _ _ other.1) [
          | inl revoked ↦
              let a = one_found revoked_in args line revoked.1 in
              rw (same_verb verb (codes "revoked") revoked.0, a.1) (revoked_found a.0 line a.2 has)
          | inr other ↦ elim (chosen (bytes_eq verb (codes "proxy")) _ _ _ other.1) [
            | inl proxy ↦
                let a = one_found proxy_line_in args line proxy.1 in
                rw (same_verb verb (codes "proxy") proxy.0, a.1) (proxy_line_found a.0 line a.2)
            | inr other ↦ elim (chosen (bytes_eq verb (codes "via")) _ _ _ other.1) [
              | inl via ↦
                  let a = two_found via_in args line via.1 in
                  rw (same_verb verb (codes "via") via.0, a.2) (via_found a.0 a.1 line a.3)
              | inr other ↦ timed_said verb args line other.1 has
            ]
          ]
        ]
      ]
    ]

-- the line that is read of all words
abbrev pub read_of : List (List ℕ) → Option Line
read_of [] = None
read_of (verb ∷ args) = line_in verb args

pub say_found : (words : List (List ℕ)) (line : Line) → read_of words ≡ Some line → HasPath line → Say words line
say_found [] line e has = absurd cc
say_found (verb ∷ args) line e has = line_said verb args line e has

-- a line that is no grant
abbrev pub IsPlain : Line → Type 0
IsPlain (Grant client scope not_before expires alg) = ⊥
IsPlain line = Unit {0}

pub say_again : (words : List (List ℕ)) (line : Line) → IsPlain line → Say words line → (read_of words ≡ Some line) × HasPath line
unfolding line_in timed_line_in client_line_in datagram_line_in node_line_in proxy_line_in via_in put_in revoked_in at_in draw_in exchange_in skip_in ask_in lie_in deliver_in drop_in alter_in graft_in tick_in restart_in inject_in
say_again words Skipped p s = absurd s
say_again words (Put path resource) p s =
    let short = short_again longest_payload s.1 resource.payload (bytes_again s.1 resource.payload s.5) s.6 in
    (ap read_of s.2 ∙ rw (format_again s.0 resource.format s.4, short) refl, s.3)
say_again words (Open path) p s = (ap read_of s.0, s.1)
say_again words (Revoked path) p s = (ap read_of s.0 ∙ rw (le-leb (length (segments_of path)) most_revocation_segments s.2) refl, s.1)
say_again words (Grant client scope not_before expires alg) p s = absurd p
say_again words (Proxy proxy) p s = (ap read_of s ∙ rw (proxy_again proxy) refl, tt)
say_again words (Via client proxy) p s = (ap read_of s ∙ rw (client_again client, proxy_again proxy) refl, tt)
say_again words (At moment) p s = (ap read_of s.1 ∙ rw (number_again s.0 moment.ms s.2, moment_again moment) refl, tt)
say_again words (Draw nonce) p s = (ap read_of s.1 ∙ rw (nonce_again s.0 nonce s.2 s.3) refl, tt)
say_again words (Drop datagram) p s = (ap read_of s.1 ∙ rw (number_again s.0 datagram s.2) refl, tt)
say_again words (Skip client number) p s = (ap read_of s.1 ∙ rw (client_again client, request_number_again s.0 number s.2 s.3) refl, tt)
say_again words (Exchange client) p s = (ap read_of s ∙ rw (client_again client) refl, tt)
say_again words (Ask client request) p s =
    let r = request_again s.0 request s.2 in
    (ap read_of s.1 ∙ rw (client_again client, r.0) refl, r.1)
say_again words (Tick node) p s = (ap read_of s.0 ∙ rw (worker_again node s.1) refl, tt)
say_again words (Restart node) p s = (ap read_of s.0 ∙ rw (worker_again node s.1) refl, tt)
say_again words (Deliver datagram) p s = (ap read_of s.1 ∙ rw (number_again s.0 datagram s.2) refl, tt)
say_again words (Alter datagram changes) p s = (ap read_of s.2 ∙ rw (number_again s.0 datagram s.3, changes_again s.1 changes s.4) (some_again datagram changes s.5), tt)
say_again words (Graft header body) p s = (ap read_of s.2 ∙ rw (number_again s.0 header s.3, number_again s.1 body s.4) refl, tt)
say_again words (Inject from to bytes) p s = (ap read_of s.1 ∙ rw (node_again from, node_again to, kept_again s.0 bytes s.2) refl, tt)
say_again words (Lie client number request) p s =
    let r = request_again s.1 request s.5 in
    (ap read_of s.2 ∙ rw (client_again client, request_number_again s.0 number s.3 s.4, r.0) refl, r.1)
say_again words Quiet p s = (ap read_of s, tt)

-- ---- words that begin no line of a kind

pub no_plain_verb : (verb : List ℕ) (args : List (List ℕ)) → (verb ≡ codes "put" → ⊥) → (verb ≡ codes "open" → ⊥) → (verb ≡ codes "revoked" → ⊥) → (verb ≡ codes "proxy" → ⊥) → (verb ≡ codes "via" → ⊥) → line_in verb args ≡ timed_line_in verb args
unfolding line_in
no_plain_verb verb args p o r x v = rw (other_verb verb (codes "put") p, other_verb verb (codes "open") o, other_verb verb (codes "revoked") r, other_verb verb (codes "proxy") x, other_verb verb (codes "via") v) refl

pub no_timed_verb : (verb : List ℕ) (args : List (List ℕ)) → (verb ≡ codes "at" → ⊥) → (verb ≡ codes "draw" → ⊥) → timed_line_in verb args ≡ client_line_in verb args
unfolding timed_line_in
no_timed_verb verb args a d = rw (other_verb verb (codes "at") a, other_verb verb (codes "draw") d) refl

pub no_client_verb : (verb : List ℕ) (args : List (List ℕ)) → (verb ≡ codes "exchange" → ⊥) → (verb ≡ codes "ask" → ⊥) → (verb ≡ codes "skip" → ⊥) → (verb ≡ codes "lie" → ⊥) → client_line_in verb args ≡ datagram_line_in verb args
unfolding client_line_in
no_client_verb verb args e a s l = rw (other_verb verb (codes "exchange") e, other_verb verb (codes "ask") a, other_verb verb (codes "skip") s, other_verb verb (codes "lie") l) refl

pub no_datagram_verb : (verb : List ℕ) (args : List (List ℕ)) → (verb ≡ codes "deliver" → ⊥) → (verb ≡ codes "drop" → ⊥) → (verb ≡ codes "alter" → ⊥) → (verb ≡ codes "graft" → ⊥) → datagram_line_in verb args ≡ node_line_in verb args
unfolding datagram_line_in
no_datagram_verb verb args e a s l = rw (other_verb verb (codes "deliver") e, other_verb verb (codes "drop") a, other_verb verb (codes "alter") s, other_verb verb (codes "graft") l) refl

pub no_node_verb : (verb : List ℕ) (args : List (List ℕ)) → (verb ≡ codes "tick" → ⊥) → (verb ≡ codes "restart" → ⊥) → (verb ≡ codes "inject" → ⊥) → (verb ≡ codes "quiet" → ⊥) → node_line_in verb args ≡ None
unfolding node_line_in
no_node_verb verb args t r i q = rw (other_verb verb (codes "tick") t, other_verb verb (codes "restart") r, other_verb verb (codes "inject") i, other_verb verb (codes "quiet") q) refl

-- ---- the text of a line

-- what was found in the words is what they say
pub gives_reads : (words : List (List ℕ)) (found : Option Line) → ((line : Line) → Say words line → IsPlain line) → Gives (read_of words) found → Reads (Say words) found
gives_reads words (Some line) plain g = say_found words line g.0 g.1
gives_reads words None plain g = λ line s. let read = say_again words line (plain line s) s in g line read.0 read.1

-- and what they say is what the text says
pub reads_says : (text : List ℕ) (words : List (List ℕ)) (found : Option Line) → IsUtf8 text → ¬ IsSkipped text → words ≡ words_of text → Reads (Say words) found → Reads (Says text) found
reads_says text words (Some line) u n w g = (u, inr (n, subst (λ (ws : List (List ℕ)). Say ws line) w g))
reads_says text words None u n w g = λ line s.
    elim s.1 [
      | inl a ↦ n a.0
      | inr b ↦ g line (subst (λ (ws : List (List ℕ)). Say ws line) (sym w) b.1)
    ]

-- words say one thing
pub one_said : (words : List (List ℕ)) (line other : Line) → IsPlain line → IsPlain other → Say words line → Say words other → line ≡ other
one_said words line other p q s t = line_is line other (sym (say_again words line p s).0 ∙ (say_again words other q t).0)

-- ---- grants beside the others

-- words that don't begin with `grant` say no grant
pub plain : (verb : List ℕ) (args : List (List ℕ)) → (verb ≡ codes "grant" → ⊥) → (line : Line) → Say (verb ∷ args) line → IsPlain line
plain verb args other Skipped s = tt
plain verb args other (Put path resource) s = tt
plain verb args other (Open path) s = tt
plain verb args other (Revoked path) s = tt
plain verb args other (Grant client scope not_before expires alg) s = other (verb_is verb (codes "grant") args _ s.4)
  where
    verb_is : (x y : List ℕ) (xs ys : List (List ℕ)) → x ∷ xs ≡ y ∷ ys → x ≡ y
    verb_is x y xs ys e = cc
plain verb args other (Proxy proxy) s = tt
plain verb args other (Via client proxy) s = tt
plain verb args other (At moment) s = tt
plain verb args other (Draw nonce) s = tt
plain verb args other (Drop datagram) s = tt
plain verb args other (Skip client number) s = tt
plain verb args other (Exchange client) s = tt
plain verb args other (Ask client request) s = tt
plain verb args other (Tick node) s = tt
plain verb args other (Restart node) s = tt
plain verb args other (Deliver datagram) s = tt
plain verb args other (Alter datagram changes) s = tt
plain verb args other (Graft header body) s = tt
plain verb args other (Inject from to bytes) s = tt
plain verb args other (Lie client number request) s = tt
plain verb args other Quiet s = tt

-- no words say nothing
pub no_words : (line : Line) → Say [] line → ⊥
no_words line s = let read = say_again [] line (no_grant line s) s in let no : None ≡ Some line = read.0 in absurd cc
  where
    no_grant : (line : Line) → Say [] line → IsPlain line
    no_grant Skipped s = tt
    no_grant (Put path resource) s = tt
    no_grant (Open path) s = tt
    no_grant (Revoked path) s = tt
    no_grant (Grant client scope not_before expires alg) s = let no : [] ≡ codes "grant" ∷ _ = s.4 in absurd cc
    no_grant (Proxy proxy) s = tt
    no_grant (Via client proxy) s = tt
    no_grant (At moment) s = tt
    no_grant (Draw nonce) s = tt
    no_grant (Drop datagram) s = tt
    no_grant (Skip client number) s = tt
    no_grant (Exchange client) s = tt
    no_grant (Ask client request) s = tt
    no_grant (Tick node) s = tt
    no_grant (Restart node) s = tt
    no_grant (Deliver datagram) s = tt
    no_grant (Alter datagram changes) s = tt
    no_grant (Graft header body) s = tt
    no_grant (Inject from to bytes) s = tt
    no_grant (Lie client number request) s = tt
    no_grant Quiet s = tt

one_verb : (verb : List ℕ) (args : List (List ℕ)) (line other : Line) → Say (verb ∷ args) line → Say (verb ∷ args) other → line ≡ other
one_verb verb args line other s t =
    elim (cases_Bool (bytes_eq verb (codes "grant"))) [
      | inl same ↦
          let is : verb ≡ codes "grant" = same_verb verb (codes "grant") same in
          one_grant args line other (subst (λ (v : List ℕ). Say (v ∷ args) line) is s) (subst (λ (v : List ℕ). Say (v ∷ args) other) is t)
      | inr not_ ↦
          let differs : verb ≡ codes "grant" → ⊥ = λ e. let yes_ : bytes_eq verb (codes "grant") ≡ true = (bytes_eq-Decides verb (codes "grant")).1 e in absurd cc in
          one_said (verb ∷ args) line other (plain verb args differs line s) (plain verb args differs other t) s t
    ]

one_words : (words : List (List ℕ)) (line other : Line) → Say words line → Say words other → line ≡ other
one_words [] line other s t = absurd (no_words line s)
one_words (verb ∷ args) line other s t = one_verb verb args line other s t

-- a text says one thing
pub one_line : (text : List ℕ) (line other : Line) → Says text line → Says text other → line ≡ other
one_line text line other s t =
    elim s.1 [
      | inl a ↦ elim t.1 [
        | inl b ↦ a.1 ∙ sym b.1
        | inr b ↦ absurd (b.0 a.0)
      ]
      | inr a ↦ elim t.1 [
        | inl b ↦ absurd (a.0 b.0)
        | inr b ↦ one_words (words_of text) line other a.1 b.1
      ]
    ]

-- what is found after a first word that isn't `grant`
pub default_reads : (words args : List (Bor (List ℕ))) (d : Bor (List ℕ)) (found : Option Line) → 1 ≤ length words → args ≡ drop 1 words → ((get_or words 0 d).now ≡ codes "grant" → ⊥)
    → Gives (line_in (get_or words 0 d).now (map (λ arg. arg.now) args)) found → Reads (Say (map (λ word. word.now) words)) found
default_reads [] args d found le a h g = absurd (omega arith)
default_reads (w ∷ words) args d found le a h g =
    let now = map (λ (word : Bor (List ℕ)). word.now) words in
    gives_reads (w.now ∷ now) found (plain w.now now h) (subst (λ (rest : List (Bor (List ℕ))). Gives (line_in w.now (map (λ (arg : Bor (List ℕ)). arg.now) rest)) found) a g)
