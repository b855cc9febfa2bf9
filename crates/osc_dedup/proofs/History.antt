-- The table that notes make, against all that was noted.
use Rattle.std.proofs.Common.{◌≡◌, ℕ, ◌+◌, ◌-◌, ◌<◌, ◌≤◌, Bool, true, false, not, cond, ◌&&◌, List, [], ◌∷◌, ◌++◌, length, filter, take, drop, nat_eq, bytes_eq, refl, sym, ap, ◌∙◌, ◌⊎◌, ◌↔◌, inl, inr, Option, Some, None, append_assoc, length-append, arith}
use Rattle.std.specs.List.{All, find}
use Rattle.std.specs.Option.{option_map}
use Rattle.std.specs.Cmp.Lexicographic.{same_text}
use Rattle.std.proofs.lemmas.Bool.{ltb-true, lt-ltb, eqb-true, and_parts, not-true, not_from_false, and_from}
use Rattle.std.proofs.lemmas.List.{take-append-drop, length-drop, drop-append-le}
use Rattle.std.proofs.lemmas.List.Elements.{All-nil, All-cons, All-head, All-tail, All-weaker, All-drop, All-filter, filter_passes, filter-append, filter_agree}
use Rattle.osc_model.specs.{same_peer}
use Rattle.osc_model.specs.declared.node.Moment.{Moment}
use Rattle.osc_model.specs.declared.node.Peer.{Peer}
use Rattle.osc_dedup.specs.declared.table.Remembered.{Remembered}
use Rattle.osc_dedup.specs.{Entry, is_of, is_alive, alive, staying, with_note, looked, Note, AreInOrder, table_of, unreplaced, IsThere}
use Rattle.osc_dedup.proofs.Keys.{same_key_equiv}
use Rattle.osc_dedup.proofs.Splits.{none_round, snoc_split, filter_split, find_split, find_at, filter_both, filter_swap}

-- ---- which message an entry is of

pub of_itself : (e : Entry) → is_of e.peer e.id e ≡ true
of_itself e = same_key_equiv.refl (e.peer, e.id)

pub of_each_other : (a b : Entry) → is_of a.peer a.id b ≡ is_of b.peer b.id a
of_each_other a b = same_key_equiv.symm (a.peer, a.id) (b.peer, b.id)

pub of_same : (peer : Peer) (id : ℕ) (e : Entry) → is_of peer id e ≡ true → e ≡ record { peer = peer; id = id; noted = e.noted }
of_same peer id e same =
    let parts = and_parts (same_peer peer e.peer) (nat_eq id e.id) same in
    let inner = and_parts (bytes_eq peer.address e.peer.address) (nat_eq peer.scope e.peer.scope && nat_eq peer.port e.peer.port) parts.0 in
    let numbers = and_parts (nat_eq peer.scope e.peer.scope) (nat_eq peer.port e.peer.port) inner.1 in
    let ids : id ≡ e.id = eqb-true id e.id parts.1 in
    let scopes : peer.scope ≡ e.peer.scope = eqb-true peer.scope e.peer.scope numbers.0 in
    let ports : peer.port ≡ e.peer.port = eqb-true peer.port e.peer.port numbers.1 in
    let addresses : peer.address ≡ e.peer.address = same_text peer.address e.peer.address (sym inner.0) in
    λ i. record { peer = record { address = sym addresses i; scope = sym scopes i; port = sym ports i }; id = sym ids i; noted = e.noted }

-- ---- where an entry is

-- the note of an entry of the table, and what follows the entry there
pub record Stands (notes : List Note) (e : Entry) (behind : List Entry) : Type 0 where
  pub younger : List Note
  pub older : List Note
  pub moment : Moment
  pub is_noted : notes ≡ younger ++ (record { moment = moment; entry = e }) ∷ older
  pub latest : All (λ note. is_of e.peer e.id note.entry ≡ false) younger
  pub had_place : (newer between : List Note) (note : Note) → younger ≡ newer ++ note ∷ between
      → length (staying note.moment note.entry.peer note.entry.id (unreplaced between)) + 1 < 64
  pub agrees : (t : Moment) → AreInOrder t notes → filter (is_alive t) behind ≡ filter (is_alive t) (unreplaced younger)

-- what lives later lived before
lived : (early late : Moment) → early.ms ≤ late.ms → (e : Entry) → is_alive late e ≡ true → is_alive early e ≡ true
lived early late order e alive = lt-ltb early.ms e.noted.until (omega (arith, order, ltb-true late.ms e.noted.until alive))

-- what stays of the entries after one is what stays of those noted after it
staying_agrees : (now : Moment) (peer : Peer) (id : ℕ) (xs ys : List Entry) → filter (is_alive now) xs ≡ filter (is_alive now) ys → staying now peer id xs ≡ staying now peer id ys
staying_agrees now peer id xs ys agree = one xs ∙ ap (filter other) agree ∙ sym (one ys)
  where
    other : Entry → Bool
    other = λ e. not (is_of peer id e)

    twice : (zs : List Entry) → filter (is_alive now) (staying now peer id zs) ≡ staying now peer id zs
    twice [] = refl
    twice (z ∷ zs) = by (is_alive now z) (other z) refl (twice zs)
      where
        by : (a o : Bool) → is_alive now z ≡ a → filter (is_alive now) (staying now peer id zs) ≡ staying now peer id zs
            → filter (is_alive now) (cond (a && o) (z ∷ staying now peer id zs) (staying now peer id zs)) ≡ cond (a && o) (z ∷ staying now peer id zs) (staying now peer id zs)
        by true true alive up = rw alive (ap (λ xs. z ∷ xs) up)
        by true false alive up = up
        by false o alive up = up

    one : (zs : List Entry) → staying now peer id zs ≡ filter other (filter (is_alive now) zs)
    one zs = sym (twice zs) ∙ filter_both (is_alive now) (is_alive now) other (λ z alive. alive) zs

-- one note more, after both
agrees_more : (t : Moment) (k : Note) (xs : List Entry) (younger : List Note) → k.moment.ms ≤ t.ms → filter (is_alive t) xs ≡ filter (is_alive t) (unreplaced younger)
    → filter (is_alive t) (staying k.moment k.entry.peer k.entry.id xs ++ k.entry ∷ []) ≡ filter (is_alive t) (unreplaced (k ∷ younger))
agrees_more t k xs younger order agree =
    let other : Entry → Bool = λ e. not (is_of k.entry.peer k.entry.id e) in
    filter-append (is_alive t) (staying k.moment k.entry.peer k.entry.id xs) (k.entry ∷ [])
    ∙ ap (λ ys. ys ++ filter (is_alive t) (k.entry ∷ []))
    (filter_both (is_alive t) (is_alive k.moment) other (lived k.moment t order) xs ∙ ap (filter other) agree ∙ sym (filter_swap (is_alive t) other (unreplaced younger)))
    ∙ sym (filter-append (is_alive t) (filter other (unreplaced younger)) (k.entry ∷ []))

-- the younger notes, with one more
place_more : (k : Note) (younger : List Note) → length (staying k.moment k.entry.peer k.entry.id (unreplaced younger)) + 1 < 64
    → ((newer between : List Note) (note : Note) → younger ≡ newer ++ note ∷ between → length (staying note.moment note.entry.peer note.entry.id (unreplaced between)) + 1 < 64)
    → (newer between : List Note) (note : Note) → k ∷ younger ≡ newer ++ note ∷ between → length (staying note.moment note.entry.peer note.entry.id (unreplaced between)) + 1 < 64
place_more k younger here before [] between note split =
    let same : k ≡ note = cc in
    let rest : younger ≡ between = cc in
    rw (← same, ← rest) here
place_more k younger here before (n ∷ newer) between note split = let rest : younger ≡ newer ++ note ∷ between = cc in before newer between note rest

in_order_later : (early late : Moment) → early.ms ≤ late.ms → (notes : List Note) → AreInOrder early notes → AreInOrder late notes
in_order_later early late order [] done = tt
in_order_later early late order (note ∷ earlier) done = (omega (arith, order, done.0), done.1)

-- ---- what is in the table was noted, and had its place

pub stands : (notes : List Note) (now : Moment) → AreInOrder now notes → (before : List Entry) (e : Entry) (behind : List Entry) → table_of notes ≡ before ++ e ∷ behind → Stands notes e behind
stands [] now order before e behind split = absurd (none_round before e behind split)
stands (k ∷ earlier) now order before e behind split =
    by (snoc_split (drop (length others + 1 - 64) others) k.entry before e behind split) (λ xs ys at. stands earlier k.moment order.1 xs e ys at)
  where
    others : List Entry
    others = staying k.moment k.entry.peer k.entry.id (table_of earlier)

    stay : Entry → Bool
    stay = λ x. is_alive k.moment x && not (is_of k.entry.peer k.entry.id x)

    -- the new entry itself
    new : behind ≡ [] → e ≡ k.entry → Stands (k ∷ earlier) e behind
    new last same = rw (last, same) (record {
      younger = [];
      older = earlier;
      moment = k.moment;
      is_noted = refl;
      latest = All-nil (λ note. is_of k.entry.peer k.entry.id note.entry ≡ false);
      had_place = λ newer between note at. absurd (none_round newer note between at);
      agrees = λ t done. refl;
    })

    -- one that stayed
    old : (zs : List Entry) → behind ≡ zs ++ k.entry ∷ [] → drop (length others + 1 - 64) others ≡ before ++ e ∷ zs → (xs ys : List Entry) → filter stay ys ≡ zs → stay e ≡ true
        → Stands earlier e ys → Stands (k ∷ earlier) e behind
    old zs longer at xs ys kept stays up =
        let short : length (before ++ e ∷ zs) ≤ 63 = omega (arith, ap length at, length-drop (length others + 1 - 64) others) in
        let few : length zs + 1 < 64 = omega (arith, short, length-append before (e ∷ zs)) in
        let same : staying k.moment k.entry.peer k.entry.id (unreplaced up.younger) ≡ zs =
        sym (staying_agrees k.moment k.entry.peer k.entry.id ys (unreplaced up.younger) (up.agrees k.moment order.1)) ∙ kept in
        let apart : is_of e.peer e.id k.entry ≡ false = of_each_other e k.entry ∙ not-true (is_of k.entry.peer k.entry.id e) (and_parts (is_alive k.moment e) (not (is_of k.entry.peer k.entry.id e)) stays).1 in
        record {
          younger = k ∷ up.younger;
          older = up.older;
          moment = up.moment;
          is_noted = ap (λ ns. k ∷ ns) up.is_noted;
          latest = All-cons (λ note. is_of e.peer e.id note.entry ≡ false) k up.younger apart up.latest;
          had_place = place_more k up.younger (omega (arith, few, ap length same)) up.had_place;
          agrees = λ t done. ap (filter (is_alive t)) (longer ∙ ap (λ xs. xs ++ k.entry ∷ []) (sym kept)) ∙ agrees_more t k ys up.younger done.0 (up.agrees t (later t done));
        }
      where
        later : (t : Moment) → AreInOrder t (k ∷ earlier) → AreInOrder t earlier
        later t done = in_order_later k.moment t done.0 earlier done.1

    whole : (zs : List Entry) → drop (length others + 1 - 64) others ≡ before ++ e ∷ zs → others ≡ (take (length others + 1 - 64) others ++ before) ++ e ∷ zs
    whole zs at = sym (take-append-drop (length others + 1 - 64) others) ∙ ap (λ xs. take (length others + 1 - 64) others ++ xs) at ∙ sym (append_assoc (take (length others + 1 - 64) others) before (e ∷ zs))

    by : ((behind ≡ []) × (e ≡ k.entry)) ⊎ ((zs : List Entry) × (behind ≡ zs ++ k.entry ∷ []) × (drop (length others + 1 - 64) others ≡ before ++ e ∷ zs))
        → ((xs ys : List Entry) → table_of earlier ≡ xs ++ e ∷ ys → Stands earlier e ys) → Stands (k ∷ earlier) e behind
    by (inl last) up = new last.0 last.1
    by (inr found) up =
        let came = filter_split stay (table_of earlier) (take (length others + 1 - 64) others ++ before) e found.0 (whole found.0 found.2) in
        old found.0 found.1 found.2 came.0 came.1 came.3 came.4 (up came.0 came.1 came.2)

-- ---- what was noted and had its place is in the table

pub stood : (notes : List Note) (now : Moment) → AreInOrder now notes → (e : Entry) → now.ms < e.noted.until
    → (younger older : List Note) (moment : Moment) → notes ≡ younger ++ (record { moment = moment; entry = e }) ∷ older
    → All (λ note. is_of e.peer e.id note.entry ≡ false) younger
    → ((newer between : List Note) (note : Note) → younger ≡ newer ++ note ∷ between → length (staying note.moment note.entry.peer note.entry.id (unreplaced between)) + 1 < 64)
    → (before : List Entry) × (behind : List Entry) × (table_of notes ≡ before ++ e ∷ behind) × All (λ x. is_of e.peer e.id x ≡ false) before
    × ((t : Moment) → AreInOrder t notes → filter (is_alive t) behind ≡ filter (is_alive t) (unreplaced younger))
stood [] now order e lives younger older moment is_noted latest had_place = absurd (none_round younger (record { moment = moment; entry = e }) older is_noted)
stood (k ∷ earlier) now order e lives [] older moment is_noted latest had_place =
    let same : k ≡ record { moment = moment; entry = e } = cc in
    let entry : k.entry ≡ e = ap (λ note. note.entry) same in (
      drop (length others + 1 - 64) others,
      [],
      ap (λ x. drop (length others + 1 - 64) others ++ x ∷ []) entry,
      rw (← entry) (All-drop (λ x. is_of k.entry.peer k.entry.id x ≡ false) (length others + 1 - 64) others others_apart),
      λ t done. refl,
    )
  where
    others : List Entry
    others = staying k.moment k.entry.peer k.entry.id (table_of earlier)

    stay : Entry → Bool
    stay = λ x. is_alive k.moment x && not (is_of k.entry.peer k.entry.id x)

    others_apart : All (λ x. is_of k.entry.peer k.entry.id x ≡ false) others
    others_apart = All-weaker (λ x. stay x ≡ true) (λ x. is_of k.entry.peer k.entry.id x ≡ false)
        (λ x stays. not-true (is_of k.entry.peer k.entry.id x) (and_parts (is_alive k.moment x) (not (is_of k.entry.peer k.entry.id x)) stays).1)
        others (filter_passes stay (table_of earlier))
stood (k ∷ earlier) now order e lives (j ∷ younger) older moment is_noted latest had_place =
    let same : k ≡ j = cc in
    let rest : earlier ≡ younger ++ (record { moment = moment; entry = e }) ∷ older = cc in
    step same (stood earlier k.moment order.1 e (omega (arith, order.0, lives)) younger older moment rest
    (All-tail (λ note. is_of e.peer e.id note.entry ≡ false) j younger latest)
    (λ newer between note at. had_place (j ∷ newer) between note (ap (λ ns. j ∷ ns) at)))
  where
    others : List Entry
    others = staying k.moment k.entry.peer k.entry.id (table_of earlier)

    stay : Entry → Bool
    stay = λ x. is_alive k.moment x && not (is_of k.entry.peer k.entry.id x)

    step : k ≡ j → ((before : List Entry) × (behind : List Entry) × (table_of earlier ≡ before ++ e ∷ behind) × All (λ x. is_of e.peer e.id x ≡ false) before
        × ((t : Moment) → AreInOrder t earlier → filter (is_alive t) behind ≡ filter (is_alive t) (unreplaced younger)))
        → (before : List Entry) × (behind : List Entry) × (table_of (k ∷ earlier) ≡ before ++ e ∷ behind) × All (λ x. is_of e.peer e.id x ≡ false) before
        × ((t : Moment) → AreInOrder t (k ∷ earlier) → filter (is_alive t) behind ≡ filter (is_alive t) (unreplaced (j ∷ younger)))
    step same up =
        let apart : is_of e.peer e.id k.entry ≡ false = rw same (All-head (λ note. is_of e.peer e.id note.entry ≡ false) j younger latest) in
        let room : length (staying k.moment k.entry.peer k.entry.id (unreplaced younger)) + 1 < 64 = rw same (had_place [] younger j refl) in
        let stays : stay e ≡ true = and_from (is_alive k.moment e) (not (is_of k.entry.peer k.entry.id e)) (lt-ltb k.moment.ms e.noted.until (omega (arith, order.0, lives)))
        (not_from_false (is_of k.entry.peer k.entry.id e) (of_each_other k.entry e ∙ apart)) in
        let ends : filter stay (e ∷ up.1) ≡ e ∷ filter stay up.1 = rw stays refl in
        let split : others ≡ filter stay up.0 ++ e ∷ filter stay up.1 =
        ap (filter stay) up.2 ∙ filter-append stay up.0 (e ∷ up.1) ∙ ap (λ xs. filter stay up.0 ++ xs) ends in
        let few : length (filter stay up.1) + 1 < 64 =
        omega (arith, room, ap length (staying_agrees k.moment k.entry.peer k.entry.id up.1 (unreplaced younger) (up.4 k.moment order.1))) in
        let over : length others + 1 - 64 ≤ length (filter stay up.0) = omega (arith, few, ap length split, length-append (filter stay up.0) (e ∷ filter stay up.1)) in (
          drop (length others + 1 - 64) (filter stay up.0),
          filter stay up.1 ++ k.entry ∷ [],
          ap (λ xs. drop (length others + 1 - 64) xs ++ k.entry ∷ []) split
              ∙ ap (λ xs. xs ++ k.entry ∷ []) (drop-append-le (length others + 1 - 64) (filter stay up.0) (e ∷ filter stay up.1) over)
              ∙ append_assoc (drop (length others + 1 - 64) (filter stay up.0)) (e ∷ filter stay up.1) (k.entry ∷ []),
          All-drop (λ x. is_of e.peer e.id x ≡ false) (length others + 1 - 64) (filter stay up.0) (All-filter stay (λ x. is_of e.peer e.id x ≡ false) up.0 up.3),
          λ t done. agrees_more t k up.1 younger done.0 (up.4 t (in_order_later k.moment t done.0 earlier done.1)) ∙ ap (λ n. filter (is_alive t) (unreplaced (n ∷ younger))) same,
        )

-- ---- the law

looked_found : (now : Moment) (peer : Peer) (id : ℕ) (noted : Remembered) (entries : List Entry) → looked now peer id entries ≡ Some noted
    → (e : Entry) × (find (is_of peer id) (alive now entries) ≡ Some e) × (e.noted ≡ noted)
looked_found now peer id noted entries says = by (find (is_of peer id) (alive now entries)) refl says
  where
    by : (o : Option Entry) → find (is_of peer id) (alive now entries) ≡ o → option_map (λ entry. entry.noted) o ≡ Some noted
        → (e : Entry) × (find (is_of peer id) (alive now entries) ≡ Some e) × (e.noted ≡ noted)
    by None found at = let none : None ≡ Some noted = at in absurd (cc)
    by (Some e) found at = let some : Some e.noted ≡ Some noted = at in (e, found, cc)

there_from : (notes : List Note) (now : Moment) (peer : Peer) (id : ℕ) (noted : Remembered) → AreInOrder now notes → looked now peer id (table_of notes) ≡ Some noted
    → IsThere notes now (record { peer = peer; id = id; noted = noted })
there_from notes now peer id noted order says =
    let found = looked_found now peer id noted (table_of notes) says in
    let first = find_split (is_of peer id) (alive now (table_of notes)) found.0 found.1 in
    let place = filter_split (is_alive now) (table_of notes) first.0 found.0 first.1 first.2 in
    let same : found.0 ≡ record { peer = peer; id = id; noted = noted } =
    of_same peer id found.0 first.3 ∙ ap (λ x. let e : Entry = record { peer = peer; id = id; noted = x } in e) found.2 in
    let up = stands notes now order place.0 found.0 place.1 place.2 in
    rw (← same) (record {
      younger = up.younger;
      older = up.older;
      moment = up.moment;
      is_noted = up.is_noted;
      lives = ltb-true now.ms found.0.noted.until place.4;
      latest = up.latest;
      had_place = up.had_place;
    })

looked_from : (notes : List Note) (now : Moment) (peer : Peer) (id : ℕ) (noted : Remembered) → AreInOrder now notes → IsThere notes now (record { peer = peer; id = id; noted = noted })
    → looked now peer id (table_of notes) ≡ Some noted
looked_from notes now peer id noted order there =
    let e : Entry = record { peer = peer; id = id; noted = noted } in
    let at = stood notes now order e there.lives there.younger there.older there.moment there.is_noted there.latest there.had_place in
    let lives : is_alive now e ≡ true = lt-ltb now.ms noted.until there.lives in
    let ends : alive now (e ∷ at.1) ≡ e ∷ alive now at.1 = rw lives refl in
    let split : alive now (table_of notes) ≡ alive now at.0 ++ e ∷ alive now at.1 =
    ap (alive now) at.2 ∙ filter-append (is_alive now) at.0 (e ∷ at.1) ∙ ap (λ xs. alive now at.0 ++ xs) ends in
    let others : All (λ x. is_of peer id x ≡ false) (alive now at.0) = All-filter (is_alive now) (λ x. is_of peer id x ≡ false) at.0 at.3 in
    ap (λ xs. option_map (λ entry. entry.noted) (find (is_of peer id) xs)) split
    ∙ ap (option_map (λ entry. entry.noted)) (find_at (is_of peer id) (alive now at.0) e (alive now at.1) others (of_itself e))

pub looked_there : (notes : List Note) (now : Moment) (peer : Peer) (id : ℕ) (noted : Remembered) → AreInOrder now notes
    → (looked now peer id (table_of notes) ≡ Some noted) ↔ IsThere notes now (record { peer = peer; id = id; noted = noted })
looked_there notes now peer id noted order = (there_from notes now peer id noted order, looked_from notes now peer id noted order)

-- ---- what is dead is not missed later

alive_later : (now later : Moment) (entries : List Entry) → now.ms ≤ later.ms → alive later (alive now entries) ≡ alive later entries
alive_later now later entries order = ap (filter (is_alive later)) (sym (filter_agree (λ e. is_alive now e && true) (is_alive now) (λ e. both_true (is_alive now e)) entries))
    ∙ filter_both (is_alive later) (is_alive now) (λ e. true) (lived now later order) entries ∙ filter_all (filter (is_alive later) entries)
  where
    both_true : (b : Bool) → (b && true) ≡ b
    both_true true = refl
    both_true false = refl

    filter_all : (xs : List Entry) → filter (λ e. true) xs ≡ xs
    filter_all [] = refl
    filter_all (x ∷ xs) = ap (λ ys. x ∷ ys) (filter_all xs)

pub looked_later : (now later : Moment) (peer : Peer) (id : ℕ) (entries : List Entry) → now.ms ≤ later.ms → looked later peer id (alive now entries) ≡ looked later peer id entries
looked_later now later peer id entries order = ap (λ xs. option_map (λ entry. entry.noted) (find (is_of peer id) xs)) (alive_later now later entries order)

pub noted_later : (now later : Moment) (peer : Peer) (id : ℕ) (noted : Remembered) (entries : List Entry) → now.ms ≤ later.ms
    → with_note later peer id noted (alive now entries) ≡ with_note later peer id noted entries
noted_later now later peer id noted entries order =
    ap (λ xs. drop (length xs + 1 - 64) xs ++ (record { peer = peer; id = id; noted = noted }) ∷ [])
    (staying_agrees later peer id (alive now entries) entries (alive_later now later entries order))
