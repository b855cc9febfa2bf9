use Rattle.std.proofs.Common.{◌≡◌, List, ℕ, ◌++◌, sym, ap, ◌∙◌, append_assoc}
use Rattle.std.proofs.lemmas.List.{append_cancel_left}
use Rattle.osc_cbor.specs.{byte_string, spelling}
use Rattle.osc_context.specs.{master_salt}
use Rattle.osc_context.proofs.SaltLemmas.{content_of}
use Rattle.osc_context.proofs.laws.one_master_salt.Goals as goal

pub returns : goal.returns
unfolding master_salt
returns c = λ salt nonce1 nonce2 other other1 other2 short short1 short2 least least1 least2 same.
    let one = c.one_item.ensures in
    let spells = c.what_is_written.ensures.spells in
    let first : List ℕ = spelling (byte_string salt) in
    let second : List ℕ = spelling (byte_string nonce1) in
    let third : List ℕ = spelling (byte_string nonce2) in
    let first' : List ℕ = spelling (byte_string other) in
    let second' : List ℕ = spelling (byte_string other1) in
    let third' : List ℕ = spelling (byte_string other2) in
    let whole : first ++ (second ++ third) ≡ first' ++ (second' ++ third') =
    sym (append_assoc first second third) ∙ same ∙ append_assoc first' second' third' in
    let a = one first first' (second ++ third) (second' ++ third') (byte_string salt) (byte_string other) (spells (byte_string salt) short) (spells (byte_string other) least) whole in
    let behind : second ++ third ≡ second' ++ third' =
    append_cancel_left first (second ++ third) (second' ++ third') (whole ∙ ap (λ (x : List ℕ). x ++ (second' ++ third')) (sym a.0)) in
    let b = one second second' third third' (byte_string nonce1) (byte_string other1) (spells (byte_string nonce1) short1) (spells (byte_string other1) least1) behind in
    let last : third ≡ third' = append_cancel_left second third third' (behind ∙ ap (λ (x : List ℕ). x ++ third') (sym b.0)) in
    let d = one third third' third third' (byte_string nonce2) (byte_string other2) (spells (byte_string nonce2) short2) (spells (byte_string other2) least2) (ap (λ (x : List ℕ). x ++ third) last ∙ ap (λ (x : List ℕ). third' ++ x) last) in
    (content_of salt other a.1, content_of nonce1 other1 b.1, content_of nonce2 other2 d.1)
