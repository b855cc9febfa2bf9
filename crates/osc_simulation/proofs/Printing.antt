-- Events and datagrams one after another: what is left prints after what was printed.
use Rattle.std.proofs.Common.{◌≡◌, ◌∙◌, ◌==◌, ap, if◌then◌else◌, sym, subst, refl, ℕ, ◌+◌, ◌<◌, drop, get_or, length, add-one, List, [], ◌∷◌, ◌++◌, append_assoc, append-nil, Bool, codes}
use Rattle.std.proofs.Math.Seq.{drop-cons}
use Rattle.osc_script.specs.declared.client_name.ClientName.{ClientName}
use Rattle.osc_world.specs.{State}
use Rattle.osc_world.specs.declared.log.Record.{Record}
use Rattle.osc_world.specs.declared.log.SentDatagram.{SentDatagram}
use Rattle.osc_simulation.specs.{line, words_before, PrintsSent, PrintAllSent, PrintsRecord, PrintAllRecords}

pub datagrams_more : (with_bytes : Bool) (number : ℕ) (left left-after : List SentDatagram) (d : SentDatagram) (text line : List ℕ) (P : List ℕ → Type 0)
    → left ≡ d ∷ left-after → PrintsSent with_bytes number d line
    → ((rest : List ℕ) → PrintAllSent with_bytes number left rest → P (text ++ rest))
    → (rest : List ℕ) → PrintAllSent with_bytes (number + 1) left-after rest → P ((text ++ line) ++ rest)
datagrams_more with_bytes number left left-after d text line P e printed h rest more =
    subst P (sym (append_assoc text line rest))
    (h (line ++ rest) (subst (λ ds. PrintAllSent with_bytes number ds (line ++ rest)) (sym e) (line, rest, printed, more, refl)))

pub datagrams_end : (with_bytes : Bool) (number : ℕ) (left : List SentDatagram) (text : List ℕ) (P : List ℕ → Type 0)
    → left ≡ [] → ((rest : List ℕ) → PrintAllSent with_bytes number left rest → P (text ++ rest)) → P text
datagrams_end with_bytes number left text P e h =
    subst P (append-nil text) (h [] (subst (λ ds. PrintAllSent with_bytes number ds []) (sym e) refl))

-- what is left at an event, whatever stands for one that isn't there
pub events_left : (events : List Record) (i : ℕ) (none : Record) → i < length events → drop i events ≡ get_or events i none ∷ drop (i + 1) events
events_left events i none lt = rw (add-one, drop-cons events i none lt) refl

pub events_more : (with_bytes : Bool) (clients : List ClientName) (world : State) (left left-after : List Record) (event : Record) (text printed : List ℕ) (P : List ℕ → Type 0)
    → left ≡ event ∷ left-after → PrintsRecord with_bytes clients world event printed
    → ((rest : List ℕ) → PrintAllRecords with_bytes clients world left rest → P (text ++ rest))
    → (rest : List ℕ) → PrintAllRecords with_bytes clients world left-after rest → P ((text ++ printed) ++ rest)
events_more with_bytes clients world left left-after event text printed P e prints h rest more =
    subst P (sym (append_assoc text printed rest))
    (h (printed ++ rest) (subst (λ es. PrintAllRecords with_bytes clients world es (printed ++ rest)) (sym e) (printed, rest, prints, more, refl)))

pub events_end : (with_bytes : Bool) (clients : List ClientName) (world : State) (left : List Record) (text : List ℕ) (P : List ℕ → Type 0)
    → left ≡ [] → ((rest : List ℕ) → PrintAllRecords with_bytes clients world left rest → P (text ++ rest)) → P text
events_end with_bytes clients world left text P e h =
    subst P (append-nil text) (h [] (subst (λ es. PrintAllRecords with_bytes clients world es []) (sym e) refl))

-- ---- the pieces of a line, one after the other

pub datagram_pieces : (n from to message bytes bytes-is : List ℕ) → bytes ≡ bytes-is
    → codes "sent " ++ (n ++ (codes " " ++ (from ++ (codes ">" ++ (to ++ (codes " " ++ (message ++ (bytes ++ 10 ∷ []))))))))
    ≡ line (codes "sent " ++ n ++ codes " " ++ from ++ codes ">" ++ to ++ codes " " ++ message ++ bytes-is)
datagram_pieces n from to message bytes bytes-is e = rw e (simp append_assoc)

pub served_pieces : (holder n code holder-is : List ℕ) → holder ≡ holder-is
    → codes "served " ++ (holder ++ (codes " " ++ (n ++ (codes " " ++ code)))) ≡ codes "served " ++ holder-is ++ codes " " ++ n ++ codes " " ++ code
served_pieces holder n code holder-is e = rw e (simp append_assoc)

pub alone_pieces : (client n code client-is : List ℕ) → client ≡ client-is
    → codes "alone " ++ (client ++ (codes " " ++ (n ++ (codes " " ++ (code ++ 10 ∷ []))))) ≡ line (codes "alone " ++ client-is ++ codes " " ++ n ++ codes " " ++ code)
alone_pieces client n code client-is e = rw e (simp append_assoc)

pub learnt_pieces : (client learnt client-is learnt-is : List ℕ) → client ≡ client-is → learnt ≡ learnt-is
    → client ++ (codes " " ++ (learnt ++ 10 ∷ [])) ≡ line (client-is ++ codes " " ++ learnt-is)
learnt_pieces client learnt client-is learnt-is e f = rw (e, f) (simp append_assoc)

pub answer_pieces : (code format payload format-is payload-is : List ℕ) → format ≡ format-is → payload ≡ payload-is
    → codes "answer " ++ (code ++ (codes " " ++ (format ++ (codes " " ++ payload)))) ≡ codes "answer " ++ code ++ codes " " ++ format-is ++ codes " " ++ payload-is
answer_pieces code format payload format-is payload-is e f = rw (e, f) (simp append_assoc)

-- ---- words before lines

behind_words : (text words : List ℕ) (byte : ℕ) (rest : List ℕ) → (text ++ words ++ byte ∷ []) ++ rest ≡ text ++ (words ++ byte ∷ rest)
behind_words text words byte rest = simp append_assoc

-- one byte more
pub byte_more : (words : List ℕ) (begins : Bool) (left left-after : List ℕ) (byte : ℕ) (text more whole : List ℕ)
    → left ≡ byte ∷ left-after → more ≡ text ++ (if begins then words else []) ++ byte ∷ [] → text ++ words_before words begins left ≡ whole
    → more ++ words_before words (byte == 10) left-after ≡ whole
byte_more words begins left left-after byte text more whole e grown so_far =
    let behind = words_before words (byte == 10) left-after in
    ap (λ bytes. bytes ++ behind) grown ∙ (behind_words text (if begins then words else []) byte behind ∙ (ap (λ bytes. text ++ words_before words begins bytes) (sym e) ∙ so_far))

-- what is left at a byte
pub bytes_left : (bytes : List ℕ) (i : ℕ) → i < length bytes → drop i bytes ≡ get_or bytes i 0 ∷ drop (i + 1) bytes
bytes_left bytes i lt = rw (add-one, drop-cons bytes i 0 lt) refl
