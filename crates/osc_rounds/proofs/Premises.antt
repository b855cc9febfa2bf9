-- What is assumed of a run goes on over the steps of a round.
use Rattle.std.proofs.Common.{◌≡◌, ◌⊎◌, ◌∙◌, sym, ap, subst, refl, ℕ, List, [], ◌∷◌, ◌++◌, Option, Some, None, inl, inr, ⊎_elim}
use Rattle.osc_model.specs.{quiet}
use Rattle.osc_model.specs.StepNotes.{StepNotes}
use Rattle.osc_model.specs.declared.context.ContextName.{ContextName}
use Rattle.osc_model.specs.declared.context.Side.TheVariants as side
use Rattle.osc_model.specs.declared.node.Moment.{Moment}
use Rattle.osc_model.specs.declared.reply.Reply.{Reply}
use Rattle.osc_model.specs.declared.step.Note.{Note}
use Rattle.osc_token.specs.{token_note}
use Rattle.osc_authz.specs.SecurityContext.{SecurityContext}
use Rattle.osc_authz.specs.{In, IsLawfulContext}
use Rattle.osc_run.specs.{request_note, response_note, Noted, HasFreshDraws, IsDrawn, IsGenuine, IsGenuineOpening, IsMinted, IsVouched, opening_note, reply_note, Minted}
use Rattle.osc_run.specs.Premise.{Premise}
use Rattle.osc_options.specs.{reply_text}
use Rattle.osc_rounds.specs.{OpenedRequest, AreAmongQuiet, AreNotesOfExchange, AreNotesOfRequest, Draws}

nothing : {A : Type 0} (it : Option A) (one : A) → it ≡ None → it ≡ Some one → ⊥
nothing it one none some = let wrong : None ≡ Some one = sym none ∙ some in cc

-- ---- steps that noted nothing

-- each of these steps is one of all
among_all : (steps all old : List Noted) (step : Noted) → AreAmongQuiet steps all → In step (steps ++ old) → In step (all ++ old)
among_all steps [] old step is here = subst (λ (s : List Noted). In step (s ++ old)) is here
among_all steps (one ∷ all) old step (inl is) here = inr (among_all steps all old step is.1 here)
among_all steps (one ∷ all) old step (inr is) here =
    ⊎_elim
    (λ (same : step ≡ one). inl same)
    (λ (later : In step (is.0 ++ old)). inr (among_all is.0 all old step is.2 later))
    (subst (λ (s : List Noted). In step (s ++ old)) is.1 here)

-- and one of all is one of these, or noted nothing
quiet_or_among : (steps all old : List Noted) (step : Noted) → AreAmongQuiet steps all → In step (all ++ old) → (step.notes ≡ quiet) ⊎ In step (steps ++ old)
quiet_or_among steps [] old step is here = inr (subst (λ (s : List Noted). In step (s ++ old)) (sym is) here)
quiet_or_among steps (one ∷ all) old step (inl is) (inl same) = inl (ap (λ (s : Noted). s.notes) same ∙ is.0)
quiet_or_among steps (one ∷ all) old step (inl is) (inr later) = quiet_or_among steps all old step is.1 later
quiet_or_among steps (one ∷ all) old step (inr is) (inl same) = inr (subst (λ (s : List Noted). In step (s ++ old)) (sym is.1) (inl same))
quiet_or_among steps (one ∷ all) old step (inr is) (inr later) =
    ⊎_elim
    (λ (q : step.notes ≡ quiet). inl q)
    (λ (m : In step (is.0 ++ old)). inr (subst (λ (s : List Noted). In step (s ++ old)) (sym is.1) (inr m)))
    (quiet_or_among is.0 all old step is.2 later)

vouched_among : (steps all old : List Noted) (opening : Note) → AreAmongQuiet steps all → IsVouched (steps ++ old) opening → IsVouched (all ++ old) opening
vouched_among steps all old opening is v = record {
  step = v.step;
  noted = among_all steps all old v.step is v.noted;
  sealing = v.sealing;
  seal = v.seal;
  context = v.context;
  side = v.side;
  nonce = v.nonce;
  aad = v.aad;
  plaintext = v.plaintext;
}

genuine_among : (minted : List Minted) (steps all old : List Noted) → AreAmongQuiet steps all → IsGenuine minted (steps ++ old) → IsGenuine minted (all ++ old)
genuine_among minted steps [] old is g = subst (λ (s : List Noted). IsGenuine minted (s ++ old)) is g
genuine_among minted steps (one ∷ all) old (inl is) g = (
  (λ opening e. absurd (nothing one.notes.opens opening (ap (λ (n : StepNotes). n.opens) is.0) e)),
  genuine_among minted steps all old is.1 g,
)
genuine_among minted steps (one ∷ all) old (inr is) g =
    let first : IsGenuine minted (one ∷ (is.0 ++ old)) = subst (λ (s : List Noted). IsGenuine minted (s ++ old)) is.1 g in (
      (λ opening e.
          let it : IsGenuineOpening minted (is.0 ++ old) opening = first.0 opening e in
          record { token = it.token; message = λ isnt. vouched_among is.0 all old opening is.2 (it.message isnt) }),
      genuine_among minted is.0 all old is.2 first.1,
    )

drawn_among : (steps all old : List Noted) (nonce : List ℕ) → AreAmongQuiet steps all → IsDrawn (all ++ old) nonce → IsDrawn (steps ++ old) nonce
drawn_among steps all old nonce is drawn =
    ⊎_elim
    (λ (q : drawn.0.notes ≡ quiet). absurd (nothing drawn.0.notes.drawn nonce (ap (λ (n : StepNotes). n.drawn) q) drawn.2))
    (λ (m : In drawn.0 (steps ++ old)). (drawn.0, m, drawn.2))
    (quiet_or_among steps all old drawn.0 is drawn.1)

fresh_among : (steps all old : List Noted) → AreAmongQuiet steps all → HasFreshDraws (steps ++ old) → HasFreshDraws (all ++ old)
fresh_among steps [] old is f = subst (λ (s : List Noted). HasFreshDraws (s ++ old)) is f
fresh_among steps (one ∷ all) old (inl is) f = (
  (λ nonce e. absurd (nothing one.notes.drawn nonce (ap (λ (n : StepNotes). n.drawn) is.0) e)),
  fresh_among steps all old is.1 f,
)
fresh_among steps (one ∷ all) old (inr is) f =
    let first : HasFreshDraws (one ∷ (is.0 ++ old)) = subst (λ (s : List Noted). HasFreshDraws (s ++ old)) is.1 f in (
      (λ nonce e before. first.0 nonce e (drawn_among is.0 all old nonce is.2 before)),
      fresh_among is.0 all old is.2 first.1,
    )

-- the other way round: what holds of all holds of these
fresh_without : (steps all old : List Noted) → AreAmongQuiet steps all → HasFreshDraws (all ++ old) → HasFreshDraws (steps ++ old)
fresh_without steps [] old is f = subst (λ (s : List Noted). HasFreshDraws (s ++ old)) (sym is) f
fresh_without steps (one ∷ all) old (inl is) f = fresh_without steps all old is.1 f.1
fresh_without steps (one ∷ all) old (inr is) f =
    subst (λ (s : List Noted). HasFreshDraws (s ++ old)) (sym is.1) (
      (λ nonce e before. f.0 nonce e (before.0, among_all is.0 all old before.0 is.2 before.1, before.2)),
      fresh_without is.0 all old is.2 f.1,
    )

pub premise_among : (minted : List Minted) (steps all old : List Noted) → AreAmongQuiet steps all → Premise minted (steps ++ old) → Premise minted (all ++ old)
premise_among minted steps all old is p = record {
  genuine = genuine_among minted steps all old is p.genuine;
  fresh = fresh_among steps all old is p.fresh;
  separate = p.separate;
}

-- ---- what opens is genuine

other_side : side.Client ≡ side.Server → ⊥
other_side e = cc

opening_is : (minted : List Minted) (earlier : List Noted) (it : Option Note) (a b : Note) → it ≡ Some a → IsGenuineOpening minted earlier a → it ≡ Some b → IsGenuineOpening minted earlier b
opening_is minted earlier it a b is g e =
    let same : a ≡ b = one_of a b (sym is ∙ e) in
    subst (IsGenuineOpening minted earlier) same g
  where
    one_of : (x y : Note) → Some x ≡ Some y → x ≡ y
    one_of x y s = cc

no_byte : (bytes : List ℕ) (byte : ℕ) → bytes ≡ byte ∷ [] → bytes ≡ [] → ⊥
no_byte bytes byte some none = let wrong : [] ≡ byte ∷ [] = sym none ∙ some in cc

-- ---- a request

module _ (minted : List Minted) (old : List Noted) (now : Moment) (request : OpenedRequest) (reply : Reply) (asked served answered : Noted)
    (lawful : IsLawfulContext request.held) (notes : AreNotesOfRequest now request reply asked.notes served.notes answered.notes) where
  abbrev held : SecurityContext
  held = request.held

  abbrev number : ℕ
  number = request.number

  abbrev text : List ℕ
  text = request.text

  -- the server opens what the client sealed
  request_opens : IsGenuineOpening minted (asked ∷ old) (opening_note held.name number text)
  request_opens = record {
    token = λ is. absurd (no_byte held.name.client_id lawful.byte lawful.one_byte (ap (λ (c : ContextName). c.client_id) is.1));
    message = λ _. record {
      step = asked;
      noted = inl refl;
      sealing = request_note held.name number text;
      seal = ap (λ (n : StepNotes). n.seals) notes.asked_is;
      context = refl;
      side = other_side;
      nonce = refl;
      aad = refl;
      plaintext = refl;
    };
  }

  -- and the client what the server did
  reply_opens : IsGenuineOpening minted (served ∷ asked ∷ old) (response_note held.name number None (reply_text reply))
  reply_opens = record {
    token = λ is. absurd (other_side is.0);
    message = λ _. record {
      step = served;
      noted = inl refl;
      sealing = reply_note held.name number reply;
      seal = ap (λ (n : StepNotes). n.seals) notes.served_is;
      context = refl;
      side = λ same. other_side (sym same);
      nonce = refl;
      aad = refl;
      plaintext = refl;
    };
  }

  pub request_keeps : Premise minted old → Premise minted (answered ∷ served ∷ asked ∷ old)
  request_keeps p = record {
    genuine = (
      (λ opening e. opening_is minted (served ∷ asked ∷ old) answered.notes.opens (response_note held.name number None (reply_text reply)) opening (ap (λ (n : StepNotes). n.opens) notes.answered_is) reply_opens e),
      (
        (λ opening e. opening_is minted (asked ∷ old) served.notes.opens (opening_note held.name number text) opening (ap (λ (n : StepNotes). n.opens) notes.served_is) request_opens e),
        (
          (λ opening e. absurd (nothing asked.notes.opens opening (ap (λ (n : StepNotes). n.opens) notes.asked_is) e)),
          p.genuine,
        ),
      ),
    );
    fresh = (
      (λ nonce e. absurd (nothing answered.notes.drawn nonce (ap (λ (n : StepNotes). n.drawn) notes.answered_is) e)),
      (
        (λ nonce e. absurd (nothing served.notes.drawn nonce (ap (λ (n : StepNotes). n.drawn) notes.served_is) e)),
        (
          (λ nonce e. absurd (nothing asked.notes.drawn nonce (ap (λ (n : StepNotes). n.drawn) notes.asked_is) e)),
          p.fresh,
        ),
      ),
    );
    separate = p.separate;
  }

-- ---- an exchange

module _ (minted : List Minted) (old : List Noted) (key text : List ℕ) (draws : Draws) (begun agreed made : Noted)
    (is_minted : IsMinted minted text) (notes : AreNotesOfExchange key text draws begun.notes agreed.notes made.notes) where
  token_opens : IsGenuineOpening minted (begun ∷ old) (token_note key notes.agreed_is.protected notes.agreed_is.iv text)
  token_opens = record { token = λ _. is_minted; message = λ isnt. absurd (isnt (refl, refl)) }

  pub exchange_keeps : HasFreshDraws (made ∷ agreed ∷ begun ∷ old) → Premise minted old → Premise minted (made ∷ agreed ∷ begun ∷ old)
  exchange_keeps fresh p = record {
    genuine = (
      (λ opening e. absurd (nothing made.notes.opens opening (ap (λ (n : StepNotes). n.opens) notes.made_is) e)),
      (
        (λ opening e. opening_is minted (begun ∷ old) agreed.notes.opens (token_note key notes.agreed_is.protected notes.agreed_is.iv text) opening (ap (λ (n : StepNotes). n.opens) notes.agreed_is.is) token_opens e),
        (
          (λ opening e. absurd (nothing begun.notes.opens opening (ap (λ (n : StepNotes). n.opens) notes.begun_is) e)),
          p.genuine,
        ),
      ),
    );
    fresh = fresh;
    separate = p.separate;
  }

-- ---- with quiet steps between them

pub request_among : (minted : List Minted) (old all : List Noted) (now : Moment) (request : OpenedRequest) (reply : Reply) (asked served answered : Noted)
    → IsLawfulContext request.held → AreNotesOfRequest now request reply asked.notes served.notes answered.notes
    → AreAmongQuiet (answered ∷ served ∷ asked ∷ []) all → Premise minted old → Premise minted (all ++ old)
request_among minted old all now request reply asked served answered lawful notes among p =
    premise_among minted (answered ∷ served ∷ asked ∷ []) all old among (request_keeps minted old now request reply asked served answered lawful notes p)

pub exchange_among : (minted : List Minted) (old all : List Noted) (key text : List ℕ) (draws : Draws) (begun agreed made : Noted)
    → IsMinted minted text → AreNotesOfExchange key text draws begun.notes agreed.notes made.notes
    → AreAmongQuiet (made ∷ agreed ∷ begun ∷ []) all → HasFreshDraws (all ++ old) → Premise minted old → Premise minted (all ++ old)
exchange_among minted old all key text draws begun agreed made is_minted notes among fresh p =
    let steps = made ∷ agreed ∷ begun ∷ [] in
    premise_among minted steps all old among
    (exchange_keeps minted old key text draws begun agreed made is_minted notes (fresh_without steps all old among fresh) p)
