-- What a run knows of a client whose number is raised.
use Rattle.std.proofs.Common.{◌≡◌, inl, inr, ℕ, max, Option, Some, None, option_map, refl, ap}
use Rattle.std.proofs.Math.Nat.{le-max_left}
use Rattle.osc_authz.specs.{ClientContextState}
use Rattle.osc_authz.specs.declared.granted.ClientDesk.{ClientDesk}
use Rattle.osc_run.specs.{IsSkipped, Outstanding}
use Rattle.osc_client.specs.Inner.Bounds.{HasContext, NeedsContext}
use Rattle.osc_client.specs.{core, outstanding, outstanding_of, raised_to, skipped_to}
use Rattle.osc_client.specs.State.{State}
use Rattle.osc_client.specs.declared.waiting.Awaited.TheVariants.{Exchange, Ask}
use Rattle.osc_client.specs.declared.waiting.Awaited.{Awaited}
use Rattle.osc_client.specs.declared.waiting.Waiting.{Waiting}

raised_outstanding_of : (number : ℕ) (context : ClientContextState) (what : Awaited) → outstanding_of (Some (raised_to number context)) what ≡ outstanding_of (Some context) what
raised_outstanding_of number context (Exchange begun) = refl
raised_outstanding_of number context (Ask ask) = refl

raised_outstanding : (number : ℕ) (context : ClientContextState) (waiting : Option Waiting) → outstanding (Some (raised_to number context)) waiting ≡ outstanding (Some context) waiting
raised_outstanding number context None = refl
raised_outstanding number context (Some waiting) = raised_outstanding_of number context waiting.what

skipped_by : (number : ℕ) (desk : ClientDesk) (context : Option ClientContextState) (waiting : Option Waiting)
    → IsSkipped (record { desk = desk; context = context; outstanding = outstanding context waiting })
    (record { desk = desk; context = option_map (raised_to number) context; outstanding = outstanding (option_map (raised_to number) context) waiting })
skipped_by number desk None waiting = inl refl
skipped_by number desk (Some context) waiting = inr (record {
  context = context;
  next = max context.next number;
  held = refl;
  above = le-max_left context.next number;
  is = ap (λ (o : Outstanding). record { desk = desk; context = Some (raised_to number context); outstanding = o }) (raised_outstanding number context waiting);
})

-- the number is raised, or nothing changes
pub skips : (number : ℕ) (state : State) → IsSkipped (core state) (core (skipped_to number state))
skips number state = skipped_by number state.desk state.context state.waiting

-- what waits has its context still
pub has_skipped : (number : ℕ) (context : Option ClientContextState) (waiting : Option Waiting) → HasContext context waiting → HasContext (option_map (raised_to number) context) waiting
has_skipped number context None has = tt
has_skipped number context (Some waiting) has = (needs context waiting.what has.0, has.1)
  where
    needs : (k : Option ClientContextState) (what : Awaited) → NeedsContext k what → NeedsContext (option_map (raised_to number) k) what
    needs k (Exchange begun) n = tt
    needs None (Ask ask) n = n
    needs (Some held) (Ask ask) n = λ e. let wrong : Some (raised_to number held) ≡ None = e in cc
