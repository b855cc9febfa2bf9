-- What a client's desk does is what the kinds of step name.
use Rattle.std.proofs.Common.{◌≡◌, ℕ, List, length, Some, Result, Ok, refl, arith, length-take}
use Rattle.osc_model.specs.{nonce_drawn, quiet}
use Rattle.osc_model.specs.declared.code.Code.{Code}
use Rattle.osc_model.specs.declared.node.Draw.{Draw}
use Rattle.osc_model.specs.declared.step.ClientResult.TheVariants as result
use Rattle.osc_authz.specs.{ClientContextState, Finishes, offered_id}
use Rattle.osc_authz.specs.Begun.{Begun}
use Rattle.osc_authz.specs.declared.error.FinishError.{FinishError}
use Rattle.osc_run.specs.{ClientState, Exchange, Nothing, IsStarted, IsMade}

-- an exchange that is begun
pub begins : (draw : Draw) (old : ClientState) → length draw.0 ≡ 32 → old.outstanding ≡ Nothing
    → IsStarted old (record quiet { drawn = Some (nonce_drawn draw) }) (record old { outstanding = Exchange (record { nonce1 = nonce_drawn draw; recipient_id = offered_id old.context }) })
begins draw old size waits = record {
  begun = record { nonce1 = nonce_drawn draw; recipient_id = offered_id old.context };
  size = omega (arith, size, length-take 8 draw.0);
  offered = refl;
  noted = refl;
  before = waits;
  is = refl;
}

abbrev ok_made : ClientContextState → Result ClientContextState FinishError
ok_made made = Ok made

one_made : (a b : ClientContextState) → ok_made a ≡ ok_made b → a ≡ b
one_made a b e = cc

-- an exchange that makes a context
pub finishes : (begun : Begun) (came : Code) (payload : List ℕ) (made : ClientContextState) (old : ClientState)
    → old.outstanding ≡ Exchange begun → Finishes old.desk begun came payload (Ok made)
    → IsMade old (record quiet { result = Some result.Made }) (record old { context = Some made; outstanding = Nothing })
finishes begun came payload made old waits (Finishes.another_code other e) = absurd (cc)
finishes begun came payload made old waits (Finishes.no_answer code none e) = absurd (cc)
finishes begun came payload made old waits (Finishes.equal_ids nonce2 code is e) = absurd (cc)
finishes begun came payload made old waits (Finishes.made nonce2 server_id code is apart e) =
    let made_is = one_made made _ e in
    record {
      begun = begun;
      nonce2 = nonce2;
      size = is.nonce2_size;
      server_id = server_id;
      short = is.id_size;
      apart = apart;
      noted = refl;
      before = waits;
      is = λ i. record old { context = Some (made_is i); outstanding = Nothing };
    }
