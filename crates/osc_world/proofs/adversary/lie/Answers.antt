use Rattle.std.proofs.Common.{rules, ◌≡◌, ◌∙◌, true, Ok, Err, Some, None, Result, ap, sym}
use Rattle.std.specs.Result.{IfOk}
use Rattle.std.proofs.lemmas.Result.{IfOk-weaker}
use Rattle.osc_message.specs.{AreSendable}
use Rattle.osc_world.specs.{Lie, Lies, no_context, outside_of}
use Rattle.osc_world.proofs.Lies.{lie_told, lied, refusal_fits, refusal_kind}
use Rattle.osc_world.proofs.adversary.lie.Goals as goal

-- two facts of one result
both_ok : {T E : Type 0} (r : Result T E) (P Q : T → Type 0) → IfOk r P → IfOk r Q → IfOk r (λ x. P x × Q x)
both_ok (Ok x) P Q p q = (p, q)
both_ok (Err e) P Q p q = tt

pub returns-in-Some-clause-kind : goal.returns-in-Some-clause-kind
returns-in-Some-clause-kind g c =
    let lie : Lie = record { number = c.args.number; text = c.args.text.now } in
    let held : c.args.client.now.context ≡ Some c.in-Some.context.now = search rules in
    let hop : c.args.client.now.next_hop ≡ c.next_hop.result = sym c.next_hop.ensures in
    IfOk-weaker c.lie_under.result _ _
    (λ step it. lied g.A.Ciphers.is_sealing g.A.Ciphers.TAG c.args.client.now lie c.args.draw.now step c.requires (it c.args.client.now c.args.draw.now held hop c.outside-outside.ensures))
    c.lie_under.ensures.lied

pub returns-in-Some-clause-lied : goal.returns-in-Some-clause-lied
returns-in-Some-clause-lied g c =
    let lie : Lie = record { number = c.args.number; text = c.args.text.now } in
    let held : c.args.client.now.context ≡ Some c.in-Some.context.now = search rules in
    let hop : c.args.client.now.next_hop ≡ c.next_hop.result = sym c.next_hop.ensures in
    IfOk-weaker c.lie_under.result _ _
    (λ step both.
    let it = both.0 c.args.client.now c.args.draw.now held hop c.outside-outside.ensures in
    record {
      lies = it;
      told = λ now. lie_told g.A.Ciphers.is_sealing c.args.client.now now g.A.Ciphers.TAG lie c.args.draw.now step it;
      fits = both.1;
    })
    (both_ok c.lie_under.result _ (λ step. AreSendable step.out) c.lie_under.ensures.lied c.lie_under.ensures.fits)

pub returns-in-None-clause-kind : goal.returns-in-None-clause-kind
returns-in-None-clause-kind g c = rw c.refused.ensures (refusal_kind c.args.client.now 22)

pub returns-in-None-clause-lied : goal.returns-in-None-clause-lied
returns-in-None-clause-lied g c =
    let lie : Lie = record { number = c.args.number; text = c.args.text.now } in
    let none : c.args.client.now.context ≡ None = search rules in
    let it : Lies g.A.Ciphers.is_sealing g.A.Ciphers.TAG c.args.client.now lie c.args.draw.now c.refused.result = no_context none c.refused.ensures in
    record {
      lies = it;
      told = λ now. lie_told g.A.Ciphers.is_sealing c.args.client.now now g.A.Ciphers.TAG lie c.args.draw.now c.refused.result it;
      fits = refusal_fits c.refused.result 22 c.refused.ensures;
    }
