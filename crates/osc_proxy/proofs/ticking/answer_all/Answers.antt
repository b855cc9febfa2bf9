use Rattle.std.proofs.Common.{◌≡◌, ◌++◌, ℕ, Bool, true, not, [], Option, Some, None, is_some, refl, ap, sym, ◌∙◌, append-nil}
use Rattle.std.proofs.lemmas.Bool.{true≢false}
use Rattle.std.proofs.lemmas.List.Elements.{All-nil}
use Rattle.osc_model.specs.declared.step.Datagram.{Datagram}
use Rattle.osc_message.specs.{FitsDatagram}
use Rattle.osc_proxy.specs.{first_key, is_over}
use Rattle.osc_proxy.specs.Ticks.AllEnd.{none_is}
use Rattle.osc_proxy.proofs.ticking.answer_all.Goals as goal

nothing_found : (found : Option ℕ) (told : Bool) → is_some found ≡ not told → told ≡ true → found ≡ None
nothing_found None told is none = refl
nothing_found (Some key) told is none = absurd (true≢false (is ∙ ap not none))

pub returns-in-Ok : goal.returns-in-Ok
returns-in-Ok c =
    let done = c.all_end.ensures in
    (done.0, done.0, c.from_vec.ensures ∙ done.1 ∙ ap (λ xs. xs ++ done.0) c.in-Ok.ensures.ok.0, refl, done.2, done.3)

pub returns-in-Err : goal.returns-in-Err
returns-in-Err c =
    let done = c.all_end-in-Err.ensures in
    (done.0, [], c.in-Err.ensures.err ∙ sym (append-nil _), refl, done.2, done.3)

pub returns-then-is_none : goal.returns-then-is_none
returns-then-is_none c =
    let none : first_key (is_over c.args.tick.at c.args.tick.given_up.now) c.args.exchanges.now ≡ None =
    sym c.find_over.ensures ∙ nothing_found c.find_over.result c.is_none.result c.is_none.ensures c.if-is_none.true in (
      [],
      [],
      sym (append-nil c.args.out),
      refl,
      λ targets. none_is (record { targets = targets; exchanges = c.args.exchanges.now; endpoint = c.args.endpoint.now }) none,
      All-nil (λ (sent : Datagram). FitsDatagram sent.bytes),
    )
