use Rattle.std.proofs.Common.{◌≡◌, ◌<◌, ◌-◌, length, take, drop, min, fold, ap, sym, ◌∙◌, arith}
use Rattle.std.proofs.lemmas.List.{take_rest, drop_min}
use Rattle.std.proofs.lemmas.Bool.Decides.{nat_tests}
use Rattle.osc_ccm.specs.{blocks, mac_step}
use Rattle.osc_ccm.proofs.BlockLemmas.{aad_blocks-cons}
use Rattle.osc_ccm.proofs.mac.absorb_aad_and_stream.Goals as goal

pub returns-clause-state : goal.returns-clause-state
returns-clause-state c =
    let key = c.args.cipher.now in
    let state = c.args.state.now in
    let aad = c.args.aad.now in
    let n = c.min.result in
    let some : 0 < length aad = grind (arith, nat_tests) in
    let order : n ≡ min 14 (length aad) = omega arith in
    let rest : take (length aad - n) (drop n aad) ≡ drop 14 aad = take_rest aad n ∙ ap (λ k. drop k aad) order ∙ drop_min 14 aad in
    c.absorb.ensures
    ∙ ap (λ l. fold (mac_step key) c.step_and_stream-key.new.state (blocks l)) rest
    ∙ ap (λ s. fold (mac_step key) s (blocks (drop 14 aad))) (c.step_and_stream-key.ensures.state ∙ ap (mac_step key state) c.first_of_aad.ensures)
    ∙ ap (fold (mac_step key) state) (sym (aad_blocks-cons aad some))
