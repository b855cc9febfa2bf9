use Rattle.std.proofs.Common.{ℕ, List}
use Rattle.osc_aes.specs.{key_expansion}
use Rattle.osc_aes.proofs.KeyLaws.{next_round}
use Rattle.osc_aes.proofs.cipher.nine_rounds.Goals as goal

pub returns : goal.returns
returns c =
    let w : List ℕ = key_expansion c.args.keys.now.key in
    let s1 = next_round c.args.block w 0 _ _ _ c.round_to_1-state.ensures c.requires.round_1 c.first_state-state.ensures in
    let s2 = next_round c.args.block w 1 _ _ _ c.round_to_2-state.ensures c.requires.round_2 s1 in
    let s3 = next_round c.args.block w 2 _ _ _ c.round_to_3-state.ensures c.requires.round_3 s2 in
    let s4 = next_round c.args.block w 3 _ _ _ c.round_to_0-state.ensures c.requires.round_4 s3 in
    let s5 = next_round c.args.block w 4 _ _ _ c.round_to_1-state-2.ensures c.requires.round_5 s4 in
    let s6 = next_round c.args.block w 5 _ _ _ c.round_to_2-state-2.ensures c.requires.round_6 s5 in
    let s7 = next_round c.args.block w 6 _ _ _ c.round_to_3-state-2.ensures c.requires.round_7 s6 in
    let s8 = next_round c.args.block w 7 _ _ _ c.round_to_0-state-2.ensures c.requires.round_8 s7 in
    next_round c.args.block w 8 _ _ _ c.round_to_1.ensures c.requires.round_9 s8
