use Rattle.std.proofs.Common.{ℕ, List}
use Rattle.osc_aes.specs.{key_expansion}
use Rattle.osc_aes.proofs.KeyLaws.{next_round}
use Rattle.osc_aes.proofs.cipher.nine_rounds_of_two.Goals as goal

pub returns-clause-one : goal.returns-clause-one
returns-clause-one c =
    let w : List ℕ = key_expansion c.args.keys.now.key in
    let s1 = next_round c.args.one w 0 _ _ _ c.round_to_1-a.ensures c.requires.round_1 c.first_state-a.ensures in
    let s2 = next_round c.args.one w 1 _ _ _ c.round_to_2-a.ensures c.requires.round_2 s1 in
    let s3 = next_round c.args.one w 2 _ _ _ c.round_to_3-a.ensures c.requires.round_3 s2 in
    let s4 = next_round c.args.one w 3 _ _ _ c.round_to_0-a.ensures c.requires.round_4 s3 in
    let s5 = next_round c.args.one w 4 _ _ _ c.round_to_1-a-2.ensures c.requires.round_5 s4 in
    let s6 = next_round c.args.one w 5 _ _ _ c.round_to_2-a-2.ensures c.requires.round_6 s5 in
    let s7 = next_round c.args.one w 6 _ _ _ c.round_to_3-a-2.ensures c.requires.round_7 s6 in
    let s8 = next_round c.args.one w 7 _ _ _ c.round_to_0-a-2.ensures c.requires.round_8 s7 in
    next_round c.args.one w 8 _ _ _ c.round_to_1.ensures c.requires.round_9 s8

pub returns-clause-other : goal.returns-clause-other
returns-clause-other c =
    let w : List ℕ = key_expansion c.args.keys.now.key in
    let s1 = next_round c.args.other w 0 _ _ _ c.round_to_1-b.ensures c.requires.round_1 c.first_state-b.ensures in
    let s2 = next_round c.args.other w 1 _ _ _ c.round_to_2-b.ensures c.requires.round_2 s1 in
    let s3 = next_round c.args.other w 2 _ _ _ c.round_to_3-b.ensures c.requires.round_3 s2 in
    let s4 = next_round c.args.other w 3 _ _ _ c.round_to_0-b.ensures c.requires.round_4 s3 in
    let s5 = next_round c.args.other w 4 _ _ _ c.round_to_1-b-2.ensures c.requires.round_5 s4 in
    let s6 = next_round c.args.other w 5 _ _ _ c.round_to_2-b-2.ensures c.requires.round_6 s5 in
    let s7 = next_round c.args.other w 6 _ _ _ c.round_to_3-b-2.ensures c.requires.round_7 s6 in
    let s8 = next_round c.args.other w 7 _ _ _ c.round_to_0-b-2.ensures c.requires.round_8 s7 in
    next_round c.args.other w 8 _ _ _ c.round_to_1-2.ensures c.requires.round_9 s8
