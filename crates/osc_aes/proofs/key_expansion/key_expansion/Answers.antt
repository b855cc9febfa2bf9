use Rattle.std.proofs.Common.{◌≡◌, ℕ, List, length, map, bit_xor, sym, refl, ap, ◌∙◌, rules, arith}
use Rattle.osc_aes.specs.{times_x, times_power, key_expansion}
use Rattle.osc_aes.specs.Inner.Tower.{byte_of}
use Rattle.osc_aes.specs.Inner.States.{with_constant, round_key}
use Rattle.osc_aes.proofs.KeyLaws.{forms_next, round_key-0}
use Rattle.osc_aes.proofs.key_expansion.key_expansion.Goals as goal

constant_0 : bit_xor (byte_of 0x2b) 0x63 ≡ times_power 0 1
unfolding byte_of times_x
constant_0 = refl

constant_1 : bit_xor (byte_of 0x71) 0x63 ≡ times_power 1 1
unfolding byte_of times_x
constant_1 = refl

constant_2 : bit_xor (byte_of 0xc3) 0x63 ≡ times_power 2 1
unfolding byte_of times_x
constant_2 = refl

constant_3 : bit_xor (byte_of 0x53) 0x63 ≡ times_power 3 1
unfolding byte_of times_x
constant_3 = refl

constant_4 : bit_xor (byte_of 0x16) 0x63 ≡ times_power 4 1
unfolding byte_of times_x
constant_4 = refl

constant_5 : bit_xor (byte_of 0x27) 0x63 ≡ times_power 5 1
unfolding byte_of times_x
constant_5 = refl

constant_6 : bit_xor (byte_of 0x26) 0x63 ≡ times_power 6 1
unfolding byte_of times_x
constant_6 = refl

constant_7 : bit_xor (byte_of 0xda) 0x63 ≡ times_power 7 1
unfolding byte_of times_x
constant_7 = refl

constant_8 : bit_xor (byte_of 0x44) 0x63 ≡ times_power 8 1
unfolding byte_of times_x
constant_8 = refl

constant_9 : bit_xor (byte_of 0xd8) 0x63 ≡ times_power 9 1
unfolding byte_of times_x
constant_9 = refl

kept : (turned forms key : List ℕ) → turned ≡ with_constant (map byte_of forms) → map byte_of forms ≡ key → turned ≡ with_constant key
kept turned forms key e h = e ∙ ap with_constant h

pub returns-clause-keys : goal.returns-clause-keys
returns-clause-keys c =
    let key : List ℕ = c.args.key.now in
    let long : length key ≡ 16 = search rules in
    let f0 : map byte_of c.forms.result ≡ round_key (key_expansion key) 0 = c.forms.ensures.bytes ∙ sym (round_key-0 key long) in
    let f1 = forms_next key 0 c.forms.result c.next_key-one.result 0x2b long (omega arith) constant_0 c.next_key-one.ensures f0 in
    let f2 = forms_next key 1 c.next_key-one.result c.next_key-two.result 0x71 long (omega arith) constant_1 c.next_key-two.ensures f1 in
    let f3 = forms_next key 2 c.next_key-two.result c.next_key-three.result 0xc3 long (omega arith) constant_2 c.next_key-three.ensures f2 in
    let f4 = forms_next key 3 c.next_key-three.result c.next_key-four.result 0x53 long (omega arith) constant_3 c.next_key-four.ensures f3 in
    let f5 = forms_next key 4 c.next_key-four.result c.next_key-five.result 0x16 long (omega arith) constant_4 c.next_key-five.ensures f4 in
    let f6 = forms_next key 5 c.next_key-five.result c.next_key-six.result 0x27 long (omega arith) constant_5 c.next_key-six.ensures f5 in
    let f7 = forms_next key 6 c.next_key-six.result c.next_key-seven.result 0x26 long (omega arith) constant_6 c.next_key-seven.ensures f6 in
    let f8 = forms_next key 7 c.next_key-seven.result c.next_key-eight.result 0xda long (omega arith) constant_7 c.next_key-eight.ensures f7 in
    let f9 = forms_next key 8 c.next_key-eight.result c.next_key-nine.result 0x44 long (omega arith) constant_8 c.next_key-nine.ensures f8 in
    let f10 = forms_next key 9 c.next_key-nine.result c.next_key-ten.result 0xd8 long (omega arith) constant_9 c.next_key-ten.ensures f9 in
    record {
      whole = long;
      round_1 = kept _ c.next_key-one.result _ c.turned_1.ensures f1;
      round_2 = kept _ c.next_key-two.result _ c.turned_2.ensures f2;
      round_3 = kept _ c.next_key-three.result _ c.turned_3.ensures f3;
      round_4 = kept _ c.next_key-four.result _ c.turned_0.ensures f4;
      round_5 = kept _ c.next_key-five.result _ c.turned_1-2.ensures f5;
      round_6 = kept _ c.next_key-six.result _ c.turned_2-2.ensures f6;
      round_7 = kept _ c.next_key-seven.result _ c.turned_3-2.ensures f7;
      round_8 = kept _ c.next_key-eight.result _ c.turned_0-2.ensures f8;
      round_9 = kept _ c.next_key-nine.result _ c.turned_1-3.ensures f9;
      last = kept _ c.next_key-ten.result _ c.last_key.ensures f10;
    }
