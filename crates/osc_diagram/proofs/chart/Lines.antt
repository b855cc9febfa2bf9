-- The pieces of a line of keys and of what a message is, one after the other.
use Rattle.std.proofs.Common.{◌≡◌, ℕ, List, ◌++◌, codes, append_assoc}
use Rattle.hex.specs.Hex.{encode_lower}
use Rattle.osc_diagram.specs.Chart.Keys.{pair}

pub pair_pieces : (a b x y : List ℕ) → a ≡ encode_lower x → b ≡ encode_lower y → codes "\"" ++ (a ++ (codes "\",\"" ++ (b ++ codes "\""))) ≡ pair x y
pair_pieces a b x y e f = rw (e, f) (simp append_assoc)

pub values_pieces : (ids secrets context ids-is secrets-is context-is : List ℕ) → ids ≡ ids-is → secrets ≡ secrets-is → context ≡ context-is
    → ids ++ (codes "," ++ (secrets ++ (codes ",\"" ++ (context ++ codes "\",\"AES-CCM-16-64-128 (CCM*)\"\n"))))
    ≡ ids-is ++ codes "," ++ secrets-is ++ codes ",\"" ++ context-is ++ codes "\",\"AES-CCM-16-64-128 (CCM*)\"\n"
values_pieces ids secrets context ids-is secrets-is context-is e f g = rw (e, f, g) (simp append_assoc)

pub message_pieces : (kind code id token oscore kind-is code-is id-is token-is oscore-is : List ℕ) → kind ≡ kind-is → code ≡ code-is → id ≡ id-is → token ≡ token-is → oscore ≡ oscore-is
    → kind ++ (codes " " ++ (code ++ (codes " id " ++ (id ++ (token ++ oscore)))))
    ≡ kind-is ++ codes " " ++ code-is ++ codes " id " ++ id-is ++ token-is ++ oscore-is
message_pieces kind code id token oscore kind-is code-is id-is token-is oscore-is e f g h k = rw (e, f, g, h, k) (simp append_assoc)
