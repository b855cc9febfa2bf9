-- COSE_Encrypt0 objects (RFC 9052 section 5.2), with the header parameters kid and IV.
use Rattle.std.specs.Prelude.{◌≡◌, ℕ, ◌==◌, if◌then◌else◌, List, [], Option, Some, None, option_map, codes}
use Rattle.osc_cbor.specs.{DataItem, unsigned, byte_string, text_string, array, map, tag, no_items, item, Pairs, no_pairs, pair, value_under, IsWhole, spelling}
use Rattle.osc_cose.specs.declared.encrypt0.Encrypt0.{Encrypt0}

-- ---- which bytes are which object

-- the protected header: empty, or a map (section 3)
pub data IsProtected (bytes : List ℕ) : Type 0 where
  empty : bytes ≡ [] → IsProtected bytes
  holds : (parameters : Pairs) → IsWhole bytes (map parameters) → IsProtected bytes

-- without the tag 16, which may be before the object (section 2)
abbrev pub untagged : DataItem → DataItem
untagged (tag n d) = if n == 16 then d else tag n d
untagged d = d

-- the item is this object: [protected, unprotected, ciphertext], where kid is label 4 and IV label 5 (section 3.1)
pub record IsObject (d : DataItem) (object : Encrypt0) : Type 0 where
  pub unprotected : Pairs
  pub whole : untagged d ≡ array (item (byte_string object.protected) (item (map unprotected) (item (byte_string object.ciphertext) no_items)))
  pub protected : IsProtected object.protected
  pub kid : value_under 4 unprotected ≡ option_map byte_string object.kid
  pub iv : value_under 5 unprotected ≡ option_map byte_string object.iv

-- a parameter of a header, where it is there, before the others
abbrev pub parameter : ℕ → Option (List ℕ) → Pairs → Pairs
parameter label None others = others
parameter label (Some bytes) others = pair (unsigned label) (byte_string bytes) others

-- the item of an object, without a tag and with no other parameters than kid and IV
abbrev pub object_item : Encrypt0 → DataItem
object_item object = array (item (byte_string object.protected) (item (map (parameter 4 object.kid (parameter 5 object.iv no_pairs))) (item (byte_string object.ciphertext) no_items)))

-- ---- how it is encrypted

-- Enc_structure = ["Encrypt0", protected, external_aad], the associated data of the cipher (section 5.3)
unfoldable pub enc_structure : List ℕ → List ℕ → List ℕ
enc_structure protected external_aad =
    spelling (array (item (text_string (codes "Encrypt0")) (item (byte_string protected) (item (byte_string external_aad) no_items))))

-- No other algorithm than AES-CCM-16-64-128, number 10, is named: the protected header is empty, or a map with 10 under
-- label 1 (section 3.1, RFC 9053 section 4.2).
pub data NamesAlgorithm (protected : List ℕ) : Type 0 where
  no_name : protected ≡ [] → NamesAlgorithm protected
  named : (parameters : Pairs) → IsWhole protected (map parameters) → value_under 1 parameters ≡ Some (unsigned 10) → NamesAlgorithm protected
