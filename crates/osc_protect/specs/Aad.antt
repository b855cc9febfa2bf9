-- The associated data of a request and of its response (RFC 8613 section 5.4).
use Rattle.std.specs.Prelude.{ℕ, List, []}
use Rattle.osc_model.specs.{algorithm_number}
use Rattle.osc_model.specs.declared.context.ContextName.{ContextName}
use Rattle.osc_cbor.specs.{unsigned, byte_string, array, no_items, item, spelling}
use Rattle.osc_cose.specs.{enc_structure}
use Rattle.osc_context.specs.{algorithm_of, partial_iv}

-- external_aad = [oscore_version, [alg_aead], request_kid, request_piv, options]: version 1, the client's ID and the Partial
-- IV of the request, and no class I options
unfoldable pub external_aad : ContextName → ℕ → List ℕ
external_aad name number =
    spelling (array (item (unsigned 1) (item (array (item (unsigned (algorithm_number (algorithm_of name))) no_items)) (item (byte_string name.client_id) (item (byte_string (partial_iv number)) (item (byte_string []) no_items))))))

-- the cipher's associated data: the protected header is empty
unfoldable pub aad_of : ContextName → ℕ → List ℕ
aad_of name number = enc_structure [] (external_aad name number)
