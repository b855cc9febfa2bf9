use Rattle.osc_aes.proofs.ByteLaws.{encrypt_block-bytes, length-encrypt_block}
use Rattle.osc_aes.proofs.laws.a_block_is_sixteen_bytes.Goals as goal

pub returns-clause-sixteen : goal.returns-clause-sixteen
returns-clause-sixteen c = length-encrypt_block

pub returns-clause-bytes : goal.returns-clause-bytes
returns-clause-bytes c = encrypt_block-bytes
