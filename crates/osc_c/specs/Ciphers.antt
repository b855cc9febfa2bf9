-- The ciphers of both algorithms (RFC 9053 section 4.2): AES-CCM, with a tag of 8 bytes or of 16.
use Rattle.osc_ccm.specs.{IsSealing, Sealing, Sealings, Tags, chosen_sealing, chosen_tag}

abbrev pub short_tag : Sealing
short_tag key nonce aad text sealed = IsSealing key 8 nonce aad text sealed

abbrev pub long_tag : Sealing
long_tag key nonce aad text sealed = IsSealing key 16 nonce aad text sealed

abbrev pub sealing : Sealings
sealing = chosen_sealing short_tag long_tag

abbrev pub tags : Tags
tags = chosen_tag 8 16
