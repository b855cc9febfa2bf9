use Rattle.std.proofs.Common.{subst}
use Rattle.std.specs.declared.net.socket_addr.SocketAddrV4.{SocketAddrV4}
use Rattle.std.specs.Net.Grammar.{IsSocketV4Text}
use Rattle.osc_words.proofs.settings.OneAddress.{unparsed}
use Rattle.osc_words.proofs.settings.values.v4_address.Goals as goal

pub returns-in-Err : goal.returns-in-Err
returns-in-Err c = unparsed c.args.least c.args.text.now (subst (λ text. (a : SocketAddrV4) → ¬ IsSocketV4Text text a) c.as_bytes.ensures.value c.in-Err.ensures)
