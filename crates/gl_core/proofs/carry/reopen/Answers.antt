use Rattle.std.proofs.Common.{◌≡◌, arith}
use Rattle.std.proofs.lemmas.Grind.{elements}
use Rattle.gl_core.proofs.carry.reopen.Goals as goal
