use Rattle.std.proofs.Common.{◌≡◌, refl, length, ◌∙◌}
use Rattle.std.proofs.lemmas.List.{length-set}
use Rattle.gl_core.proofs.carry.clear_lists.Goals as goal
