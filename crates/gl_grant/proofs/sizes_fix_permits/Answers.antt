use Rattle.std.proofs.Common.{ap, sym, ◌∙◌}
use Rattle.gl_calculus.specs.Evaluation.Oracle.{grant}
use Rattle.laws_calculus.proofs.Calculus.Proved.{only_grant_gives}
use Rattle.gl_grant.proofs.sizes_fix_permits.Goals as goal

pub returns : goal.returns
returns c = λ bound held v w o p same h k. only_grant_gives bound held v o h ∙ ap (grant bound held) same ∙ sym (only_grant_gives bound held w p k)
