use Rattle.gl_parse.proofs.Building.{row_utf8}
use Rattle.gl_parse.proofs.build.named.Goals as goal

pub returns-in_ok-from_str-in-Err : goal.returns-in_ok-from_str-in-Err
returns-in_ok-from_str-in-Err c = λ h. absurd (c.in-Err.ensures.cases.0 (row_utf8 c.args.letters.now h))
