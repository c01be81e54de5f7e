use Rattle.gl_lex.proofs.Literals as whole
use Rattle.gl_lex.proofs.laws.one_text.Goals as goal

pub returns : goal.returns
returns c = λ bytes t u a b. whole.one_text bytes t u a b
