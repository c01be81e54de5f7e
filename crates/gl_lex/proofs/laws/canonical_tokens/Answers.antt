use Rattle.gl_lex.proofs.Back.{canonical_is_lexed}
use Rattle.gl_lex.proofs.laws.canonical_tokens.Goals as goal

pub returns : goal.returns
returns c = canonical_is_lexed
