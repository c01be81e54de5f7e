-- The end of the tokens.
use Rattle.std.proofs.Common.{◌≡◌, ℕ, false, refl, List, [], ◌∷◌, length, arith}
use Rattle.gl_language.specs.Texts.Text.{Bytes}
use Rattle.gl_language.specs.Reading.Grammar.{is_deep_from}
use Rattle.gl_lex.specs.declared.Token.{Token}
use Rattle.gl_lex.specs.View.{tokens_in}

pub deep_end : (text : Bytes) (ts : List Token) (open_parens minus : ℕ) → length ts ≡ 0 → is_deep_from open_parens minus (tokens_in text ts) ≡ false
deep_end text [] n m h = refl
deep_end text (t ∷ ts) n m h = absurd (omega arith)

pub ruleset deep_rules = deep_end
