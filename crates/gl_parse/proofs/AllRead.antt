-- A whole list of tokens.
use Rattle.std.proofs.Common.{◌≡◌, ◌<◌, List, [], ◌∷◌, length, subst, sym, refl, arith}
use Rattle.gl_language.specs.Texts.Text.{Bytes}
use Rattle.gl_language.specs.Reading.Grammar.{Tokens, Raw, IsExpr}
use Rattle.gl_lex.specs.declared.Token.{Token}
use Rattle.gl_lex.specs.View.{tokens_in}
use Rattle.gl_parse.specs.Reading.{Only, Never}

pub whole_tree : {ts us : Tokens} {t : Raw} → Only IsExpr 1 ts t us → us ≡ [] → IsExpr ts t [] × ((u : Raw) → IsExpr ts u [] → u ≡ t)
whole_tree {ts} {us} {t} one h = (subst (λ z. IsExpr ts t z) h one.reads, λ u r. (one.only u [] r tt).0)

pub whole_rest : {ts us : Tokens} {t : Raw} → Only IsExpr 1 ts t us → (us ≡ [] → ⊥) → (u : Raw) → IsExpr ts u [] → ⊥
whole_rest one h u r = let p = one.only u [] r tt in absurd (h (sym p.1))

pub whole_never : {ts : Tokens} → Never IsExpr 1 ts → (u : Raw) → IsExpr ts u [] → ⊥
whole_never n u r = n.never u [] r tt

pub none_left : (text : Bytes) (ts : List Token) → length ts ≡ 0 → tokens_in text ts ≡ []
none_left text [] h = refl
none_left text (t ∷ ts) h = absurd (omega arith)

pub some_left : (text : Bytes) (ts : List Token) → 0 < length ts → tokens_in text ts ≡ [] → ⊥
some_left text [] h e = omega arith
some_left text (t ∷ ts) h e = cc

pub ruleset whole_rules = (whole_tree, whole_rest, whole_never, none_left, some_left)
