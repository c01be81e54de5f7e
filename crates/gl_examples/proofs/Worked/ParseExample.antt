-- One text read by the grammar: ` 1 + ( 2*3 )` is 1+2*3.
use Rattle.std.proofs.Common.{true, ◌≡◌, ℕ, ◌<◌, ◌^◌, List, [], ◌∷◌, refl, arith}
use Rattle.std.specs.Prelude.{codes}
use Rattle.gl_calculus.specs.Formulas.Formula as F
use Rattle.gl_language.specs.Reading.Token as T
use Rattle.gl_language.specs.Reading.Token.{Token, Integer, Signed, Spells, integer, signed, Lexes, no_more, space, token}
use Rattle.gl_language.specs.Reading.Grammar as G
use Rattle.gl_language.specs.Reading.Grammar.{Raw, IsExpr, IsChain, alone, chain, no_link, link, prod, unary, atom, number, parens, Parses}
use Rattle.gl_examples.proofs.Worked.Sheets.{int, plus, times}

abbrev tokens : List Token
tokens = Integer 1 ∷ Signed (T.Sign.Operator F.Op.Add) ∷ Signed T.Sign.LeftParen ∷ Integer 2 ∷ Signed (T.Sign.Operator F.Op.Mul) ∷ Integer 3 ∷ Signed T.Sign.RightParen ∷ []

-- a row of one digit
abbrev digit : (b : ℕ) → T.is_digit b ≡ true → T.digits_value (b ∷ []) < 2 ^ 63 → Spells (Integer (T.digits_value (b ∷ []))) (b ∷ [])
digit b d small = integer (omega arith, (d, tt)) small

lexes : Lexes (codes " 1 + ( 2*3 )") tokens
lexes =
    space (token (codes "1", refl, digit 49 refl (omega arith), refl)
    (space (token (codes "+", refl, signed, tt)
    (space (token (codes "(", refl, signed, tt)
    (space (token (codes "2", refl, digit 50 refl (omega arith), refl)
    (token (codes "*", refl, signed, tt)
    (token (codes "3", refl, digit 51 refl (omega arith), refl)
    (space (token (codes ")", refl, signed, tt) no_more)))))))))))

abbrev product : Raw
product = G.Raw.Chain F.Level.Prod (G.Raw.Number 2) (G.RawOperands.operand_and F.Op.Mul (G.Raw.Number 3) G.RawOperands.no_operand)

abbrev sum : Raw
sum = G.Raw.Chain F.Level.Sum (G.Raw.Number 1) (G.RawOperands.operand_and F.Op.Add product G.RawOperands.no_operand)

one_factor : (ts rest : G.Tokens) (f : Raw) → G.IsUnary ts f rest → IsChain F.Level.Prod ts f rest
one_factor ts rest f u = chain (unary u) no_link

one_term : (ts rest : G.Tokens) (f : Raw) → IsChain F.Level.Sum ts f rest → IsExpr ts f rest
one_term ts rest f c = alone (chain (G.sum c) no_link)

product_form : (rest : G.Tokens) → IsExpr (Integer 2 ∷ Signed (T.Sign.Operator F.Op.Mul) ∷ Integer 3 ∷ rest) product rest
product_form rest = one_term _ rest product (chain (prod (chain (unary (atom number)) (link refl (unary (atom number)) no_link))) no_link)

sum_form : IsExpr tokens sum []
sum_form = one_term _ [] sum (chain (prod (one_factor _ _ _ (atom number))) (link refl (prod (one_factor _ _ _ (atom (parens (product_form _))))) no_link))

canonical : Parses (codes " 1 + ( 2*3 )") (plus (int 1) (times (int 2) (int 3)))
canonical = record { short = omega arith; tokens = tokens; lexes = lexes; not_deep = refl; raw = sum; form = sum_form; no_fault = refl; is_tree = refl }
