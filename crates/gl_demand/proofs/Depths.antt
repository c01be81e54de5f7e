-- A formula is deeper than its arguments and its operands.
use Rattle.std.proofs.Common.{◌≡◌, ℕ, ◌<◌, ◌≤◌, List, length, get_or, rules, sym, subst, arith}
use denote.Param.Weighed.{most, at_most}
use Rattle.std.specs.declared.alloc.Global.{Global}
use Rattle.std.specs.declared.boxed.Box.{Box}
use Rattle.std.specs.declared.vec.Vec.{Vec}
use Rattle.gl_ast.proofs.Formula.TheLaws.{the_size}
use Rattle.gl_ast.specs.declared.Fun.{Fun}
use Rattle.gl_ast.specs.declared.Level.{Level}
use Rattle.gl_ast.specs.declared.Op.{Op}
use Rattle.gl_ast.specs.declared.Formula.{Formula, the_lemmas}
use Rattle.gl_ast.specs.declared.Formula.TheVariants as form

call_deeper : (g : Fun) (xs : Vec Formula Global) → most the_size xs.items < the_size (form.Call g xs)
call_deeper g xs = search (rules, the_lemmas)

chain_deeper : (l : Level) (g : Box Formula Global) (os : Vec (Op × Formula) Global) → most (λ o. the_size o.1) os.items < the_size (form.Chain l g os)
chain_deeper l g os = search (rules, the_lemmas)

pub arguments_below : (f : Formula) (g : Fun) (xs : Vec Formula Global) (ys : List Formula) → f ≡ form.Call g xs → ys ≡ xs.items → most the_size ys < the_size f
arguments_below f g xs ys i j = subst (λ l. most the_size l < the_size f) (sym j) (subst (λ z. most the_size xs.items < the_size z) (sym i) (call_deeper g xs))

pub operand_below : (f : Formula) (l : Level) (g : Box Formula Global) (os : Vec (Op × Formula) Global) (xs : List (Op × Formula)) (k : ℕ) (o : Op × Formula)
    → f ≡ form.Chain l g os → xs ≡ os.items → k < length xs → o ≡ get_or xs k o → the_size o.1 < the_size f
operand_below f l g os xs k o i j lt is =
    let low : the_size o.1 ≤ most (λ z. the_size z.1) xs = subst (λ z. the_size z.1 ≤ most (λ z. the_size z.1) xs) (sym is) (at_most (λ z. the_size z.1) xs k o lt) in
    let high : most (λ z. the_size z.1) xs < the_size f = subst (λ ys. most (λ z. the_size z.1) ys < the_size f) (sym j) (subst (λ z. most (λ z. the_size z.1) os.items < the_size z) (sym i) (chain_deeper l g os)) in
    omega (arith, low, high)
