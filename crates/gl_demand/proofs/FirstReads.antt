-- The first reads of formulas by their kinds.
use Rattle.std.proofs.Common.{◌≡◌, ◌⊎◌, inl, inr, List, [], ◌∷◌, ◌++◌, drop, Result, Ok, Err, refl, ap, sym, subst, ◌∙◌}
use Rattle.std.specs.declared.alloc.Global.{Global}
use Rattle.std.specs.declared.boxed.Box.{Box}
use Rattle.std.specs.declared.rc.RcStr.{RcStr}
use Rattle.std.specs.declared.vec.Vec.{Vec}
use Rattle.gl_calculus.specs.Grid.Grid.{Addr, Range, addresses, single}
use Rattle.gl_calculus.specs.Values.Value.{Frame}
use Rattle.laws_calculus.proofs.Calculus.Proper.{addresses_single}
use Rattle.gl_plane.specs.declared.NoMemory.{NoMemory}
use Rattle.gl_ast.specs.View.{formula_tree, argument_trees, operand_trees, fun_tree}
use Rattle.gl_ast.specs.Forms.{formula_tree-At, formula_tree-Spill, formula_tree-Area, formula_tree-Neg, formula_tree-Chain, formula_tree-Compare, formula_tree-Call, formula_tree-Let}
use Rattle.gl_ast.specs.declared.Fun.{Fun}
use Rattle.gl_ast.specs.declared.Fun.TheVariants as fun
use Rattle.gl_ast.specs.declared.Level.{Level}
use Rattle.gl_ast.specs.declared.Op.{Op}
use Rattle.gl_ast.specs.declared.Formula.{Formula}
use Rattle.gl_ast.specs.declared.Formula.TheVariants as form
use Rattle.gl_machine.specs.Ahead.Demands.{first_reads, call_reads, begun_reads, argument_reads, operand_reads}
use Rattle.gl_demand.specs.Passing.{Stands, Passes}
use Rattle.gl_demand.specs.Walk.{Inputs}
use Rattle.gl_demand.specs.declared.lacking.Passing.{Passing}
use Rattle.gl_demand.specs.declared.own_reads.Way.{Way}

-- the same reads
pub passes_as : (w : Inputs) (e : Frame) (f g : List Addr → List Addr) (old : Way) (r : Result Passing NoMemory) (new : Way) → ((on : List Addr) → f on ≡ g on) → Passes w e g old r new → Passes w e f old r new
passes_as w e f g old (Ok p) new h a = λ all from on s. a all from on (subst (λ z. Stands w e all from (drop old.skip z) old.place) (h on) s)
passes_as w e f g old (Err n) new h a = tt

abbrev pub reads_of : Formula → List Addr → List Addr
reads_of f = first_reads (formula_tree f)

pub at_reads : (f : Formula) (a : Addr) → f ≡ form.At a → (on : List Addr) → reads_of f on ≡ addresses (single a) ++ on
at_reads f a i on = ap (λ x. reads_of x on) i ∙ ap (λ t. first_reads t on) (formula_tree-At a) ∙ ap (λ l. l ++ on) (sym (addresses_single a))

pub spill_reads : (f : Formula) (a : Addr) → f ≡ form.Spill a → (on : List Addr) → reads_of f on ≡ []
spill_reads f a i on = ap (λ x. reads_of x on) i ∙ ap (λ t. first_reads t on) (formula_tree-Spill a)

pub area_reads : (f : Formula) (r : Range) → f ≡ form.Area r → (on : List Addr) → reads_of f on ≡ addresses r ++ on
area_reads f r i on = ap (λ x. reads_of x on) i ∙ ap (λ t. first_reads t on) (formula_tree-Area r)

pub neg_reads : (f : Formula) (g : Box Formula Global) (h : Formula) → f ≡ form.Neg g → h ≡ g.value → (on : List Addr) → reads_of f on ≡ reads_of h on
neg_reads f g h i j on = ap (λ x. reads_of x on) i ∙ ap (λ t. first_reads t on) (formula_tree-Neg g) ∙ ap (λ x. reads_of x on) (sym j)

pub chain_reads : (f : Formula) (l : Level) (g : Box Formula Global) (rest : Vec (Op × Formula) Global) (h : Formula) (ys : List (Op × Formula)) → f ≡ form.Chain l g rest → h ≡ g.value → ys ≡ rest.items → (on : List Addr) → reads_of f on ≡ reads_of h (operand_reads (operand_trees ys) on)
chain_reads f l g rest h ys i j k on =
    ap (λ x. reads_of x on) i ∙ ap (λ t. first_reads t on) (formula_tree-Chain l g rest)
    ∙ ap (λ x. reads_of x (operand_reads (operand_trees rest.items) on)) (sym j) ∙ ap (λ z. reads_of h (operand_reads (operand_trees z) on)) (sym k)

pub compare_reads : (f : Formula) (o : Op) (g h : Box Formula Global) (x y : Formula) → f ≡ form.Compare o g h → x ≡ g.value → y ≡ h.value → (on : List Addr) → reads_of f on ≡ reads_of x (reads_of y on)
compare_reads f o g h x y i j k on =
    ap (λ z. reads_of z on) i ∙ ap (λ t. first_reads t on) (formula_tree-Compare o g h)
    ∙ ap (λ z. reads_of z (reads_of h.value on)) (sym j) ∙ ap (λ z. reads_of x (reads_of z on)) (sym k)

pub let_reads : (f : Formula) (name : RcStr Global) (g h : Box Formula Global) (x y : Formula) → f ≡ form.Let name g h → x ≡ g.value → y ≡ h.value → (on : List Addr) → reads_of f on ≡ reads_of x (reads_of y on)
let_reads f name g h x y i j k on =
    ap (λ z. reads_of z on) i ∙ ap (λ t. first_reads t on) (formula_tree-Let name g h)
    ∙ ap (λ z. reads_of z (reads_of h.value on)) (sym j) ∙ ap (λ z. reads_of x (reads_of z on)) (sym k)

-- what a call reads
abbrev pub call_parts : Fun → List Formula → List Addr → List Addr
call_parts f xs on = call_reads (fun_tree f) (begun_reads (argument_trees xs)) (argument_reads (argument_trees xs) on)

pub called_reads : (f : Formula) (g : Fun) (xs : Vec Formula Global) (ys : List Formula) → f ≡ form.Call g xs → ys ≡ xs.items → (on : List Addr) → reads_of f on ≡ call_parts g ys on
called_reads f g xs ys i j on = ap (λ x. reads_of x on) i ∙ ap (λ t. first_reads t on) (formula_tree-Call g xs) ∙ ap (λ z. call_parts g z on) (sym j)

-- the functions of which the first argument alone is surely evaluated
pub begun_call : (f : Fun) (xs : List Formula) → (f ≡ fun.If) ⊎ (f ≡ fun.IfError) ⊎ (f ≡ fun.Update) ⊎ (f ≡ fun.View) → (on : List Addr) → call_parts f xs on ≡ begun_reads (argument_trees xs)
begun_call f xs (inl i) on = ap (λ z. call_parts z xs on) i
begun_call f xs (inr (inl i)) on = ap (λ z. call_parts z xs on) i
begun_call f xs (inr (inr (inl i))) on = ap (λ z. call_parts z xs on) i
begun_call f xs (inr (inr (inr i))) on = ap (λ z. call_parts z xs on) i

-- the functions whose arguments are all evaluated
pub other_reads : (f : Fun) (xs : List Formula) → (f ≡ fun.If → ⊥) → (f ≡ fun.IfError → ⊥) → (f ≡ fun.Update → ⊥) → (f ≡ fun.View → ⊥) → (f ≡ fun.Sheet → ⊥) → (f ≡ fun.G → ⊥) → (on : List Addr) → call_parts f xs on ≡ argument_reads (argument_trees xs) on
other_reads fun.If xs a b c d i j on = absurd (a refl)
other_reads fun.IfError xs a b c d i j on = absurd (b refl)
other_reads fun.Update xs a b c d i j on = absurd (c refl)
other_reads fun.View xs a b c d i j on = absurd (d refl)
other_reads fun.Sheet xs a b c d i j on = absurd (i refl)
other_reads fun.G xs a b c d i j on = absurd (j refl)
other_reads f xs a b c d i j on = refl

-- the first of some arguments
pub begun_is : (xs rest : List Formula) (x : Formula) → xs ≡ x ∷ rest → begun_reads (argument_trees xs) ≡ reads_of x []
begun_is xs rest x i = ap (λ z. begun_reads (argument_trees z)) i
