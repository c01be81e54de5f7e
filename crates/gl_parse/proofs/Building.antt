-- A form and the formula that is built of it.
use Rattle.std.proofs.Common.{◌≡◌, ℕ, ◌+◌, ◌^◌, ◌<◌, ◌≤◌, ℤ, pos, negsuc, Bool, IsTrue, List, [], ◌∷◌, ◌++◌, drop, length, get_or, ap, sym, subst, ◌∙◌, refl, arith}
use Rattle.std.specs.Prelude.{Option, Result, Ok, IfOk, zero, suc}
use Rattle.std.specs.List.{AllByRecursion}
use Rattle.std.specs.Str.{IsAscii, IsUtf8}
use Rattle.std.specs.Rc.{rc_str_bytes}
use Rattle.std.proofs.lemmas.Str.{IsUtf8-from_ascii}
use Rattle.std.proofs.lemmas.List.{at_drop_more, at_drop_all}
use Rattle.std.specs.declared.alloc.Global.{Global}
use Rattle.std.specs.declared.boxed.Box.{Box}
use Rattle.std.specs.declared.vec.Vec.{Vec}
use Rattle.std.specs.declared.rc.RcStr.{RcStr}
use Rattle.gl_calculus.specs.Grid.Grid.{Addr, range}
use Rattle.gl_calculus.specs.Formulas.Formula as F
use Rattle.gl_language.specs.Texts.Text.{Bytes}
use Rattle.gl_language.specs.Reading.Token.{IsRow, is_lower}
use Rattle.gl_language.specs.Reading.Grammar.{tree, trees, operand_trees, call_of, function_of}
use Rattle.gl_language.specs.Reading.Grammar as G
use Rattle.gl_lex.specs.View.{number}
use Rattle.gl_plane.specs.declared.NoMemory.{NoMemory}
use Rattle.gl_ast.specs.declared.Level.{Level}
use Rattle.gl_ast.specs.declared.Op.{Op}
use Rattle.gl_ast.specs.declared.Fun.{Fun}
use Rattle.gl_ast.specs.declared.Formula.{Formula}
use Rattle.gl_ast.specs.declared.Formula.TheVariants as f
use Rattle.gl_ast.specs.View.{formula_tree, argument_trees, level_tree, op_tree, fun_tree}
use Rattle.gl_ast.specs.View as ast
use Rattle.gl_ast.specs.Forms.{formula_tree-Int, formula_tree-Bool, formula_tree-At, formula_tree-Spill, formula_tree-Neg, formula_tree-Chain, formula_tree-Compare, formula_tree-Call, formula_tree-Let}
use Rattle.gl_parse.specs.declared.raw.Span.{Span}
use Rattle.gl_parse.specs.declared.raw.Raw.{Raw}
use Rattle.gl_parse.specs.declared.raw.Raw.TheVariants as r
use Rattle.gl_parse.specs.Raws.{raw_tree, letters, links, raws_of, pairs, plains}
use Rattle.gl_parse.specs.Faults.{IsSpelled, AreSpelled, AreSpelledOperands, InOrder}
use Rattle.gl_parse.proofs.Forms.{tree-Number, tree-Text, tree-Bool, tree-At, tree-Spill, tree-Corners, tree-Var, tree-Neg, tree-Chain, tree-Compare, tree-Let, tree-Apply}

-- ---- letters

lower_ascii : (b : ℕ) → IsTrue (is_lower b) → b < 128
lower_ascii b h = grind (arith)

row_ascii : (bs : Bytes) → AllByRecursion (λ b. IsTrue (is_lower b)) bs → IsAscii bs
row_ascii [] h i = omega arith
row_ascii (b ∷ bs) h zero = lower_ascii b h.0
row_ascii (b ∷ bs) h (suc i) = row_ascii bs h.1 i

pub row_utf8 : (bs : Bytes) → IsRow is_lower bs → IsUtf8 bs
row_utf8 bs h = IsUtf8-from_ascii bs (row_ascii bs h.1)

pub not_row : (bs : Bytes) → (IsUtf8 bs → ⊥) → IsRow is_lower bs → ⊥
not_row bs n h = n (row_utf8 bs h)

pub ruleset letter_rules = (row_utf8, not_row)

-- ---- leaves

abbrev pub IsBuilt : Bytes → Raw → Formula → Type 0
IsBuilt text raw g = IsSpelled InOrder (raw_tree text raw) → formula_tree g ≡ tree (raw_tree text raw)

number_is : (n : ℤ) → number n < 2 ^ 63 → n ≡ pos (number n)
number_is (pos n) h = refl
number_is (negsuc n) h = absurd (omega arith)

-- the formula that a function answers for this tree
abbrev pub Gives : G.Raw → Result Formula NoMemory → Type 0
Gives t x = IsSpelled InOrder t → IfOk x (λ g. formula_tree g ≡ tree t)

-- what is answered for a form, by its variant
gives : (text : Bytes) (raw : Raw) (t : G.Raw) (x : Result Formula NoMemory) → raw_tree text raw ≡ t → Gives t x → Gives (raw_tree text raw) x
gives text raw t x e h = subst (λ z. Gives z x) (sym e) h

module _ (text : Bytes) (raw : Raw) where
  pub built_number : (n : ℤ) → raw ≡ r.Number n → IsBuilt text raw (f.Int n)
  built_number n e = gives text raw _ (Ok (f.Int n)) (ap (raw_tree text) e ∙ tree-Number text n) (λ s. formula_tree-Int n ∙ ap F.Formula.Int (number_is n s))

  pub built_text : (t : RcStr Global) (x : Result Formula NoMemory) → raw ≡ r.Text t → IfOk x (λ g. formula_tree g ≡ F.Formula.Text (rc_str_bytes t)) → Gives (raw_tree text raw) x
  built_text t x e h = gives text raw _ x (ap (raw_tree text) e ∙ tree-Text text t) (λ s. h)

  pub built_bool : (b : Bool) → raw ≡ r.Bool b → IsBuilt text raw (f.Bool b)
  built_bool b e = gives text raw _ (Ok (f.Bool b)) (ap (raw_tree text) e ∙ tree-Bool text b) (λ s. formula_tree-Bool b)

  pub built_at : (a : Addr) → raw ≡ r.At a → IsBuilt text raw (f.At a)
  built_at a e = gives text raw _ (Ok (f.At a)) (ap (raw_tree text) e ∙ tree-At text a) (λ s. formula_tree-At a)

  pub built_spill : (a : Addr) → raw ≡ r.Spill a → IsBuilt text raw (f.Spill a)
  built_spill a e = gives text raw _ (Ok (f.Spill a)) (ap (raw_tree text) e ∙ tree-Spill text a) (λ s. formula_tree-Spill a)

  pub built_corners : (a b : Addr) (g : Formula) → raw ≡ r.Corners a b → (InOrder a b → formula_tree g ≡ F.Formula.Area (range a b)) → IsBuilt text raw g
  built_corners a b g e h = gives text raw _ (Ok g) (ap (raw_tree text) e ∙ tree-Corners text a b) (λ s. h s.2)

  pub built_var : (v : Span) (bs : Bytes) (x : Result Formula NoMemory) → raw ≡ r.Var v → bs ≡ letters text v → (IsRow is_lower bs → IfOk x (λ g. formula_tree g ≡ F.Formula.Var bs)) → Gives (raw_tree text raw) x
  built_var v bs x e m h = gives text raw _ x (ap (raw_tree text) e ∙ tree-Var text v) (subst (λ z. IsRow is_lower z → IfOk x (λ g. formula_tree g ≡ F.Formula.Var z)) m h)

  pub built_neg : (x : Box Raw Global) (y : Raw) (b : Box Formula Global) → raw ≡ r.Neg x → y ≡ x.value → IsBuilt text y b.value → IsBuilt text raw (f.Neg b)
  built_neg x y b e m h = let i = subst (λ z. IsBuilt text z b.value) m h in gives text raw _ (Ok (f.Neg b)) (ap (raw_tree text) e ∙ tree-Neg text x) (λ s. formula_tree-Neg b ∙ ap F.Formula.Neg (i s))

  pub built_compare : (o : Op) (x y : Box Raw Global) (u v : Raw) (b c : Box Formula Global) → raw ≡ r.Compare o x y → u ≡ x.value → v ≡ y.value → IsBuilt text u b.value → IsBuilt text v c.value → IsBuilt text raw (f.Compare o b c)
  built_compare o x y u v b c e m n h k =
      let i = subst (λ z. IsBuilt text z b.value) m h in
      let j = subst (λ z. IsBuilt text z c.value) n k in
      gives text raw _ (Ok (f.Compare o b c)) (ap (raw_tree text) e ∙ tree-Compare text o x y)
      (λ s. formula_tree-Compare o b c ∙ ap (λ z. F.Formula.Compare (op_tree o) z (formula_tree c.value)) (i s.0) ∙ ap (F.Formula.Compare (op_tree o) (tree (raw_tree text x.value))) (j s.1))

  pub built_chain : (l : Level) (x : Box Raw Global) (v : Vec (Op × Raw) Global) (u : Raw) (xs : List (Op × Raw)) (b : Box Formula Global) (w : Vec (Op × Formula) Global) → raw ≡ r.Chain l x v → u ≡ x.value → xs ≡ v.items → IsBuilt text u b.value → (AreSpelledOperands InOrder (links (pairs text xs)) → ast.operand_trees w.items ≡ operand_trees (links (pairs text xs))) → IsBuilt text raw (f.Chain l b w)
  built_chain l x v u xs b w e m n h k =
      let i = subst (λ z. IsBuilt text z b.value) m h in
      let j = subst (λ z. AreSpelledOperands InOrder (links (pairs text z)) → ast.operand_trees w.items ≡ operand_trees (links (pairs text z))) n k in
      gives text raw _ (Ok (f.Chain l b w)) (ap (raw_tree text) e ∙ tree-Chain text l x v)
      (λ s. formula_tree-Chain l b w ∙ ap (λ z. F.Formula.Chain (level_tree l) z (ast.operand_trees w.items)) (i s.0) ∙ ap (F.Formula.Chain (level_tree l) (tree (raw_tree text x.value))) (j s.1))

  pub built_let : (name : Span) (x y : Box Raw Global) (ws : Bytes) (letter : RcStr Global) (u v : Raw) (b c : Box Formula Global) → raw ≡ r.Let name x y → ws ≡ letters text name → u ≡ x.value → v ≡ y.value → (IsRow is_lower ws → rc_str_bytes letter ≡ ws) → IsBuilt text u b.value → IsBuilt text v c.value → IsBuilt text raw (f.Let letter b c)
  built_let name x y ws letter u v b c e w m n g h k =
      let l : IsRow is_lower (letters text name) → rc_str_bytes letter ≡ letters text name = subst (λ z. IsRow is_lower z → rc_str_bytes letter ≡ z) w g in
      let i = subst (λ z. IsBuilt text z b.value) m h in
      let j = subst (λ z. IsBuilt text z c.value) n k in
      gives text raw _ (Ok (f.Let letter b c)) (ap (raw_tree text) e ∙ tree-Let text name x y)
      (λ s. formula_tree-Let letter b c ∙ ap (λ z. F.Formula.Let z (formula_tree b.value) (formula_tree c.value)) (l s.0) ∙ ap (λ z. F.Formula.Let (letters text name) z (formula_tree c.value)) (i s.1) ∙ ap (F.Formula.Let (letters text name) (tree (raw_tree text x.value))) (j s.2))

  pub built_apply : (word : Span) (v : Vec Raw Global) (ws : Bytes) (xs : List Raw) (x : Result Formula NoMemory) → raw ≡ r.Apply word v → ws ≡ letters text word → xs ≡ v.items → (AreSpelled InOrder (raws_of (plains text xs)) → IfOk x (λ g. formula_tree g ≡ call_of (function_of ws) (trees (raws_of (plains text xs))))) → Gives (raw_tree text raw) x
  built_apply word v ws xs x e m n h =
      gives text raw _ x (ap (raw_tree text) e ∙ tree-Apply text word v)
      (subst (λ z. Gives (G.Raw.Apply (letters text word) (raws_of (plains text z))) x) n (subst (λ z. Gives (G.Raw.Apply z (raws_of (plains text xs))) x) m h))

-- ---- lists

-- these formulas, and then those
abbrev pub formulas_onto : List Formula → F.Formulas → F.Formulas
formulas_onto [] more = more
formulas_onto (g ∷ gs) more = F.Formulas.formula_and (formula_tree g) (formulas_onto gs more)

abbrev pub operands_onto : List (Op × Formula) → F.Operands → F.Operands
operands_onto [] more = more
operands_onto (p ∷ ps) more = F.Operands.operand_and (op_tree p.0) (formula_tree p.1) (operands_onto ps more)

formulas_push : (gs : List Formula) (g : Formula) (more : F.Formulas) → formulas_onto (gs ++ g ∷ []) more ≡ formulas_onto gs (F.Formulas.formula_and (formula_tree g) more)
formulas_push [] g more = refl
formulas_push (h ∷ gs) g more = ap (F.Formulas.formula_and (formula_tree h)) (formulas_push gs g more)

operands_push : (ps : List (Op × Formula)) (o : Op) (g : Formula) (more : F.Operands) → operands_onto (ps ++ (o, g) ∷ []) more ≡ operands_onto ps (F.Operands.operand_and (op_tree o) (formula_tree g) more)
operands_push [] o g more = refl
operands_push (p ∷ ps) o g more = ap (F.Operands.operand_and (op_tree p.0) (formula_tree p.1)) (operands_push ps o g more)

formulas_all : (gs : List Formula) → formulas_onto gs F.Formulas.no_formula ≡ argument_trees gs
formulas_all [] = refl
formulas_all (g ∷ gs) = ap (F.Formulas.formula_and (formula_tree g)) (formulas_all gs)

operands_all : (ps : List (Op × Formula)) → operands_onto ps F.Operands.no_operand ≡ ast.operand_trees ps
operands_all [] = refl
operands_all (p ∷ ps) = ap (F.Operands.operand_and (op_tree p.0) (formula_tree p.1)) (operands_all ps)

-- The formulas of the first arguments are built.
abbrev pub ArgumentsSoFar : Bytes → List Raw → ℕ → List Formula → Type 0
ArgumentsSoFar text xs i built =
    AreSpelled InOrder (raws_of (plains text xs)) → AreSpelled InOrder (raws_of (plains text (drop i xs))) × (formulas_onto built (trees (raws_of (plains text (drop i xs)))) ≡ trees (raws_of (plains text xs)))

pub argument_built : (text : Bytes) (xs : List Raw) (i : ℕ) (built longer : List Formula) (x : Raw) (g : Formula) → i < length xs → x ≡ get_or xs i x → longer ≡ built ++ g ∷ [] → IsBuilt text x g → ArgumentsSoFar text xs i built → ArgumentsSoFar text xs (i + 1) longer
argument_built text xs i built longer x g h is push b so s =
    let e : plains text (drop i xs) ≡ raw_tree text x ∷ plains text (drop (i + 1) xs) = at_drop_more (λ (ys : List Raw). plains text ys) xs i x h ∙ ap (λ z. raw_tree text z ∷ plains text (drop (i + 1) xs)) (sym is) in
    let p = so s in
    let q : AreSpelled InOrder (raws_of (raw_tree text x ∷ plains text (drop (i + 1) xs))) = subst (λ z. AreSpelled InOrder (raws_of z)) e p.0 in
    let more = trees (raws_of (plains text (drop (i + 1) xs))) in
    (q.1, ap (λ z. formulas_onto z more) push ∙ formulas_push built g more ∙ ap (λ z. formulas_onto built (F.Formulas.formula_and z more)) (b q.0) ∙ sym (ap (λ z. formulas_onto built (trees (raws_of z))) e) ∙ p.1)

pub arguments_built : (text : Bytes) (xs : List Raw) (i : ℕ) (built : List Formula) → length xs ≤ i → ArgumentsSoFar text xs i built → AreSpelled InOrder (raws_of (plains text xs)) → argument_trees built ≡ trees (raws_of (plains text xs))
arguments_built text xs i built h so s =
    let e : plains text (drop i xs) ≡ [] = at_drop_all (λ (ys : List Raw). plains text ys) xs i h in
    sym (formulas_all built) ∙ sym (ap (λ z. formulas_onto built (trees (raws_of z))) e) ∙ (so s).1

-- The same of operands.
abbrev pub OperandsSoFar : Bytes → List (Op × Raw) → ℕ → List (Op × Formula) → Type 0
OperandsSoFar text xs i built =
    AreSpelledOperands InOrder (links (pairs text xs)) → AreSpelledOperands InOrder (links (pairs text (drop i xs))) × (operands_onto built (operand_trees (links (pairs text (drop i xs)))) ≡ operand_trees (links (pairs text xs)))

pub operand_built : (text : Bytes) (xs : List (Op × Raw)) (i : ℕ) (built longer : List (Op × Formula)) (x : Op × Raw) (g : Formula) → i < length xs → x ≡ get_or xs i x → longer ≡ built ++ (x.0, g) ∷ [] → IsBuilt text x.1 g → OperandsSoFar text xs i built → OperandsSoFar text xs (i + 1) longer
operand_built text xs i built longer x g h is push b so s =
    let e : pairs text (drop i xs) ≡ (op_tree x.0, raw_tree text x.1) ∷ pairs text (drop (i + 1) xs) = at_drop_more (λ (ys : List (Op × Raw)). pairs text ys) xs i x h ∙ ap (λ (z : Op × Raw). (op_tree z.0, raw_tree text z.1) ∷ pairs text (drop (i + 1) xs)) (sym is) in
    let p = so s in
    let q : AreSpelledOperands InOrder (links ((op_tree x.0, raw_tree text x.1) ∷ pairs text (drop (i + 1) xs))) = subst (λ z. AreSpelledOperands InOrder (links z)) e p.0 in
    let more = operand_trees (links (pairs text (drop (i + 1) xs))) in
    (q.1, ap (λ z. operands_onto z more) push ∙ operands_push built x.0 g more ∙ ap (λ z. operands_onto built (F.Operands.operand_and (op_tree x.0) z more)) (b q.0) ∙ sym (ap (λ z. operands_onto built (operand_trees (links z))) e) ∙ p.1)

pub operands_built : (text : Bytes) (xs : List (Op × Raw)) (i : ℕ) (built : List (Op × Formula)) → length xs ≤ i → OperandsSoFar text xs i built → AreSpelledOperands InOrder (links (pairs text xs)) → ast.operand_trees built ≡ operand_trees (links (pairs text xs))
operands_built text xs i built h so s =
    let e : pairs text (drop i xs) ≡ [] = at_drop_all (λ (ys : List (Op × Raw)). pairs text ys) xs i h in
    sym (operands_all built) ∙ sym (ap (λ z. operands_onto built (operand_trees (links z))) e) ∙ (so s).1

pub ruleset operand_rules = (operand_built, operands_built)

pub ruleset argument_rules = (argument_built, arguments_built)

-- ---- calls

pub built_call : (xs : F.Formulas) (o : Fun) (v : Vec Formula Global) (w : Option F.Fun) → ((ys : F.Formulas) → call_of w ys ≡ F.Formula.Call (fun_tree o) ys) → argument_trees v.items ≡ xs → formula_tree (f.Call o v) ≡ call_of w xs
built_call xs o v w h e = formula_tree-Call o v ∙ ap (F.Formula.Call (fun_tree o)) e ∙ sym (h xs)
