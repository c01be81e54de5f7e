-- A walk over the parts of a form.
use Rattle.std.proofs.Common.{◌≡◌, ℕ, ◌+◌, ◌<◌, ◌≤◌, Bool, true, false, List, drop, length, get_or, ap, sym, ◌∙◌}
use Rattle.std.specs.Prelude.{◌||◌}
use Rattle.std.proofs.lemmas.List.{at_drop_more, at_drop_all}
use Rattle.std.specs.declared.alloc.Global.{Global}
use Rattle.std.specs.declared.boxed.Box.{Box}
use Rattle.std.specs.declared.vec.Vec.{Vec}
use Rattle.gl_calculus.specs.Formulas.Formula as F
use Rattle.gl_language.specs.Texts.Text.{Bytes}
use Rattle.gl_language.specs.Reading.Grammar.{some_form, some_operand, some_argument}
use Rattle.gl_language.specs.Reading.Grammar as G
use Rattle.gl_ast.specs.declared.Level.{Level}
use Rattle.gl_ast.specs.declared.Op.{Op}
use Rattle.gl_parse.specs.declared.raw.Span.{Span}
use Rattle.gl_parse.specs.declared.raw.Raw.{Raw}
use Rattle.gl_parse.specs.declared.raw.Raw.TheVariants as r
use Rattle.gl_parse.specs.declared.walk.FormFault.{FormFault}
use Rattle.gl_parse.specs.Raws.{raw_tree, links, raws_of, pairs, plains}
use Rattle.gl_parse.specs.Faults.{shows}
use Rattle.gl_parse.proofs.Forms.{tree-Neg, tree-Chain, tree-Compare, tree-Let, tree-Apply}

pub some_next : (text : Bytes) (fault : FormFault) (xs : List Raw) (i : ℕ) (d : Raw) → i < length xs → some_argument (shows fault) (raws_of (plains text (drop i xs))) ≡ some_form (shows fault) (raw_tree text (get_or xs i d)) || some_argument (shows fault) (raws_of (plains text (drop (i + 1) xs)))
some_next text fault xs i d h = at_drop_more (λ (ys : List Raw). some_argument (shows fault) (raws_of (plains text ys))) xs i d h

pub some_end : (text : Bytes) (fault : FormFault) (xs : List Raw) (i : ℕ) → length xs ≤ i → some_argument (shows fault) (raws_of (plains text (drop i xs))) ≡ false
some_end text fault xs i h = at_drop_all (λ (ys : List Raw). some_argument (shows fault) (raws_of (plains text ys))) xs i h

pub some_next_operand : (text : Bytes) (fault : FormFault) (xs : List (Op × Raw)) (i : ℕ) (d : Op × Raw) → i < length xs → some_operand (shows fault) (links (pairs text (drop i xs))) ≡ some_form (shows fault) (raw_tree text (get_or xs i d).1) || some_operand (shows fault) (links (pairs text (drop (i + 1) xs)))
some_next_operand text fault xs i d h = at_drop_more (λ (ys : List (Op × Raw)). some_operand (shows fault) (links (pairs text ys))) xs i d h

pub some_end_operand : (text : Bytes) (fault : FormFault) (xs : List (Op × Raw)) (i : ℕ) → length xs ≤ i → some_operand (shows fault) (links (pairs text (drop i xs))) ≡ false
some_end_operand text fault xs i h = at_drop_all (λ (ys : List (Op × Raw)). some_operand (shows fault) (links (pairs text ys))) xs i h

pub ruleset walk_rules = (some_next, some_end, some_next_operand, some_end_operand)

-- a form that shows the fault
pub shown : (test : G.Raw → Bool) (f : G.Raw) → test f ≡ true → true ≡ some_form test f
shown test (G.Raw.Neg f) h = sym (ap (λ z. z || some_form test f) h)
shown test (G.Raw.Chain level f rest) h = sym (ap (λ z. (z || some_form test f) || some_operand test rest) h)
shown test (G.Raw.Compare op f g) h = sym (ap (λ z. (z || some_form test f) || some_form test g) h)
shown test (G.Raw.Let v f body) h = sym (ap (λ z. (z || some_form test f) || some_form test body) h)
shown test (G.Raw.Apply word xs) h = sym (ap (λ z. z || some_argument test xs) h)
shown test (G.Raw.Number n) h = sym h
shown test (G.Raw.Text t) h = sym h
shown test (G.Raw.Boolean b) h = sym h
shown test (G.Raw.At a) h = sym h
shown test (G.Raw.Spill a) h = sym h
shown test (G.Raw.Corners a b) h = sym h
shown test (G.Raw.Var v) h = sym h

pub shown_here : (text : Bytes) (fault : FormFault) (raw : Raw) → shows fault (raw_tree text raw) ≡ true → true ≡ some_form (shows fault) (raw_tree text raw)
shown_here text fault raw h = shown (shows fault) (raw_tree text raw) h

-- forms that don't
in_chain : (test : G.Raw → Bool) (level : F.Level) (f : G.Raw) (rest : G.RawOperands) → test (G.Raw.Chain level f rest) ≡ false → some_form test (G.Raw.Chain level f rest) ≡ some_form test f || some_operand test rest
in_chain test level f rest h = ap (λ z. (z || some_form test f) || some_operand test rest) h

in_compare : (test : G.Raw → Bool) (op : F.Op) (f g : G.Raw) → test (G.Raw.Compare op f g) ≡ false → some_form test (G.Raw.Compare op f g) ≡ some_form test f || some_form test g
in_compare test op f g h = ap (λ z. (z || some_form test f) || some_form test g) h

in_let : (test : G.Raw → Bool) (v : Bytes) (f body : G.Raw) → test (G.Raw.Let v f body) ≡ false → some_form test (G.Raw.Let v f body) ≡ some_form test f || some_form test body
in_let test v f body h = ap (λ z. (z || some_form test f) || some_form test body) h

in_neg : (test : G.Raw → Bool) (f : G.Raw) → test (G.Raw.Neg f) ≡ false → some_form test (G.Raw.Neg f) ≡ some_form test f
in_neg test f h = ap (λ z. z || some_form test f) h

in_apply : (test : G.Raw → Bool) (word : Bytes) (xs : G.Raws) → test (G.Raw.Apply word xs) ≡ false → some_form test (G.Raw.Apply word xs) ≡ some_argument test xs
in_apply test word xs h = ap (λ z. z || some_argument test xs) h

module _ (text : Bytes) (fault : FormFault) (raw : Raw) (free : shows fault (raw_tree text raw) ≡ false) where
  pub walk_neg : (f : Box Raw Global) → raw ≡ r.Neg f → some_form (shows fault) (raw_tree text raw) ≡ some_form (shows fault) (raw_tree text f.value)
  walk_neg f e =
      let t = ap (raw_tree text) e ∙ tree-Neg text f in
      ap (some_form (shows fault)) t ∙ in_neg (shows fault) (raw_tree text f.value) (sym (ap (shows fault) t) ∙ free)

  pub walk_chain : (l : Level) (f : Box Raw Global) (rest : Vec (Op × Raw) Global) → raw ≡ r.Chain l f rest → some_form (shows fault) (raw_tree text raw) ≡ some_form (shows fault) (raw_tree text f.value) || some_operand (shows fault) (links (pairs text rest.items))
  walk_chain l f rest e =
      let t = ap (raw_tree text) e ∙ tree-Chain text l f rest in
      ap (some_form (shows fault)) t ∙ in_chain (shows fault) _ (raw_tree text f.value) (links (pairs text rest.items)) (sym (ap (shows fault) t) ∙ free)

  pub walk_compare : (o : Op) (f g : Box Raw Global) → raw ≡ r.Compare o f g → some_form (shows fault) (raw_tree text raw) ≡ some_form (shows fault) (raw_tree text f.value) || some_form (shows fault) (raw_tree text g.value)
  walk_compare o f g e =
      let t = ap (raw_tree text) e ∙ tree-Compare text o f g in
      ap (some_form (shows fault)) t ∙ in_compare (shows fault) _ (raw_tree text f.value) (raw_tree text g.value) (sym (ap (shows fault) t) ∙ free)

  pub walk_let : (name : Span) (f body : Box Raw Global) → raw ≡ r.Let name f body → some_form (shows fault) (raw_tree text raw) ≡ some_form (shows fault) (raw_tree text f.value) || some_form (shows fault) (raw_tree text body.value)
  walk_let name f body e =
      let t = ap (raw_tree text) e ∙ tree-Let text name f body in
      ap (some_form (shows fault)) t ∙ in_let (shows fault) _ (raw_tree text f.value) (raw_tree text body.value) (sym (ap (shows fault) t) ∙ free)

  pub walk_apply : (word : Span) (xs : Vec Raw Global) → raw ≡ r.Apply word xs → some_form (shows fault) (raw_tree text raw) ≡ some_argument (shows fault) (raws_of (plains text xs.items))
  walk_apply word xs e =
      let t = ap (raw_tree text) e ∙ tree-Apply text word xs in
      ap (some_form (shows fault)) t ∙ in_apply (shows fault) _ (raws_of (plains text xs.items)) (sym (ap (shows fault) t) ∙ free)

-- ---- the two ways through an `||`

pub or_then : (x a b whole : Bool) → x ≡ a → x ≡ true → whole ≡ a || b → x ≡ whole
or_then x a b whole h i w = i ∙ sym (w ∙ ap (λ z. z || b) (sym h ∙ i))

pub or_else : (x y a b whole : Bool) → x ≡ a → x ≡ false → y ≡ b → whole ≡ a || b → y ≡ whole
or_else x y a b whole h i j w = j ∙ sym (w ∙ ap (λ z. z || b) (sym h ∙ i))
