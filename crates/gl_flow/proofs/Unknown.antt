-- The first formula cell that makes sheets.
use Rattle.std.proofs.Common.{◌≡◌, ℕ, ◌+◌, ◌<◌, ◌≤◌, Bool, true, false, ◌||◌, List, ◌∷◌, length, drop, get_or, refl, sym, subst, ap, ◌∙◌, IsTrue}
use Rattle.std.specs.Prelude.{Option, Some, None}
use Rattle.std.specs.List.{list_any}
use Rattle.std.proofs.lemmas.List.{at_drop_more, at_drop_all}
use Rattle.gl_calculus.specs.Grid.Grid.{Addr}
use Rattle.gl_calculus.specs.Formulas.Formula.{Formula, Content, Const, Form, Cells}
use Rattle.gl_calculus.specs.Forecast.{piece_makes, pieces, content_pieces, uses_sheets, First, here, behind}
use Rattle.gl_flow.specs.Contents.{formula_in}

abbrev pub formula_makes : Option Formula → Bool
formula_makes (Some f) = list_any piece_makes (pieces f)
formula_makes None = false

module _ (S : Cells) where
  pub makes_is : (c : Option Content) → formula_makes (formula_in c) ≡ list_any piece_makes (content_pieces S c)
  makes_is (Some (Form f)) = refl
  makes_is (Some (Const x)) = refl
  makes_is None = refl

  -- so far no address has such a formula
  pub record IsSeeking (rest places : List Addr) : Type 0 where
    pub first : (b : Addr) → First (λ (b : Addr). IsTrue (uses_sheets S b)) rest b → First (λ (b : Addr). IsTrue (uses_sheets S b)) places b
    pub some : list_any (uses_sheets S) rest ≡ list_any (uses_sheets S) places

  pub seek_start : (places : List Addr) → IsSeeking places places
  seek_start places = record { first = λ b f. f; some = refl }

  pub seek_on : (places : List Addr) (i : ℕ) (a : Addr) → i < length places → a ≡ get_or places i a → uses_sheets S a ≡ false → IsSeeking (drop i places) places → IsSeeking (drop (i + 1) places) places
  seek_on places i a l is e s =
      let d : drop i places ≡ a ∷ drop (i + 1) places = at_drop_more (λ t. t) places i a l ∙ ap (λ t. t ∷ drop (i + 1) places) (sym is) in
      record {
        first = λ b f. s.first b (subst (λ t. First (λ (b : Addr). IsTrue (uses_sheets S b)) t b) (sym d) (behind (λ h. let u : true ≡ false = sym h ∙ e in cc u) f));
        some = sym (ap (list_any (uses_sheets S)) d ∙ ap (λ b. b || list_any (uses_sheets S) (drop (i + 1) places)) e) ∙ s.some;
      }

  pub seek_found : (places : List Addr) (i : ℕ) (a : Addr) → i < length places → a ≡ get_or places i a → uses_sheets S a ≡ true → IsSeeking (drop i places) places → First (λ (b : Addr). IsTrue (uses_sheets S b)) places a
  seek_found places i a l is e s =
      let d : drop i places ≡ a ∷ drop (i + 1) places = at_drop_more (λ t. t) places i a l ∙ ap (λ t. t ∷ drop (i + 1) places) (sym is) in
      s.first a (subst (λ t. First (λ (b : Addr). IsTrue (uses_sheets S b)) t a) (sym d) (here e))

  pub seek_done : (places : List Addr) (i : ℕ) → length places ≤ i → IsSeeking (drop i places) places → list_any (uses_sheets S) places ≡ false
  seek_done places i l s = sym s.some ∙ ap (list_any (uses_sheets S)) (at_drop_all (λ t. t) places i l)
