-- What is shown, compared by the code's equality.
use Rattle.std.proofs.Common.{◌≡◌, Bool, true, false, Some, None, refl, sym, ap, subst, ◌∙◌}
use Rattle.gl_calculus.specs.Explanation.Certificate as E
use Rattle.gl_calculus.specs.Explanation.Certificate.{same_shown, judged, says_so}
use Rattle.laws_calculus.proofs.Explanation.Explaining.{shown_exact, shown_same}
use Rattle.gl_value.proofs.Equal.{shown_equal}
use Rattle.gl_value.specs.Made.{shown_tree}
use Rattle.gl_value.specs.declared.Shown.{Shown}
use Rattle.gl_value.specs.contracts.ShownPartialEq.TheImpl.{ghosts as shown}

eq_is_shown : (x y : Shown) → shown.eq x y ≡ same_shown (shown_tree x) (shown_tree y)
eq_is_shown x y = by (shown.eq x y) (same_shown (shown_tree x) (shown_tree y)) refl refl
  where
    by : (b c : Bool) → shown.eq x y ≡ b → same_shown (shown_tree x) (shown_tree y) ≡ c → shown.eq x y ≡ same_shown (shown_tree x) (shown_tree y)
    by true true p q = p ∙ sym q
    by false false p q = p ∙ sym q
    by true false p q =
        let e : shown_tree x ≡ shown_tree y = (shown_equal x y).0 p in
        p ∙ sym (subst (λ t. same_shown (shown_tree x) t ≡ true) e (shown_same (shown_tree x)))
    by false true p q =
        let e : shown.eq x y ≡ true = (shown_equal x y).1 (shown_exact (shown_tree x) (shown_tree y) q) in
        e ∙ sym q

pub right : (x y : Shown) (b : Bool) → b ≡ shown.eq x y → b ≡ true → E.Accepted ≡ judged None None (says_so (shown_tree x) (Some (shown_tree y)))
right x y b e h = ap (judged None None) (sym h ∙ e ∙ eq_is_shown x y)

pub wrong : (x y : Shown) (b : Bool) → b ≡ shown.eq x y → b ≡ false → E.Wrong ≡ judged None None (says_so (shown_tree x) (Some (shown_tree y)))
wrong x y b e h = ap (judged None None) (sym h ∙ e ∙ eq_is_shown x y)
