-- The first line of a text, and of a text that goes on.
use Rattle.std.proofs.Common.{◌≡◌, ℕ, Bool, true, false, cond, ◌||◌, eqb, List, [], ◌∷◌, ◌++◌, refl, ap}
use Rattle.gl_protocol.specs.Framing.Framing.{has_lf, first_line, after_line}

pub has_lf-more : (t x : List ℕ) → has_lf t ≡ true → has_lf (t ++ x) ≡ true
has_lf-more [] x h = cc
has_lf-more (b ∷ bs) x h =
    let P : Bool → Type 0 = λ c. c || has_lf bs ≡ true → c || has_lf (bs ++ x) ≡ true in
    (elim (eqb b 10) as P [ true ↦ λ _. refl | false ↦ λ e. has_lf-more bs x e ]) h

pub first_line-more : (t x : List ℕ) → has_lf t ≡ true → first_line (t ++ x) ≡ first_line t
first_line-more [] x h = cc
first_line-more (b ∷ bs) x h =
    let P : Bool → Type 0 = λ c. c || has_lf bs ≡ true → cond c [] (b ∷ first_line (bs ++ x)) ≡ cond c [] (b ∷ first_line bs) in
    (elim (eqb b 10) as P [ true ↦ λ _. refl | false ↦ λ e. ap (λ l. b ∷ l) (first_line-more bs x e) ]) h

pub after_line-more : (t x : List ℕ) → has_lf t ≡ true → after_line (t ++ x) ≡ after_line t ++ x
after_line-more [] x h = cc
after_line-more (b ∷ bs) x h =
    let P : Bool → Type 0 = λ c. c || has_lf bs ≡ true → cond c (bs ++ x) (after_line (bs ++ x)) ≡ cond c bs (after_line bs) ++ x in
    (elim (eqb b 10) as P [ true ↦ λ _. refl | false ↦ λ e. after_line-more bs x e ]) h

-- a text with no LF, and one more byte
pub has_lf-push : (t : List ℕ) (b : ℕ) → has_lf t ≡ false → has_lf (t ++ b ∷ []) ≡ eqb b 10
has_lf-push [] b h =
    let P : Bool → Type 0 = λ c. c || false ≡ c in elim (eqb b 10) as P [ true ↦ refl | false ↦ refl ]
has_lf-push (a ∷ t) b h =
    let P : Bool → Type 0 = λ c. c || has_lf t ≡ false → c || has_lf (t ++ b ∷ []) ≡ eqb b 10 in
    (elim (eqb a 10) as P [ true ↦ λ e. cc | false ↦ λ e. has_lf-push t b e ]) h

pub first_line-push : (t : List ℕ) → has_lf t ≡ false → first_line (t ++ 10 ∷ []) ≡ t
first_line-push [] h = refl
first_line-push (a ∷ t) h =
    let P : Bool → Type 0 = λ c. c || has_lf t ≡ false → cond c [] (a ∷ first_line (t ++ 10 ∷ [])) ≡ a ∷ t in
    (elim (eqb a 10) as P [ true ↦ λ e. cc | false ↦ λ e. ap (λ l. a ∷ l) (first_line-push t e) ]) h

pub after_line-push : (t : List ℕ) → has_lf t ≡ false → after_line (t ++ 10 ∷ []) ≡ []
after_line-push [] h = refl
after_line-push (a ∷ t) h =
    let P : Bool → Type 0 = λ c. c || has_lf t ≡ false → cond c (t ++ 10 ∷ []) (after_line (t ++ 10 ∷ [])) ≡ [] in
    (elim (eqb a 10) as P [ true ↦ λ e. cc | false ↦ λ e. after_line-push t e ]) h
