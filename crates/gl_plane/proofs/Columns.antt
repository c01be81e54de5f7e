-- What the notation of an address begins with.
use Rattle.std.proofs.Common.{◌≡◌, ℕ, ◌+◌, ◌-◌, ◌/◌, ◌%◌, ◌<◌, ◌≤◌, ◌++◌, nat_le, Bool, true, false, cond, List, [], ◌∷◌, length, Option, Some, None, IfNone, refl, ap, arith, ◌∙◌}
use Rattle.std.specs.Fmt.{decimal}
use Rattle.std.proofs.lemmas.Fmt.{decimal_nonempty}
use Rattle.gl_calculus.specs.Grid.Grid.{Addr}
use Rattle.gl_calculus.specs.Grid.Notation.{address_text}
use Rattle.gl_plane.specs.Parts.{IsAddr}
use Rattle.gl_plane.proofs.Numbers.{first_is_digit}

alone : (short : Bool) (c n x : ℕ) → n < 10000 → cond short ((64 + c) ∷ []) ((64 + (c - 1) / 26) ∷ (65 + (c - 1) % 26) ∷ []) ++ decimal n ≡ x ∷ [] → ⊥
alone true c n x h e =
    let some : 0 < length (decimal n) = decimal_nonempty n (omega arith) in
    let none : decimal n ≡ [] = cc in
    omega (arith, ap length none)
alone false c n x h e = absurd (cc)

-- it has more than one byte
pub not_alone : (a : Addr) (x : ℕ) (bs : List ℕ) → IsAddr a → length bs ≡ 0 → address_text a ≡ x ∷ bs → ⊥
not_alone a x [] h z e = alone (nat_le a.col 26) a.col a.row x (omega arith) e
not_alone a x (b ∷ bs) h z e = absurd (omega arith)

pair : (short : Bool) (c n x b : ℕ) (ds : List ℕ) → nat_le c 26 ≡ short → 1 ≤ c → n ≤ 9999 → 65 ≤ b → cond short ((64 + c) ∷ []) ((64 + (c - 1) / 26) ∷ (65 + (c - 1) % 26) ∷ []) ++ decimal n ≡ (64 + x) ∷ b ∷ ds → decimal n ≡ ds
pair true c n x b ds s k h lo e =
    let tail : decimal n ≡ b ∷ ds = cc in
    let digit : b ≤ 57 = first_is_digit n b ds h tail in
    absurd (omega arith)
pair false c n x b ds s k h lo e =
    cc

-- a letter at the second place is the column's, and the row's digits follow
pub no_such_row : {X : Type 0} (r : Option X) (x b : ℕ) (ds bs : List ℕ) → 65 ≤ b → bs ≡ b ∷ ds → IfNone r ((n : ℕ) → 1 ≤ n → n ≤ 9999 → decimal n ≡ ds → ⊥) → IfNone r ((a : Addr) → IsAddr a → address_text a ≡ (64 + x) ∷ bs → ⊥)
no_such_row (Some y) x b ds bs lo p h = tt
no_such_row None x b ds bs lo p h = λ a k e.
    h a.row (omega arith) (omega arith) (pair (nat_le a.col 26) a.col a.row x b ds refl (omega arith) (omega arith) lo (e ∙ ap (λ cs. (64 + x) ∷ cs) p))
