-- Addresses and ranges by their texts.
use Rattle.std.specs.Prelude.{codes}
use Rattle.std.proofs.Common.{cond, ◌≡◌, ◌∙◌, ℕ, zero, suc, Bool, true, false, ◌&&◌, nat_le, [], ◌∷◌, ◌++◌, Option, Some, ◌⊎◌, inl, inr, refl, sym, ap, subst, arith}
use Rattle.std.specs.Fmt.{decimal}
use Rattle.gl_calculus.specs.Grid.Grid.{Addr, Range, range}
use Rattle.gl_calculus.specs.Grid.Notation.{column_text}
use Rattle.gl_language.specs.Texts.Text.{Bytes}
use Rattle.gl_language.specs.Reading.Token.{is_digit, is_upper}
use Rattle.gl_plane.specs.Parts.{is_ordered}
use Rattle.gl_lex.proofs.Rows.{AllPass}
use Rattle.gl_lex.proofs.Letters.{decimal_row, column_row}
use Rattle.gl_lex.proofs.Starts.{on_grid}
use Rattle.gl_protocol.specs.Framing.Pieces.{cut_at}
use Rattle.gl_protocol.specs.Scripts.Commands.{IsAddress, NoAddress, IsPlace, in_order, ReadsRange, Is, Not}
use Rattle.gl_protocol.specs.Scripts.Commands as C
use Rattle.gl_script.proofs.Headers.{Lacks}
use Rattle.gl_script.proofs.Cuts.{cut-at}

-- ---- no colon in an address

passes_lack : (p : ℕ → Bool) (s : ℕ) (bs : Bytes) → p s ≡ false → AllPass p bs → Lacks s bs
passes_lack p s [] f a i l e = absurd (omega arith)
passes_lack p s (b ∷ bs) f a zero l e = let t : p s ≡ true = subst (λ (c : ℕ). p c ≡ true) e a.0 in cc
passes_lack p s (b ∷ bs) f a (suc i) l e = passes_lack p s bs f a.1 i (omega arith) e

lacks_append : (s : ℕ) (front bs : Bytes) → Lacks s front → Lacks s bs → Lacks s (front ++ bs)
lacks_append s [] bs h k i l e = k i l e
lacks_append s (a ∷ rest) bs h k zero l e = h 0 (omega arith) e
lacks_append s (a ∷ rest) bs h k (suc i) l e = lacks_append s rest bs (λ j m. h (suc j) (omega arith)) k i (omega arith) e

pub address_lacks : (bs : Bytes) (a : Addr) → IsAddress bs a → Lacks 58 bs
address_lacks bs a h =
    let on = on_grid a h.0 in
    let column = passes_lack is_upper 58 (column_text a.col) refl (column_row a.col on.0 on.1) in
    let row = passes_lack is_digit 58 (decimal a.row) refl (decimal_row a.row (omega (arith, on.3))).0.1 in
    subst (Lacks 58) (sym h.1) (lacks_append 58 (column_text a.col) (decimal a.row) column row)

-- ---- places

pub holds_colon : (bs cs : Bytes) → Lacks 58 (bs ++ 58 ∷ cs) → ⊥
holds_colon [] cs h = h 0 (omega arith) refl
holds_colon (b ∷ bs) cs h = holds_colon bs cs (λ i l. h (suc i) (omega arith))

pub same_cut : (bs cs us vs : Bytes) → Lacks 58 bs → Lacks 58 us → bs ++ 58 ∷ cs ≡ us ++ 58 ∷ vs → (bs ≡ us) × (cs ≡ vs)
same_cut bs cs us vs h k e =
    let p : cut_at 58 (bs ++ 58 ∷ cs) ≡ cut_at 58 (us ++ 58 ∷ vs) = ap (cut_at 58) e in
    let front : bs ≡ us = sym (ap (λ (x : Bytes × Option Bytes). x.0) (cut-at 58 bs cs h)) ∙ ap (λ (x : Bytes × Option Bytes). x.0) p ∙ ap (λ (x : Bytes × Option Bytes). x.0) (cut-at 58 us vs k) in
    let back : Some cs ≡ Some vs = sym (ap (λ (x : Bytes × Option Bytes). x.1) (cut-at 58 bs cs h)) ∙ ap (λ (x : Bytes × Option Bytes). x.1) p ∙ ap (λ (x : Bytes × Option Bytes). x.1) (cut-at 58 us vs k) in
    let rest : cs ≡ vs = cc in
    (front, rest)

abbrev pub Corners : Bytes → Addr → Addr → Type 0
Corners bs a b = (IsAddress bs a × (a ≡ b)) ⊎ ((cs : Bytes) × (ds : Bytes) × (bs ≡ cs ++ 58 ∷ ds) × IsAddress cs a × IsAddress ds b)

pub corners : {bs : Bytes} {a b : Addr} → IsPlace bs a b → Corners bs a b
corners (C.IsPlace.one h) = inl (h, refl)
corners (C.IsPlace.two {bs = bs} {cs = cs} h k) = inr (bs, cs, refl, h, k)

pub alone : (bs : Bytes) (a : Addr) → IsAddress bs a → IsPlace bs a a
alone bs a h = C.IsPlace.one h

pub pair : (bs cs ds : Bytes) (a b : Addr) → bs ≡ cs ++ 58 ∷ ds → IsAddress cs a → IsAddress ds b → IsPlace bs a b
pair bs cs ds a b e h k = subst (λ (x : Bytes). IsPlace x a b) (sym e) (C.IsPlace.two h k)

pub not_alone : (bs : Bytes) → Lacks 58 bs → NoAddress bs → (a b : Addr) → IsPlace bs a b → ⊥
not_alone bs h n a b p = elim (corners p) as (λ _. ⊥) [
  | inl one ↦ n a one.0
  | inr two ↦ holds_colon two.0 two.1 (subst (Lacks 58) two.2 h)
]

pub not_first : (bs cs ds : Bytes) → bs ≡ cs ++ 58 ∷ ds → Lacks 58 cs → NoAddress cs → (a b : Addr) → IsPlace bs a b → ⊥
not_first bs cs ds e h n a b p = elim (corners p) as (λ _. ⊥) [
  | inl one ↦ holds_colon cs ds (subst (Lacks 58) e (address_lacks bs a one.0))
  | inr two ↦ n a (subst (λ (x : Bytes). IsAddress x a) (same_cut two.0 two.1 cs ds (address_lacks two.0 a two.3) h (sym two.2 ∙ e)).0 two.3)
]

pub not_last : (bs cs ds : Bytes) → bs ≡ cs ++ 58 ∷ ds → Lacks 58 cs → NoAddress ds → (a b : Addr) → IsPlace bs a b → ⊥
not_last bs cs ds e h n a b p = elim (corners p) as (λ _. ⊥) [
  | inl one ↦ holds_colon cs ds (subst (Lacks 58) e (address_lacks bs a one.0))
  | inr two ↦ n b (subst (λ (x : Bytes). IsAddress x b) (same_cut two.0 two.1 cs ds (address_lacks two.0 a two.3) h (sym two.2 ∙ e)).1 two.4)
]

-- ---- ranges

both : (p q : Bool) → p && q ≡ q && p
both true true = refl
both true false = refl
both false true = refl
both false false = refl

pub same_order : (a b : Addr) → is_ordered a b ≡ in_order a b
same_order a b = both (nat_le a.row b.row) (nat_le a.col b.col)

pub range_in_order : (bs : Bytes) (a b : Addr) (x : Range) (t : Bool) → IsPlace bs a b → t ≡ is_ordered a b → t ≡ true → x ≡ range a b → ReadsRange bs (Is x)
range_in_order bs a b x t p o e d = subst (λ (y : Range). ReadsRange bs (Is y)) (sym d) (subst (λ (u : Bool). ReadsRange bs (cond u (Is (range a b)) (Not (codes "range")))) (sym (same_order a b) ∙ sym o ∙ e) (C.ReadsRange.range_of p))

pub range_unordered : (bs : Bytes) (a b : Addr) (t : Bool) → IsPlace bs a b → t ≡ is_ordered a b → t ≡ false → ReadsRange bs (Not (codes "range"))
range_unordered bs a b t p o e = subst (λ (u : Bool). ReadsRange bs (cond u (Is (range a b)) (Not (codes "range")))) (sym (same_order a b) ∙ sym o ∙ e) (C.ReadsRange.range_of p)

pub range_nowhere : (bs : Bytes) → ((a b : Addr) → IsPlace bs a b → ⊥) → ReadsRange bs (Not (codes "address"))
range_nowhere bs h = C.ReadsRange.no_address h
