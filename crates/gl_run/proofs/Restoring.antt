-- Changes that are put all at once and then cleared one by one.
use Rattle.std.proofs.Common.{◌≡◌, ◌∙◌, inl, inr, Bool, true, false, cond, not, List, [], ◌∷◌, map, Option, Some, None, refl, sym, ap, subst}
use Rattle.gl_calculus.specs.Computation.Lists.{Member, AreDistinct}
use Rattle.gl_calculus.specs.Grid.Grid.{Addr, same_addr, single, covers}
use Rattle.gl_calculus.specs.Formulas.Formula.{Content, Cells, IsSheet, content}
use Rattle.gl_calculus.proofs.Tests.{addr_exact}
use Rattle.gl_calculus.specs.Edits.Replicas.{Changes}
use Rattle.gl_calculus.specs.Edits.Sheets.{with_contents, without}
use Rattle.gl_calculus.specs.Edits.Sheets.{with_changes, settings}
use Rattle.laws_calculus.proofs.SheetEdits.SameSheets.{same_sheets}
use Rattle.laws_calculus.proofs.SheetEdits.SheetChanges.{found, order_changes}
use Rattle.laws_calculus.proofs.SheetEdits.SheetOrders.{order_with_all, order_filter}
use Rattle.laws_calculus.proofs.SheetEdits.TakenBack.{after_changes, found_changes, is_changed, unchanged, contents_are_changes}
use Rattle.gl_calculus.specs.Edits.Sheets.{and_content, coming}
use Rattle.gl_run.specs.Going.{and_address}
use Rattle.gl_protocol.specs.Run.Touched.{going, without_these}

abbrev pub plain_places : Changes → List Addr
plain_places cs = map (λ (c : Addr × Option Content). c.0) cs

abbrev removing : List Addr → Changes
removing ps = map {B = Addr × Option Content} (λ (a : Addr). (a, None)) ps

without_are_changes : (ps : List Addr) (S : Cells) → without_these S ps ≡ with_changes S (removing ps)
without_are_changes [] S = refl
without_are_changes (a ∷ ps) S = without_are_changes ps (without S (single a))

found_all : (S ks : Cells) (ps : List Addr) (b : Addr) → content (without_these (with_contents S ks) ps) b ≡ after_changes (removing ps) b (after_changes (settings ks) b (content S b))
found_all S ks ps b =
    ap (λ (T : Cells). content T b) (without_are_changes ps (with_contents S ks))
    ∙ found_changes (removing ps) (with_contents S ks) b
    ∙ ap (after_changes (removing ps) b) (ap (λ (T : Cells). content T b) (contents_are_changes ks S) ∙ found_changes (settings ks) S b)

-- what comes is at the addresses of the changes
not_changed : (b : Addr) (cs : Changes) → (Member b (plain_places cs) → ⊥) → is_changed (settings (coming cs)) b ≡ false
not_changed b [] n = refl
not_changed b (c ∷ cs) n = by c.1 (not_changed b cs (λ m. n (inr m)))
  where
    one : (x : Content) (t : Bool) → same_addr b c.0 ≡ t → is_changed (settings (coming cs)) b ≡ false → is_changed (settings ((c.0, x) ∷ coming cs)) b ≡ false
    one x true e ih = absurd (n (inl (addr_exact b c.0 e)))
    one x false e ih = ap (λ (t : Bool). cond t true (is_changed (settings (coming cs)) b)) e ∙ ih

    by : (o : Option Content) → is_changed (settings (coming cs)) b ≡ false → is_changed (settings (and_content c.0 o (coming cs))) b ≡ false
    by (Some x) ih = one x (same_addr b c.0) refl ih
    by None ih = ih

-- an address that isn't among them is cleared before or after
swapped : (b a : Addr) (cs : Changes) (o : Option Content) → (Member a (plain_places cs) → ⊥) → found b a None (after_changes (settings (coming cs)) b o) ≡ after_changes (settings (coming cs)) b (found b a None o)
swapped b a cs o n = by (same_addr b a) refl
  where
    by : (t : Bool) → same_addr b a ≡ t → found b a None (after_changes (settings (coming cs)) b o) ≡ after_changes (settings (coming cs)) b (found b a None o)
    by true e =
        let none : (p : Option Content) → found b a None p ≡ None = λ p. ap (λ (t : Bool). cond t None p) e in
        let other : is_changed (settings (coming cs)) b ≡ false = not_changed b cs (subst (λ (z : Addr). Member z (plain_places cs) → ⊥) (sym (addr_exact b a e)) n) in
        none (after_changes (settings (coming cs)) b o) ∙ sym (ap (after_changes (settings (coming cs)) b) (none o) ∙ unchanged (settings (coming cs)) b None other)
    by false e =
        let same : (p : Option Content) → found b a None p ≡ p = λ p. ap (λ (t : Bool). cond t None p) e in
        same (after_changes (settings (coming cs)) b o) ∙ sym (ap (after_changes (settings (coming cs)) b) (same o))

pub going_step : (a : Addr) (o : Option Content) (cs : Changes) → going ((a, o) ∷ cs) ≡ and_address a o (going cs)
going_step a (Some c) cs = refl
going_step a None cs = refl

apart_changes : (cs : Changes) (b : Addr) (o : Option Content) → AreDistinct (plain_places cs) → after_changes (removing (going cs)) b (after_changes (settings (coming cs)) b o) ≡ after_changes cs b o
apart_changes [] b o d = refl
apart_changes (c ∷ cs) b o d =
    let left : List Addr → Type 0 = λ ps. after_changes (removing ps) b (after_changes (settings (coming (c ∷ cs))) b o) ≡ after_changes (c ∷ cs) b o in
    subst left (sym (going_step c.0 c.1 cs)) (by c.1 (λ p. apart_changes cs b p d.1))
  where
    by : (k : Option Content) → ((p : Option Content) → after_changes (removing (going cs)) b (after_changes (settings (coming cs)) b p) ≡ after_changes cs b p)
        → after_changes (removing (and_address c.0 k (going cs))) b (after_changes (settings (and_content c.0 k (coming cs))) b o) ≡ after_changes cs b (found b c.0 k o)
    by (Some x) ih = ih (found b c.0 (Some x) o)
    by None ih = ap (after_changes (removing (going cs)) b) (swapped b c.0 cs o d.0) ∙ ih (found b c.0 None o)

order_without : (ps : List Addr) (S : Cells) → IsSheet S → IsSheet (without_these S ps)
order_without [] S o = o
order_without (a ∷ ps) S o = order_without ps (without S (single a)) (order_filter (λ x. not (covers (single a) x.0)) S o)

-- At distinct addresses this makes the changes.
pub put_and_cleared : (S : Cells) (cs : Changes) → IsSheet S → AreDistinct (plain_places cs) → without_these (with_contents S (coming cs)) (going cs) ≡ with_changes S cs
put_and_cleared S cs o d =
    same_sheets (without_these (with_contents S (coming cs)) (going cs)) (with_changes S cs) (order_without (going cs) (with_contents S (coming cs)) (order_with_all (coming cs) S o)) (order_changes cs S o)
    (λ b. found_all S (coming cs) (going cs) b ∙ apart_changes cs b (content S b) d ∙ sym (found_changes cs S b))
