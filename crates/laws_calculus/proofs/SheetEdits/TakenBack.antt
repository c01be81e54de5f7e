-- The changes of a sheet can be taken back.
use Rattle.std.proofs.Common.{◌≡◌, ◌∙◌, Bool, true, false, cond, not, [], ◌∷◌, map, filter, Option, Some, None, refl, sym, ap}
use Rattle.gl_calculus.specs.Grid.Grid.{Addr, same_addr, Range, covers}
use Rattle.gl_calculus.specs.Formulas.Formula.{Content, Cells, IsSheet, content}
use Rattle.gl_calculus.proofs.Tests.{addr_exact}
use Rattle.gl_calculus.specs.Edits.Replicas.{Changes}
use Rattle.gl_calculus.specs.Edits.Steps.{step_of, befores, afters}
use Rattle.gl_calculus.specs.Edits.Sheets.{with_content, with_contents, without}
use Rattle.gl_calculus.specs.Edits.Sheets.{with_change, with_changes, settings, removals}
use Rattle.laws_calculus.proofs.SheetEdits.SheetChanges.{found, found_change, found_without, either_way, order_changes}
use Rattle.laws_calculus.proofs.SheetEdits.SheetOrders.{order_filter}
use Rattle.laws_calculus.proofs.SheetEdits.SameSheets.{same_sheets}

-- what an address holds after changes, where it held this
abbrev pub after_changes : Changes → Addr → Option Content → Option Content
after_changes [] b o = o
after_changes (c ∷ cs) b o = after_changes cs b (found b c.0 c.1 o)

pub found_changes : (cs : Changes) (S : Cells) (b : Addr) → content (with_changes S cs) b ≡ after_changes cs b (content S b)
found_changes [] S b = refl
found_changes (c ∷ cs) S b = found_changes cs (with_change S c.0 c.1) b ∙ ap (after_changes cs b) (found_change S c.0 b c.1)

-- the address is one of those that are changed
abbrev pub is_changed : Changes → Addr → Bool
is_changed [] b = false
is_changed (c ∷ cs) b = cond (same_addr b c.0) true (is_changed cs b)

back : (S : Cells) (cs : Changes) (b : Addr) (o : Option Content) → (is_changed cs b ≡ false → o ≡ content S b) → after_changes (befores (step_of S cs)) b o ≡ content S b
back S [] b o h = h refl
back S (c ∷ cs) b o h = by (same_addr b c.0) refl (back S cs b)
  where
    by : (t : Bool) → same_addr b c.0 ≡ t → ((q : Option Content) → (is_changed cs b ≡ false → q ≡ content S b) → after_changes (befores (step_of S cs)) b q ≡ content S b)
        → after_changes (befores (step_of S cs)) b (cond (same_addr b c.0) (content S c.0) o) ≡ content S b
    by true e ih =
        let same : content S c.0 ≡ content S b = ap (content S) (sym (addr_exact b c.0 e)) in
        ih (cond (same_addr b c.0) (content S c.0) o) (λ k. ap (λ (t : Bool). cond t (content S c.0) o) e ∙ same)
    by false e ih =
        ih (cond (same_addr b c.0) (content S c.0) o) (λ k. ap (λ (t : Bool). cond t (content S c.0) o) e ∙ h (ap (λ (t : Bool). cond t true (is_changed cs b)) e ∙ k))

pub unchanged : (cs : Changes) (b : Addr) (o : Option Content) → is_changed cs b ≡ false → after_changes cs b o ≡ o
unchanged [] b o h = refl
unchanged (c ∷ cs) b o h = by (same_addr b c.0) refl h (unchanged cs b o)
  where
    by : (t : Bool) → same_addr b c.0 ≡ t → cond t true (is_changed cs b) ≡ false → (is_changed cs b ≡ false → after_changes cs b o ≡ o) → after_changes cs b (found b c.0 c.1 o) ≡ o
    by true e k ih = cc k
    by false e k ih = ap (after_changes cs b) (ap (λ (t : Bool). cond t c.1 o) e) ∙ ih k

-- The step of any changes leads back to the sheet.
pub taken_back : (S : Cells) (cs : Changes) → IsSheet S → with_changes (with_changes S cs) (befores (step_of S cs)) ≡ S
taken_back S cs o =
    same_sheets (with_changes (with_changes S cs) (befores (step_of S cs))) S (order_changes (befores (step_of S cs)) (with_changes S cs) (order_changes cs S o)) o
    (λ b. found_changes (befores (step_of S cs)) (with_changes S cs) b
    ∙ back S cs b (content (with_changes S cs) b) (λ h. found_changes cs S b ∙ unchanged cs b (content S b) h))

pub done_again : (S : Cells) (cs : Changes) → afters (step_of S cs) ≡ cs
done_again S [] = refl
done_again S (c ∷ cs) = ap (λ (ds : Changes). c ∷ ds) (done_again S cs)

pub contents_are_changes : (cs S : Cells) → with_contents S cs ≡ with_changes S (settings cs)
contents_are_changes [] S = refl
contents_are_changes (c ∷ cs) S = contents_are_changes cs (with_content S c.0 c.1)

-- ---- a range is cleared by its removals

gone : (r : Range) (S : Cells) (b : Addr) → after_changes (removals S r) b None ≡ None
gone r [] b = refl
gone r (x ∷ S) b = by (covers r x.0) (gone r S b)
  where
    by : (t : Bool) → after_changes (removals S r) b None ≡ None → after_changes (map (λ c. (c.0, None)) (cond t (x ∷ filter (λ c. covers r c.0) S) (filter (λ c. covers r c.0) S))) b None ≡ None
    by false ih = ih
    by true ih = ap (after_changes (removals S r) b) (sym (either_way (same_addr b x.0) None)) ∙ ih

outside : (r : Range) (S : Cells) (b : Addr) (o : Option Content) → covers r b ≡ false → after_changes (removals S r) b o ≡ o
outside r [] b o h = refl
outside r (x ∷ S) b o h = by (covers r x.0) refl (outside r S b o h)
  where
    by : (t : Bool) → covers r x.0 ≡ t → after_changes (removals S r) b o ≡ o → after_changes (map (λ c. (c.0, None)) (cond t (x ∷ filter (λ c. covers r c.0) S) (filter (λ c. covers r c.0) S))) b o ≡ o
    by false e ih = ih
    by true e ih = ap (after_changes (removals S r) b) (ap (λ (t : Bool). cond t None o) (other (same_addr b x.0) refl)) ∙ ih
      where
        other : (t : Bool) → same_addr b x.0 ≡ t → same_addr b x.0 ≡ false
        other true f = let no : true ≡ false = sym e ∙ ap (covers r) (sym (addr_exact b x.0 f)) ∙ h in cc no
        other false f = f

clears : (r : Range) (S : Cells) (b : Addr) → after_changes (removals S r) b (content S b) ≡ cond (covers r b) None (content S b)
clears r [] b = either_way (covers r b) None
clears r (x ∷ S) b = by (covers r x.0) (same_addr b x.0) refl refl (clears r S b)
  where
    by : (t e : Bool) → covers r x.0 ≡ t → same_addr b x.0 ≡ e → after_changes (removals S r) b (content S b) ≡ cond (covers r b) None (content S b)
        → after_changes (map (λ c. (c.0, None)) (cond t (x ∷ filter (λ c. covers r c.0) S) (filter (λ c. covers r c.0) S))) b (cond e (Some x.1) (content S b)) ≡ cond (covers r b) None (cond e (Some x.1) (content S b))
    by true true h k ih =
        let c : covers r b ≡ true = ap (covers r) (addr_exact b x.0 k) ∙ h in
        ap (λ (t : Bool). after_changes (removals S r) b (cond t None (Some x.1))) k ∙ gone r S b ∙ sym (ap (λ (t : Bool). cond t None (Some x.1)) c)
    by true false h k ih = ap (λ (t : Bool). after_changes (removals S r) b (cond t None (content S b))) k ∙ ih
    by false true h k ih =
        let c : covers r b ≡ false = ap (covers r) (addr_exact b x.0 k) ∙ h in
        outside r S b (Some x.1) c ∙ sym (ap (λ (t : Bool). cond t None (Some x.1)) c)
    by false false h k ih = ih

pub cleared_by_removals : (S : Cells) (r : Range) → IsSheet S → without S r ≡ with_changes S (removals S r)
cleared_by_removals S r o =
    same_sheets (without S r) (with_changes S (removals S r)) (order_filter (λ x. not (covers r x.0)) S o) (order_changes (removals S r) S o)
    (λ b. found_without S r b ∙ sym (found_changes (removals S r) S b ∙ clears r S b))
