-- The contents of a sheet, set one after the other in their order, fill an empty sheet with it.
use Rattle.std.proofs.Common.{◌≡◌, ◌∙◌, ◌≤◌, nat_lt, false, List, [], ◌∷◌, ◌++◌, length, append_assoc, append-nil, length-append, Some, None, refl, sym, ap, subst, arith, IsTrue}
use Rattle.std.specs.List.{AllByRecursion}
use Rattle.std.proofs.lemmas.Bool.Decides.{nat_tests}
use Rattle.std.proofs.lemmas.Grind.{common_steps}
use Rattle.gl_calculus.specs.Grid.Limits.{max_formulas, max_contents}
use Rattle.gl_calculus.specs.Grid.Grid.{Addr, same_addr, is_before}
use Rattle.gl_calculus.specs.Formulas.Formula.{Version, Content, Const, Form, Cells, IsSheet, formula_addresses}
use Rattle.gl_language.specs.Texts.Text.{Bytes}
use Rattle.gl_calculus.specs.Edits.Steps.{step_of, pushed}
use Rattle.gl_protocol.specs.Framing.Framing.{Line}
use Rattle.gl_protocol.specs.Replies.Tables.{set_text}
use Rattle.gl_protocol.specs.Scripts.Commands as C
use Rattle.gl_protocol.specs.Scripts.Commands.{Is, allowed, ok_line}
use Rattle.gl_calculus.specs.Edits.Sheets.{with_content}
use Rattle.gl_protocol.specs.Scripts.Script.{Script}
use Rattle.gl_protocol.specs.Scripts.Acts as T
use Rattle.gl_protocol.specs.Scripts.Acts.{Acts}
use Rattle.gl_protocol.specs.Scripts.Output as O
use Rattle.gl_protocol.specs.Scripts.Output.{Runs}
use Rattle.laws_calculus.proofs.SheetEdits.SameSheets.{before_all}
use Rattle.laws_protocol.proofs.Scripts.Edited.{alone_done}
use Rattle.laws_protocol.specs.Replies.{IsWithinLimits}
use Rattle.laws_protocol.specs.Lists.{set_items, all_ok}
use Rattle.laws_protocol.proofs.Scripts.Listed.{IsListed, set_reads}

-- ---- fronts of a sheet

order_front : (S T : Cells) → IsSheet (S ++ T) → IsSheet S
order_front [] T o = tt
order_front (x ∷ []) T o = tt
order_front (x ∷ y ∷ S) T o = (o.0, order_front (y ∷ S) T o.1)

order_rest : (x : Addr × Content) (S : Cells) → IsSheet (x ∷ S) → IsSheet S
order_rest x [] o = tt
order_rest x (y ∷ S) o = o.1

formulas_front : (S T : Cells) → length (formula_addresses S) ≤ length (formula_addresses (S ++ T))
formulas_front [] T = omega arith
formulas_front ((a, Const x) ∷ S) T = formulas_front S T
formulas_front ((a, Form f) ∷ S) T = omega (arith, formulas_front S T)

limits_front : (S T : Cells) → IsWithinLimits (S ++ T) → IsWithinLimits S
limits_front S T h = (omega (arith, formulas_front S T, h.0), omega (arith, length-append S T, h.1))

-- a sheet within the limits is allowed
allowed_small : (S : Cells) → IsWithinLimits S → allowed S ≡ Is S
allowed_small S h =
    let few : nat_lt max_formulas (length (formula_addresses S)) ≡ false = grind (arith, nat_tests, h.0) in
    let small : nat_lt max_contents (length S) ≡ false = grind (arith, nat_tests, h.1) in
    rw (few, small) refl

-- ---- a content behind all others

first_before : (y : Addr × Content) (S : Cells) (x : Addr × Content) → IsSheet (y ∷ (S ++ x ∷ [])) → IsTrue (is_before y.0 x.0)
first_before y [] x o = o.0
first_before y (z ∷ S) x o = before_all y.0 z.0 x.0 o.0 (first_before z S x o.1)

behind_not_same : (a b : Addr) → IsTrue (is_before b a) → same_addr a b ≡ false
behind_not_same a b h = grind (arith, common_steps)

behind_not_before : (a b : Addr) → IsTrue (is_before b a) → is_before a b ≡ false
behind_not_before a b h = grind (arith, common_steps)

with_last : (S : Cells) (x : Addr × Content) → IsSheet (S ++ x ∷ []) → with_content S x.0 x.1 ≡ S ++ x ∷ []
with_last [] x o = refl
with_last (y ∷ S) x o =
    let b = first_before y S x o in
    rw (behind_not_same x.0 y.0 b, behind_not_before x.0 y.0 b) (ap (λ (Z : Cells). y ∷ Z) (with_last S x (order_rest y (S ++ x ∷ []) o)))

-- ---- one content after the other

module _ (records : Bytes → List (List Bytes)) (version : Version) where
  -- where the lines for these contents lead from a state
  pub record IsFilled (t : Script) (S : Cells) (goal : Cells) : Type 0 where
    pub last : Script
    pub run : Runs records version t (set_items S) last (all_ok (set_items S))
    pub same : last.sheet ≡ goal

  -- with one content more
  abbrev with_set : Script → Addr × Content → Cells → Script
  with_set t x Q = record t { sheet = Q; history = pushed t.history (step_of t.sheet ((x.0, Some x.1) ∷ [])) }

  set_acts : (t : Script) (x : Addr × Content) (Q : Cells) → IsListed x → t.replica ≡ None → allowed (with_content t.sheet x.0 x.1) ≡ Is Q → Acts records version t (Line (set_text x)) (with_set t x Q) ok_line
  set_acts t x Q h none e =
      T.Acts.request {x = C.Request.Set x.0 x.1} (set_reads x h) (T.Does.changed {x = C.Request.Set x.0 x.1} refl (T.Leaves.left (alone_done t ((x.0, Some x.1) ∷ []) Q (allowed (with_content t.sheet x.0 x.1)) none e)))

  pub filled : (P S : Cells) (t : Script) → t.replica ≡ None → t.sheet ≡ P → IsSheet (P ++ S) → IsWithinLimits (P ++ S) → AllByRecursion IsListed S → IsFilled t S (P ++ S)
  filled P [] t none e o l h = record { last = t; run = O.Runs.no_more; same = e ∙ sym (append-nil P) }
  filled P (x ∷ S) t none e o l h =
      let Q = P ++ x ∷ [] in
      let is : Q ++ S ≡ P ++ x ∷ S = append_assoc P (x ∷ []) S in
      let order : IsSheet (Q ++ S) = subst IsSheet (sym is) o in
      let small : IsWithinLimits (Q ++ S) = subst IsWithinLimits (sym is) l in
      let one : allowed (with_content t.sheet x.0 x.1) ≡ Is Q =
      ap (λ (Z : Cells). allowed (with_content Z x.0 x.1)) e ∙ ap allowed (with_last P x (order_front Q S order)) ∙ allowed_small Q (limits_front Q S small) in
      let rest = filled Q S (with_set t x Q) none refl order small h.1 in
      record { last = rest.last; run = O.Runs.item (set_acts t x Q h.0 none one) rest.run; same = rest.same ∙ is }
