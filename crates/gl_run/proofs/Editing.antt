-- Edits within the limits of a sheet, and refused ones.
use Rattle.std.specs.Prelude.{codes}
use Rattle.std.proofs.Common.{◌≡◌, ◌∙◌, ℕ, ◌≤◌, ◌<◌, nat_lt, Bool, true, false, [], ◌∷◌, ◌++◌, Result, Ok, Err, OnOk, OnErr, if◌then◌else◌, length, append-nil, ap, refl, sym, arith}
use Rattle.std.proofs.lemmas.Bool.Decides.{nat_tests}
use Rattle.gl_calculus.specs.Grid.Limits.{max_formulas, max_contents}
use Rattle.gl_calculus.specs.Grid.Grid.{Addr}
use Rattle.gl_calculus.specs.Formulas.Formula.{Cells, formula_addresses}
use Rattle.gl_protocol.specs.Scripts.Commands.{Read, Is, Not, allowed}
use Rattle.gl_cells.specs.Sheet.{Answers}
use Rattle.gl_cells.specs.declared.fault.PutFault.{PutFault}
use Rattle.gl_cells.specs.declared.fault.PutFault.TheVariants as f
use Rattle.gl_calc.specs.View.{View}
use Rattle.gl_run.specs.Changed.{Puts, Marks, marked_by}

not_less : (a b : ℕ) → b ≤ a → nat_lt a b ≡ false
not_less a b h = grind (arith, nat_tests)

less : (a b : ℕ) → a < b → nat_lt a b ≡ true
less a b h = grind (arith, nat_tests)

-- by the tests of the limits
abbrev by_tests : Bool → Bool → Cells → Read Cells
by_tests b d goal = if b then Not (codes "formulas") else if d then Not (codes "contents") else Is goal

tested : (goal : Cells) (b d : Bool) → nat_lt max_formulas (length (formula_addresses goal)) ≡ b → nat_lt max_contents (length goal) ≡ d → allowed goal ≡ by_tests b d goal
tested goal b d p q = ap (λ x. by_tests x (nat_lt max_contents (length goal)) goal) p ∙ ap (λ x. by_tests b x goal) q

module _ (old goal new : Cells) where
  pub puts_of : (r : Result (Unit {0}) PutFault) → Answers r old goal new → Puts r (allowed goal) old new
  puts_of (Ok x) h =
      tested goal false false (not_less max_formulas (length (formula_addresses goal)) h.1) (not_less max_contents (length goal) h.2) ∙ ap (λ (S : Cells). Is S) (sym h.0)
  puts_of (Err f.Formulas) h = (h.0, tested goal true (nat_lt max_contents (length goal)) (less max_formulas (length (formula_addresses goal)) h.1) refl)
  puts_of (Err f.Contents) h = (h.0, tested goal false true (not_less max_formulas (length (formula_addresses goal)) h.1) (less max_contents (length goal) h.2))
  puts_of (Err f.NoMemory) h = h

  pub put_kept : (e : PutFault) → Answers (Err e) old goal new → new ≡ old
  put_kept f.Formulas h = h.0
  put_kept f.Contents h = h.0
  put_kept f.NoMemory h = h

-- the marks of a content that is put
pub put_marks : (r : Result (Unit {0}) PutFault) (a : Addr) (old new : View) → new.tables ≡ old.tables → new.version ≡ old.version → OnOk r (new.touched ≡ old.touched ++ a ∷ []) → OnErr r (new.touched ≡ old.touched) → Marks (marked_by r (a ∷ [])) old new
put_marks (Ok x) a old new t v h k = record { tables = t; made_for = v; touched = h }
put_marks (Err e) a old new t v h k = record { tables = t; made_for = v; touched = k ∙ sym (append-nil old.touched) }
