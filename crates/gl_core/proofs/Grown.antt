-- Ledgers that grow.
use Rattle.std.proofs.Common.{◌≡◌, ℕ, ◌<◌, List, [], ◌∷◌, ◌++◌, length, slice_get, Option, Some, IfSome, sym, ap, ◌∙◌, subst, arith, length-append, append-nil, append_assoc}
use Rattle.gl_calculus.specs.Computation.Lists.{Member}
use Rattle.gl_calculus.specs.Grid.Grid.{Range}
use Rattle.gl_calculus.specs.Evaluation.Key as K
use Rattle.gl_support.specs.declared.row.Row.{Row}
use Rattle.gl_demand.specs.declared.outcome.Outcome.{Outcome}
use Rattle.gl_core.specs.State.{AreSoundNotes}
use Rattle.gl_core.specs.Numbers.{Each, key_at, keys_at, numbers_of, Grows, AreBooked, AreNumbers, IsBelow, IsIndex}
use Rattle.gl_core.specs.Graph.{IsGraphOf}
use Rattle.gl_core.specs.Ledger.{written, IsLedger}
use Rattle.gl_core.specs.Table.{table_of, IsCore}
use Rattle.gl_core.specs.declared.graph.Graph.{Graph}
use Rattle.gl_core.specs.declared.ledger.Ledger.{Ledger}
use Rattle.gl_core.specs.declared.entries.Entries.{Entries}
use Rattle.gl_core.proofs.Wakes.{get_within, get_front}
use Rattle.gl_core.proofs.Numbered.{all_push, map_push, key_is, key_more, keys_more, numbers_below_more, rows_below_more}
use Rattle.gl_core.proofs.Passed.{passed_as, passed_added}
use Rattle.gl_core.proofs.Cores.{table_grown, written_grown}

pub grows_not : (ks : List K.Key) → Grows ks ks
grows_not ks = ([], sym (append-nil ks))

pub grows_twice : (a b c : List K.Key) → Grows a b → Grows b c → Grows a c
grows_twice a b c (m, e) (n, f) = (m ++ n, f ∙ ap (λ t. t ++ n) e ∙ append_assoc a m n)

pub key_grown : (ks js : List K.Key) → Grows ks js → (n : ℕ) → n < length ks → key_at js n ≡ key_at ks n
key_grown ks js (m, e) n h = ap (λ t. key_at t n) e ∙ key_more ks m n h

pub keys_grown : (ks js : List K.Key) → Grows ks js → (ns : List ℕ) → Each (λ n. n < length ks) ns → keys_at js ns ≡ keys_at ks ns
keys_grown ks js (m, e) ns a = ap (λ t. keys_at t ns) e ∙ keys_more ks m ns a

pub below_grown : (ks js : List K.Key) → Grows ks js → (ns : List ℕ) → Each (λ n. n < length ks) ns → Each (λ n. n < length js) ns
below_grown ks js (m, e) ns a = subst (λ t. Each (λ n. n < length t) ns) (sym e) (numbers_below_more ks m ns a)

pub within_grown : (ks js : List K.Key) → Grows ks js → (n : ℕ) → n < length ks → n < length js
within_grown ks js (m, e) n h = subst (λ t. n < length t) (sym e) (let l = length-append ks m in omega (arith, l, h))

-- the same rows over more keys
pub ledger_grown : (l l' : Ledger) → IsLedger l → Grows l.book l'.book → l'.rows.items ≡ l.rows.items → l'.row_of.items ≡ l.row_of.items → l'.graph ≡ l.graph → AreBooked l'.book → IsLedger l'
ledger_grown l l' h (m, e) r p g b = record {
  book = b;
  below = subst (λ (x : List (Row Outcome Range)). Each (IsBelow (length l'.book)) x) (sym r) (subst (λ (x : List K.Key). Each (IsBelow (length x)) l.rows.items) (sym e) (rows_below_more l.book m l.rows.items h.below));
  index = subst (λ (x : List (Row Outcome Range)). IsIndex (numbers_of x) l'.row_of.items) (sym r) (subst (IsIndex (numbers_of l.rows.items)) (sym p) h.index);
  sound = subst AreSoundNotes (sym (written_grown l l' m h e r)) h.sound;
  few = (let s : length l'.rows.items ≡ length l.rows.items = ap length r in omega (arith, s, h.few));
  graph = subst (λ (x : List (Row Outcome Range)). IfSome l'.graph (IsGraphOf x)) (sym r) (subst (λ (x : Option Graph). IfSome x (IsGraphOf l.rows.items)) (sym g) h.graph);
}

module _ (l l' : Ledger) (e : Entries) (c : IsCore l e) (h : IsLedger l') (g : Grows l.book l'.book) (r : l'.rows.items ≡ l.rows.items) where
  pub table_kept_grown : table_of l' e ≡ table_of l e
  table_kept_grown = table_grown l l' e g.0 c g.1 r

  pub written_kept_grown : written l' ≡ written l
  written_kept_grown = written_grown l l' g.0 c.ledger g.1 r

  pub core_grown : IsCore l' e
  core_grown = record {
    ledger = h;
    table = c.table;
    below = below_grown l.book l'.book g e.known.items c.below;
    resolved = λ p i d. (let (x, f, b) = c.resolved p i d in (x, ap (λ (rs : List (Row Outcome Range)). slice_get rs i) r ∙ f, b));
    passed = passed_as l l' e r c.passed;
  }

-- one row more
module _ (l l' : Ledger) (e : Entries) (c : IsCore l e) (h : IsLedger l') (x : Row Outcome Range) (b : l'.book ≡ l.book) (r : l'.rows.items ≡ l.rows.items ++ x ∷ []) (new : Member x.by (numbers_of l.rows.items) → ⊥) where
  pub core_added : IsCore l' e
  core_added = record {
    ledger = h;
    table = c.table;
    below = subst (λ (ks : List K.Key). Each (λ n. n < length ks) e.known.items) (sym b) c.below;
    resolved = λ p i d. (let (y, f, g) = c.resolved p i d in (y, ap (λ (rs : List (Row Outcome Range)). slice_get rs i) r ∙ get_front l.rows.items (x ∷ []) i (get_within l.rows.items i y f) ∙ f, g));
    passed = passed_added l l' e x r new c.passed;
  }

pub grows_as : (a b c : List K.Key) → Grows a b → c ≡ b → Grows a c
grows_as a b c (m, e) f = (m, f ∙ e)

-- one number more
pub numbers_more : (ks js : List K.Key) (ns : List ℕ) (is : List K.Key) (n : ℕ) (k : K.Key) → AreNumbers ks ns is → Grows ks js → slice_get js n ≡ Some k → AreNumbers js (ns ++ n ∷ []) (is ++ k ∷ [])
numbers_more ks js ns is n k a g e = (
  map_push (key_at js) ns n ∙ ap (λ t. t ++ key_at js n ∷ []) (keys_grown ks js g ns a.1 ∙ a.0) ∙ ap (λ t. is ++ t ∷ []) (key_is js n k e),
  all_push (λ m. m < length js) ns n (below_grown ks js g ns a.1) (get_within js n k e),
)
