-- A core that begins with its seeds alone.
use Rattle.std.proofs.Common.{slice_index, ◌≡◌, ℕ, zero, suc, ◌<◌, List, [], ◌∷◌, ◌++◌, length, refl, sym, ap, ◌∙◌, subst, arith}
use Rattle.gl_calculus.specs.Computation.Lists.{AreDistinct}
use Rattle.gl_machine.specs.Machine as Machine
use Rattle.gl_calculus.specs.Evaluation.Key as K
use Rattle.gl_core.specs.State.{entries, status_tree}
use Rattle.gl_core.specs.Numbers.{Each, key_at, keys_at, outcome_at, AreNumbers}
use Rattle.gl_core.specs.Ledger.{IsLedger}
use Rattle.gl_core.specs.Table.{known_keys, table_of, IsTable, IsCore, AreIdle}
use Rattle.gl_core.specs.declared.ledger.Ledger.{Ledger}
use Rattle.gl_core.specs.declared.entries.Entries.{Entries}
use Rattle.gl_core.specs.declared.status.Status.{Status}
use Rattle.gl_core.specs.declared.status.Status.TheVariants.{Idle, Resolved}
use Rattle.gl_core.proofs.Passed.{none_passed}
use Rattle.gl_core.proofs.Numbered.{key_in, length-map}

-- numbers of distinct keys are distinct
pub apart_back : (ks : List K.Key) (ns : List ℕ) → AreDistinct (keys_at ks ns) → AreDistinct ns
apart_back ks [] d = tt
apart_back ks (n ∷ ns) d = ((λ m. d.0 (key_in ks n ns m)), apart_back ks ns d.1)

-- idle keys are a start
pub idle_state : (outs : ℕ → K.Outcome) (known ks : List K.Key) (ss : List Status) → length ss ≡ length ks → AreIdle ss → entries outs known ks ss ≡ Machine.start ks
idle_state outs known [] ss l h = refl
idle_state outs known (k ∷ ks) [] l h = absurd (omega arith)
idle_state outs known (k ∷ ks) (s ∷ ss) l h =
    let a : s ≡ Idle = h 0 s refl in
    let b = idle_state outs known ks ss (omega arith) (λ p t e. h (suc p) t e) in
    ap (λ t. record { key = k; status = status_tree outs known t } ∷ entries outs known ks ss) a ∙ ap (λ t. record { key = k; status = Machine.Idle } ∷ t) b

pub idle_core : (l : Ledger) (e : Entries) (ns : List ℕ) → IsLedger l → IsTable e → e.known.items ≡ ns → Each (λ n. n < length l.book) ns → AreIdle e.statuses.items.items → ((q : ℕ) → slice_index e.passed.items q ≡ 0) → IsCore l e
idle_core l e ns h t k a i z = record {
  ledger = h;
  table = t;
  below = subst (λ (x : List ℕ). Each (λ n. n < length l.book) x) (sym k) a;
  resolved = λ p r d. (let non : Resolved r ≡ Idle = i p (Resolved r) d in absurd (cc non));
  passed = none_passed l e z;
}

-- one more idle status
pub idle_more : (ss : List Status) → AreIdle ss → AreIdle (ss ++ Idle ∷ [])
idle_more [] h zero s e = let d : Idle ≡ s = cc in sym d
idle_more [] h (suc p) s e = absurd (cc e)
idle_more (x ∷ ss) h zero s e = h 0 s e
idle_more (x ∷ ss) h (suc p) s e = idle_more ss (λ q t f. h (suc q) t f) p s e

pub numbers_length : (ks js : List K.Key) (ns : List ℕ) → AreNumbers ks ns js → length ns ≡ length js
numbers_length ks js ns a = sym (length-map (key_at ks) ns) ∙ ap length a.0

pub idle_none : (ss : List Status) → length ss ≡ 0 → AreIdle ss
idle_none [] l p s e = absurd (cc e)
idle_none (x ∷ ss) l p s e = absurd (omega arith)

-- the core of seeds
module _ (l : Ledger) (e : Entries) (ns : List ℕ) (ks : List K.Key) (h : IsLedger l) (t : IsTable e) (known : e.known.items ≡ ns) (a : AreNumbers l.book ns ks) (idle : AreIdle e.statuses.items.items) where
  pub seeded_core : ((q : ℕ) → slice_index e.passed.items q ≡ 0) → IsCore l e
  seeded_core z = idle_core l e ns h t known a.1 idle z

  pub seeded_state : table_of l e ≡ Machine.start ks
  seeded_state =
      idle_state (outcome_at l.rows.items) (known_keys l e) (known_keys l e) e.statuses.items.items (t.statuses ∙ sym (length-map (key_at l.book) e.known.items)) idle
      ∙ ap (λ (js : List K.Key). Machine.start {O = K.Outcome} js) (ap (keys_at l.book) known ∙ a.0)
