-- Clocks and limits of replicas.
use Rattle.std.proofs.Common.{◌≡◌, ◌⊎◌, inl, inr, ℕ, ◌+◌, ◌-◌, ◌≤◌, Bool, true, false, cond, List, [], ◌∷◌, Option, Some, None, IfSome, IsSome, is_some, Result, Ok, Err, OnOk, is_err, sym, subst, arith, IsTrue}
use Rattle.std.specs.List.{AllByRecursion}
use Rattle.std.proofs.lemmas.Bool.Decides.{nat_tests}
use Rattle.std.proofs.lemmas.Grind.{common_steps}
use Rattle.gl_calculus.specs.Grid.Grid.{Addr, same_addr}
use Rattle.gl_calculus.specs.Edits.Limits.{max_time, max_registers}
use Rattle.gl_calculus.specs.Edits.Replicas as R
use Rattle.gl_calculus.specs.Edits.Replicas.{Stamp, stamp, is_stamp, is_earlier, register_at, IsOlder}
use Rattle.gl_merge.specs.Edit.{EditValue}
use Rattle.gl_merge.specs.Index.{Index, trees, listed, registers, StandsAt}
use Rattle.gl_merge.proofs.Listed.{listed_all}
use Rattle.gl_merge.proofs.Lists.{all_at, one_if_not}

pub stamp_within : (t n : ℕ) → IsTrue (is_stamp t n) → t ≤ max_time
stamp_within t n h = grind (arith, nat_tests)

pub few_after : (o : Option R.Edit) (n spare : ℕ) → IsSome o ⊎ (1 ≤ spare) → spare ≤ max_registers - n → n ≤ max_registers → n + one_if_not (is_some o) ≤ max_registers
few_after None n spare (inl h) k l = cc h
few_after None n spare (inr h) k l = omega arith
few_after (Some r) n spare h k l = omega arith

times : (n : ℕ) (xs : List EditValue) → AllByRecursion (λ (d : EditValue). d.stamp.time ≤ n) xs → AllByRecursion (λ (r : R.Edit). r.stamp.time ≤ n) (trees xs)
times n [] h = tt
times n (x ∷ xs) h = (h.0, times n xs h.1)

pub past_registers : (n : ℕ) (es : List EditValue) (ix : Index) → AllByRecursion (StandsAt es) ix → AllByRecursion (λ (d : EditValue). d.stamp.time ≤ n) es → AllByRecursion (λ (r : R.Edit). r.stamp.time ≤ n) (registers es ix)
past_registers n es ix h p = times n (listed es ix) (listed_all (λ (d : EditValue). d.stamp.time ≤ n) es ix h (λ i e g. all_at (λ (d : EditValue). d.stamp.time ≤ n) es i e p g))

earlier : (s : Stamp) (clock site : ℕ) → s.time ≤ clock → IsTrue (is_earlier s (stamp (clock + 1) site))
earlier s clock site h = grind (arith, common_steps)

older : (clock site : ℕ) (rs : List R.Edit) (a : Addr) → AllByRecursion (λ (r : R.Edit). r.stamp.time ≤ clock) rs → IsOlder (register_at rs a) (stamp (clock + 1) site)
older clock site [] a h = tt
older clock site (r ∷ rs) a h = by (same_addr a r.place) (older clock site rs a h.1)
  where
    by : (b : Bool) → IsOlder (register_at rs a) (stamp (clock + 1) site) → IsOlder (cond b (Some r) (register_at rs a)) (stamp (clock + 1) site)
    by true ih = earlier r.stamp clock site h.0
    by false ih = ih

-- the next stamp wins over each register
pub next_wins : (clock site : ℕ) (o : Option Stamp) (rs : List R.Edit) → o ≡ cond (is_stamp (clock + 1) site) (Some (stamp (clock + 1) site)) None → AllByRecursion (λ (r : R.Edit). r.stamp.time ≤ clock) rs → IfSome o (λ t. (a : Addr) → IsOlder (register_at rs a) t)
next_wins clock site o rs e h = subst (λ (p : Option Stamp). IfSome p (λ t. (a : Addr) → IsOlder (register_at rs a) t)) (sym e) (by (is_stamp (clock + 1) site))
  where
    by : (b : Bool) → IfSome (cond b (Some (stamp (clock + 1) site)) None) (λ t. (a : Addr) → IsOlder (register_at rs a) t)
    by true = λ a. older clock site rs a h
    by false = tt

pub on_ok : {A E P : Type 0} (r : Result A E) → is_err r ≡ false → OnOk r P → P
on_ok (Ok x) e h = h
on_ok (Err x) e h = cc e

pub same_replica : (site m n : ℕ) (rs ss : List R.Edit) → m ≡ n → rs ≡ ss → ◌≡◌ {A = R.Replica} (record { site = site; clock = m; registers = rs }) (record { site = site; clock = n; registers = ss })
same_replica site m n rs ss e f = λ i. record { site = site; clock = e i; registers = f i }
