-- The first reads of a formula gone through, part by part.
use Rattle.std.proofs.Common.{◌≡◌, ℕ, zero, suc, ◌+◌, ◌≤◌, ◌<◌, List, [], ◌∷◌, ◌++◌, length, drop, slice_get, Some, None, Result, Ok, Err, get_or, inl, inr, refl, ap, sym, subst, ◌∙◌, arith}
use Rattle.std.proofs.Math.ListN.{drop_of_length-le}
use Rattle.std.proofs.lemmas.List.{at_drop_more, at_drop_all}
use Rattle.std.proofs.lemmas.Bool.{cases_lt}
use Rattle.gl_calculus.specs.Grid.Grid.{Addr}
use Rattle.gl_calculus.specs.Values.Value.{Frame}
use Rattle.gl_calculus.specs.Evaluation.Facts.{fact}
use Rattle.gl_calculus.specs.Evaluation.Key as K
use Rattle.gl_plane.specs.declared.NoMemory.{NoMemory}
use Rattle.gl_machine.specs.Ahead.Ahead.{first_lacked, AreThrough, LackSame}
use Rattle.gl_machine.specs.Ahead.Demands.{is_value, address_keys, reads_keys, first_reads, argument_reads, operand_reads}
use Rattle.laws_calculus.proofs.Ahead.Onward.{past}
use Rattle.gl_demand.specs.View.{key_tree}
use Rattle.gl_demand.specs.Lacking.{IsPassing, IsNext}
use Rattle.gl_demand.specs.Passing.{own_keys_from, Stands, Passes}
use Rattle.gl_demand.specs.Walk.{Inputs}
use Rattle.gl_demand.specs.declared.lacking.Lacked.{Lacked}
use Rattle.gl_demand.specs.declared.lacking.Passing.{Passing}
use Rattle.gl_demand.specs.declared.lacking.Passing.TheVariants.{On, Lacks, Ends}
use Rattle.gl_demand.specs.declared.own_reads.Way.{Way}
use Rattle.gl_demand.specs.declared.key.Key.{Key}
use Rattle.gl_ast.specs.View.{formula_tree, argument_trees, operand_trees}
use Rattle.gl_ast.specs.declared.Formula.{Formula}
use Rattle.gl_ast.specs.declared.Op.{Op}
use Rattle.gl_demand.proofs.Counting.{drop_at}
use Rattle.gl_demand.proofs.Needing.{lacks_first}

-- ---- lists behind some of their items

pub drop_none : {X : Type 0} (n : ℕ) → drop {A = X} n [] ≡ []
drop_none {X} n = let l : length {A = X} [] ≤ n = omega arith in drop_of_length-le [] l

pub drop_both : {X : Type 0} (xs on : List X) (n i s : ℕ) → i + s ≡ n → i ≤ length xs → (0 < s → i ≡ length xs) → drop n (xs ++ on) ≡ drop i xs ++ drop s on
drop_both [] on n zero s e l h = let d : n ≡ s = omega (arith, e) in ap (λ m. drop m on) d
drop_both [] on n (suc i) s e l h = absurd (omega arith)
drop_both (x ∷ xs) on n zero zero e l h = let d : n ≡ 0 = omega (arith, e) in ap (λ m. drop m (x ∷ xs ++ on)) d
drop_both (x ∷ xs) on n zero (suc s) e l h = let l : 0 < suc s = omega arith in let d : 0 ≡ length (x ∷ xs) = h l in absurd (omega (arith, d))
drop_both (x ∷ xs) on n (suc i) s e l h =
    let d : n ≡ suc (i + s) = omega (arith, e) in
    ap (λ m. drop m (x ∷ xs ++ on)) d ∙ drop_both xs on (i + s) i s refl (omega (arith, l)) (λ p. let d : suc i ≡ length (x ∷ xs) = h p in omega (arith, d))

pub drop_next : {X : Type 0} (xs : List X) (n : ℕ) (y : X) (ys : List X) → drop n xs ≡ y ∷ ys → drop (n + 1) xs ≡ ys
drop_next [] n y ys e = absurd (let d : [] ≡ y ∷ ys = sym (drop_none n) ∙ e in cc d)
drop_next (x ∷ xs) zero y ys e = let d : x ∷ xs ≡ y ∷ ys = e in cc d
drop_next (x ∷ xs) (suc n) y ys e = let d : suc n + 1 ≡ suc (n + 1) = omega arith in ap (λ m. drop m (x ∷ xs)) d ∙ drop_next xs n y ys e

-- ---- one part after another

module _ (w : Inputs) (e : Frame) where
  abbrev keys : List Addr → List K.Key
  keys = reads_keys (fact w.cells w.oracle) e

  pub passes_on : (way : Way) → Passes w e (λ on. on) way (Ok On) way
  passes_on way all from on s = s

  -- what is left needs nothing
  ends_at : (all : List Addr) (from : ℕ) (left : List Addr) (place : ℕ) → Stands w e all from left place → left ≡ [] → first_lacked is_value w.known (own_keys_from w e all from) ≡ None
  ends_at all from left place s n = s.0 w.known (λ k o d. d) ∙ ap (λ l. first_lacked is_value w.known (keys l)) n

  pub passes_end : (way : Way) → Passes w e (λ on. []) way (Ok Ends) way
  passes_end way all from on s = ends_at all from (drop way.skip []) way.place s (drop_none way.skip)

  module _ (f g : List Addr → List Addr) (old mid : Way) where
    pub passes_then : (r : Result Passing NoMemory) (new : Way) → Passes w e f old (Ok On) mid → Passes w e g mid r new → Passes w e (λ on. f (g on)) old r new
    passes_then (Ok p) new a b = λ all from on s. b all from on (a all from (g on) s)
    passes_then (Err n) new a b = tt

    pub lacks_then : (k : Key) → Passes w e f old (Ok (Lacks k)) mid → Passes w e (λ on. f (g on)) old (Ok (Lacks k)) mid
    lacks_then k a all from on s = a all from (g on) s

    pub ends_then : Passes w e f old (Ok Ends) mid → Passes w e (λ on. f (g on)) old (Ok Ends) mid
    ends_then a all from on s = a all from (g on) s

  -- nothing is known of what follows
  module _ (f : List Addr → List Addr) (old new : Way) where
    pub ends_behind : Passes w e f old (Ok On) new → Passes w e (λ on. f []) old (Ok Ends) new
    ends_behind a all from on s = ends_at all from (drop new.skip []) new.place (a all from [] s) (drop_none new.skip)

  -- ---- the addresses of a range

  -- from here on these are left of the range, and what follows behind them
  abbrev pub IsLeft : (List Addr → List Addr) → Way → List Addr → Way → Type 0
  IsLeft f old left new = (all : List Addr) (from : ℕ) (on : List Addr) → Stands w e all from (drop old.skip (f on)) old.place → Stands w e all from (left ++ drop new.skip on) new.place

  pub enters : (xs : List Addr) (old new : Way) (i : ℕ) → i + new.skip ≡ old.skip → i ≤ length xs → (0 < new.skip → i ≡ length xs) → new.place ≡ old.place → IsLeft (λ on. xs ++ on) old (drop i xs) new
  enters xs old new i a l h p all from on s =
      subst (λ z. Stands w e all from (drop i xs ++ drop new.skip on) z) (sym p) (subst (λ z. Stands w e all from z old.place) (drop_both xs on old.skip i new.skip a l h) s)

  through : (all : List Addr) (from : ℕ) (a : Addr) (left : List Addr) (place place' : ℕ) → AreThrough is_value w.known (address_keys (fact w.cells w.oracle) e (fact w.cells w.oracle a))
      → (place < 4294967295 → place' ≡ place + 1) → (4294967295 ≤ place → place' ≡ place) → Stands w e all from (a ∷ left) place → Stands w e all from left place'
  through all from a left place place' t h k s = elim (cases_lt place 4294967295) [
    | inl l ↦
        let d : drop place' all ≡ left = ap (λ n. drop n all) (h l) ∙ drop_next all place a left (s.2 l) in
        (first, subst (λ z. LackSame is_value w.known (own_keys_from w e all from) (keys z)) (sym d) first, λ m. d)
    | inr l ↦ (first, subst (λ n. LackSame is_value w.known (own_keys_from w e all from) (own_keys_from w e all n)) (sym (k l)) s.1, λ m. absurd (let d = k l in omega (arith, d, l, m)))
  ]
    where
      first : LackSame is_value w.known (own_keys_from w e all from) (keys left)
      first g m = s.0 g m ∙ past is_value w.known g m (address_keys (fact w.cells w.oracle) e (fact w.cells w.oracle a)) (keys left) t

  module _ (f : List Addr → List Addr) (old : Way) (xs : List Addr) (i : ℕ) (a : Addr) (way : Way) (at : Some a ≡ slice_get xs i) (inv : IsLeft f old (drop i xs) way) where
    here : IsLeft f old (a ∷ drop (i + 1) xs) way
    here all from on s = subst (λ l. Stands w e all from (l ++ drop way.skip on) way.place) (drop_at xs i a at) (inv all from on s)

    pub left_next : (new : Way) → IsPassing w.known (address_keys (fact w.cells w.oracle) e (fact w.cells w.oracle a)) On → new.skip ≡ way.skip
        → (way.place < 4294967295 → new.place ≡ way.place + 1) → (4294967295 ≤ way.place → new.place ≡ way.place) → IsLeft f old (drop (i + 1) xs) new
    left_next new t m h k all from on s =
        subst (λ n. Stands w e all from (drop (i + 1) xs ++ drop n on) new.place) (sym m) (through all from a (drop (i + 1) xs ++ drop way.skip on) way.place new.place t h k (here all from on s))

    pub left_lacks : (k : Key) → IsPassing w.known (address_keys (fact w.cells w.oracle) e (fact w.cells w.oracle a)) (Lacks k) → Passes w e f old (Ok (Lacks k)) way
    left_lacks k t all from on s =
        let rest = keys (drop (i + 1) xs ++ drop way.skip on) in
        let n = here all from on s in
        (n.0 w.known (λ k o d. d) ∙ ap (λ l. first_lacked is_value w.known (l ++ rest)) t.0 ∙ lacks_first w.known (key_tree k) rest t.1, n.1, t.2)

    pub left_ends : IsPassing w.known (address_keys (fact w.cells w.oracle) e (fact w.cells w.oracle a)) Ends → Passes w e f old (Ok Ends) way
    left_ends t all from on s = (here all from on s).0 w.known (λ k o d. d) ∙ t (keys (drop (i + 1) xs ++ drop way.skip on))

  pub left_none : (f : List Addr → List Addr) (old way : Way) (xs : List Addr) (i : ℕ) → length xs ≤ i → IsLeft f old (drop i xs) way → Passes w e f old (Ok On) way
  left_none f old way xs i l inv all from on s = subst (λ z. Stands w e all from (z ++ drop way.skip on) way.place) (drop_of_length-le xs l) (inv all from on s)

  -- ---- operands and arguments, one after another

  module _ {X : Type 0} (parts : List X → List Addr → List Addr) (own : X → List Addr → List Addr) (xs : List X) (old : Way) where
    -- those from the i-th on are left
    abbrev pub PartsLeft : ℕ → Way → Type 0
    PartsLeft i way = (all : List Addr) (from : ℕ) (on : List Addr) → Stands w e all from (drop old.skip (parts xs on)) old.place → Stands w e all from (drop way.skip (parts (drop i xs) on)) way.place

    module _ (split : (x : X) (ys : List X) (on : List Addr) → parts (x ∷ ys) on ≡ own x (parts ys on)) (i : ℕ) (x : X) (way new : Way) (l : i < length xs) (is : x ≡ get_or xs i x) (inv : PartsLeft i way) where
      at_part : (all : List Addr) (from : ℕ) (on : List Addr) → Stands w e all from (drop old.skip (parts xs on)) old.place → Stands w e all from (drop way.skip (own x (parts (drop (i + 1) xs) on))) way.place
      at_part all from on s =
          subst (λ z. Stands w e all from (drop way.skip z) way.place)
          (at_drop_more (λ ys. parts ys on) xs i x l ∙ ap (λ t. parts (t ∷ drop (i + 1) xs) on) (sym is) ∙ split x (drop (i + 1) xs) on) (inv all from on s)

      pub part_next : Passes w e (own x) way (Ok On) new → PartsLeft (i + 1) new
      part_next h all from on s = h all from (parts (drop (i + 1) xs) on) (at_part all from on s)

      pub part_lacks : (k : Key) → Passes w e (own x) way (Ok (Lacks k)) new → Passes w e (parts xs) old (Ok (Lacks k)) new
      part_lacks k h all from on s = h all from (parts (drop (i + 1) xs) on) (at_part all from on s)

      pub part_ends : Passes w e (own x) way (Ok Ends) new → Passes w e (parts xs) old (Ok Ends) new
      part_ends h all from on s = h all from (parts (drop (i + 1) xs) on) (at_part all from on s)

    pub parts_end : ((on : List Addr) → parts [] on ≡ on) → (i : ℕ) (way : Way) → length xs ≤ i → PartsLeft i way → Passes w e (parts xs) old (Ok On) way
    parts_end none i way l inv all from on s = subst (λ z. Stands w e all from (drop way.skip z) way.place) (at_drop_all (λ ys. parts ys on) xs i l ∙ none on) (inv all from on s)

  abbrev pub argument_parts : List Formula → List Addr → List Addr
  argument_parts xs = argument_reads (argument_trees xs)

  abbrev pub operand_parts : List (Op × Formula) → List Addr → List Addr
  operand_parts xs = operand_reads (operand_trees xs)

  abbrev pub formula_part : Formula → List Addr → List Addr
  formula_part f = first_reads (formula_tree f)

  abbrev pub operand_part : Op × Formula → List Addr → List Addr
  operand_part x = first_reads (formula_tree x.1)

  abbrev pub ArgumentsLeft : List Formula → Way → ℕ → Way → Type 0
  ArgumentsLeft xs old i way = PartsLeft argument_parts formula_part xs old i way

  abbrev pub OperandsLeft : List (Op × Formula) → Way → ℕ → Way → Type 0
  OperandsLeft xs old i way = PartsLeft operand_parts operand_part xs old i way

  -- ---- a whole formula

  start : (all : List Addr) (from : ℕ) → Stands w e all from (drop from all) from
  start all from = (λ g m. refl, λ g m. refl, λ l. refl)

  module _ (f : List Addr → List Addr) (from : ℕ) (old new : Way) (skip : old.skip ≡ from) (place : old.place ≡ from) where
    begin : Stands w e (f []) from (drop old.skip (f [])) old.place
    begin = subst (λ n. Stands w e (f []) from (drop n (f [])) old.place) (sym skip) (subst (λ n. Stands w e (f []) from (drop from (f [])) n) (sym place) (start (f []) from))

    pub whole_on : Passes w e f old (Ok On) new → IsNext w.known (own_keys_from w e (f [])) from None
    whole_on h = ends_at (f []) from (drop new.skip []) new.place (h (f []) from [] begin) (drop_none new.skip)

    pub whole_ends : Passes w e f old (Ok Ends) new → IsNext w.known (own_keys_from w e (f [])) from None
    whole_ends h = h (f []) from [] begin

    pub whole_lacks : (x : Lacked) → x.place ≡ new.place → Passes w e f old (Ok (Lacks x.key)) new → IsNext w.known (own_keys_from w e (f [])) from (Some x)
    whole_lacks x p h =
        let s = h (f []) from [] begin in
        (s.0, subst (λ n. LackSame is_value w.known (own_keys_from w e (f []) from) (own_keys_from w e (f []) n)) (sym p) s.1, s.2)

  -- nothing is read
  pub none_read : (all : List Addr) (from : ℕ) → [] ≡ all → IsNext w.known (own_keys_from w e all) from None
  none_read all from i = subst (λ l. IsNext w.known (own_keys_from w e l) from None) i (ap (λ l. first_lacked is_value w.known (keys l)) (drop_none from))
