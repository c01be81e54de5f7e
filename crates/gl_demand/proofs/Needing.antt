-- Which key is needed next: the parts put together.
use Rattle.std.proofs.Common.{◌≡◌, ℕ, ◌+◌, ◌≤◌, List, [], ◌∷◌, ◌++◌, map, length, slice_get, Option, Some, None, option_map, true, false, cond, refl, ap, sym, subst, ◌∙◌}
use Rattle.std.proofs.Math.ListN.{drop_of_length-le}
use Rattle.gl_calculus.specs.Computation.Query.{next}
use Rattle.gl_calculus.specs.Grid.Grid.{Addr, Range, addresses}
use Rattle.gl_calculus.specs.Formulas.Formula.{Cells}
use Rattle.gl_calculus.specs.Values.Value.{Oracle, Frame}
use Rattle.gl_calculus.specs.Evaluation.Oracle.{Cover}
use Rattle.gl_calculus.specs.Evaluation.Facts.{fact}
use Rattle.gl_plane.specs.Entries.{offsets}
use Rattle.gl_calculus.specs.Evaluation.Key as K
use Rattle.gl_machine.specs.Ahead.Ahead.{first_lacked, AreThrough, LackSame}
use Rattle.gl_machine.specs.Ahead.Demands.{is_value, own_keys, address_keys, range_keys, round_keys}
use Rattle.gl_machine.specs.Ahead.Reading.{Area, Round, keys_from}
use Rattle.laws_calculus.proofs.Ahead.Onward.{past}
use Rattle.gl_demand.specs.View.{key_tree}
use Rattle.gl_demand.specs.Lacking.{IsPassing, IsNext}
use Rattle.gl_demand.specs.declared.lacking.Lacked.{Lacked}
use Rattle.gl_demand.specs.declared.lacking.Passing.TheVariants.{On, Lacks, Ends}
use Rattle.gl_demand.proofs.Counting.{drop_at}

-- ---- one key

module _ (f : K.Key → Option K.Outcome) where
  pub passes_on : (k : K.Key) (o : K.Outcome) → f k ≡ Some o → is_value o ≡ true → AreThrough is_value f (k ∷ [])
  passes_on k o e t = ((o, e, t), tt)

  pub passes_no_more : (k : K.Key) (o : K.Outcome) → f k ≡ Some o → is_value o ≡ false → (js : List K.Key) → first_lacked is_value f (k ∷ [] ++ js) ≡ None
  passes_no_more k o e t js = ap (λ v. next (Some k) v (λ x. cond (is_value x) (first_lacked is_value f js) None)) e ∙ ap (λ b. cond b (first_lacked is_value f js) None) t

  pub lacks_first : (k : K.Key) (js : List K.Key) → f k ≡ None → first_lacked is_value f (k ∷ js) ≡ Some k
  lacks_first k js e = ap (λ v. next (Some k) v (λ x. cond (is_value x) (first_lacked is_value f js) None)) e

-- ---- a root that covers

pub cover_found : (o : Option Cover) (p : Addr × ℕ × ℕ) → Some p ≡ option_map offsets o → Some (record { root = p.0; rows = p.1; cols = p.2 }) ≡ o
cover_found None p h = absurd (cc h)
cover_found (Some c) p h = let e : p ≡ offsets c = cc in ap (λ q. Some (record { root = q.0; rows = q.1; cols = q.2 })) e

pub cover_lacks : (o : Option Cover) → None ≡ option_map offsets o → None ≡ o
cover_lacks None h = refl
cover_lacks (Some c) h = absurd (cc h)

-- ---- place by place

pub start_same : (f : K.Key → Option K.Outcome) (keys : ℕ → List K.Key) (from : ℕ) → LackSame is_value f (keys from) (keys from)
start_same f keys from g m = refl

module _ (f : K.Key → Option K.Outcome) where
  module _ (keys : ℕ → List K.Key) (from i : ℕ) (same : LackSame is_value f (keys from) (keys i)) where
    here : first_lacked is_value f (keys from) ≡ first_lacked is_value f (keys i)
    here = same f (λ k o d. d)

    -- at the end
    pub none_left : keys i ≡ [] → IsNext f keys from None
    none_left e = here ∙ ap (first_lacked is_value f) e

    module _ (ks : List K.Key) (step : keys i ≡ ks ++ keys (i + 1)) where
      pub goes_through : IsPassing f ks On → LackSame is_value f (keys from) (keys (i + 1))
      goes_through t g m = same g m ∙ ap (first_lacked is_value g) step ∙ past is_value f g m ks (keys (i + 1)) t

      pub is_lacked : (x : Lacked) → x.place ≡ i → IsPassing f ks (Lacks x.key) → IsNext f keys from (Some x)
      is_lacked x p t = (
        here ∙ ap (first_lacked is_value f) (step ∙ ap (λ l. l ++ keys (i + 1)) t.0) ∙ lacks_first f (key_tree x.key) (keys (i + 1)) t.1,
        subst (λ n. LackSame is_value f (keys from) (keys n)) (sym p) same,
        t.2,
      )

      pub ends_all : IsPassing f ks Ends → IsNext f keys from None
      ends_all t = here ∙ ap (first_lacked is_value f) step ∙ t (keys (i + 1))

-- ---- the keys of a range and of a round, place by place

module _ (S : Cells) (w : Oracle) (e : Frame) (r : Range) where
  pub area_step : (i : ℕ) (a : Addr) → Some a ≡ slice_get (addresses r) i → keys_from S w (Area e r) i ≡ address_keys (fact S w) e (fact S w a) ++ keys_from S w (Area e r) (i + 1)
  area_step i a h = ap (λ l. range_keys (fact S w) e (map (fact S w) l)) (drop_at (addresses r) i a h)

  pub round_step : (i : ℕ) (a : Addr) → Some a ≡ slice_get (addresses r) i → keys_from S w (Round e r) i ≡ own_keys e (fact S w a) ++ keys_from S w (Round e r) (i + 1)
  round_step i a h = ap (λ l. round_keys e (map (fact S w) l)) (drop_at (addresses r) i a h)

  pub area_end : (i : ℕ) → length (addresses r) ≤ i → keys_from S w (Area e r) i ≡ []
  area_end i h = ap (λ l. range_keys (fact S w) e (map (fact S w) l)) (drop_of_length-le (addresses r) h)

  pub round_end : (i : ℕ) → length (addresses r) ≤ i → keys_from S w (Round e r) i ≡ []
  round_end i h = ap (λ l. round_keys e (map (fact S w) l)) (drop_of_length-le (addresses r) h)
