-- The laws that public functions state.
use Rattle.std.proofs.Common.{◌≡◌, List, [], ◌∷◌, map, false, ◌||◌, not, refl, ap, ◌∙◌, inl, inr}
use Rattle.std.specs.List.{list_any}
use Rattle.gl_calculus.specs.Computation.Lists.{Member}
use Rattle.laws_calculus.proofs.Query.Levels.{Has-one}
use Rattle.laws_calculus.proofs.Query.Asked.{demanded_has}
use Rattle.laws_calculus.proofs.Query.Forming.{same_walk, agree_given}
use Rattle.laws_calculus.proofs.Query.Remember.{coincide, kept_coincide}
use Rattle.gl_calculus.specs.Grid.Grid.{Addr, addresses, Range, same_addr}
use Rattle.gl_calculus.specs.Values.Value.{Oracle}
use Rattle.gl_calculus.specs.Formulas.Formula.{Cells, content}
use Rattle.gl_calculus.specs.Evaluation.Oracle.{status, cover}
use Rattle.gl_calculus.specs.Evaluation.Facts.{fact, facts}
use Rattle.gl_calculus.specs.Evaluation.Key.{same_key}
use Rattle.gl_calculus.specs.Evaluation.World.{world}
use Rattle.gl_calculus.specs.Evaluation.Evaluation.{program, evaluation}
use Rattle.gl_calculus.specs.Calculation.Memory.{same_status, same_cover, differs_at, differs_in}
use Rattle.gl_calculus.specs.Evaluation.Sound.{IsProperKey}
use Rattle.laws_calculus.specs.Calculus.{OneOutcome, AsksProper, DemandsProper, TestsAreExact, OnlyFactsMatter, NotesCoincide, KeptStayTrue, GrantGivesPermits, OnlyGrantGives, OneAnswer, OneShown, SettlesConsistently}
use Rattle.gl_calculus.proofs.Tests.{addr_same, scalar_equality, value_equality, sheet_equality, frame_equality, oracle_equality, key_equality, status_exact, cover_exact}
use Rattle.laws_calculus.proofs.Calculus.Proper as P
use Rattle.laws_calculus.proofs.Calculus.Single.{one_answer, one_shown}
use Rattle.laws_calculus.proofs.Calculus.Settles.{settled_consistent}
use Rattle.gl_calculus.proofs.Grants.{grant_permits, only_grant, neither, not_false, clash}

pub one_outcome : OneOutcome
one_outcome W k x y = Has-one (program W) k x y

pub asks_proper : AsksProper
asks_proper W = P.asks_proper W.sheet W.oracle W.version

pub demands_proper : DemandsProper
demands_proper W seeds k s d = demanded_has (program W) (IsProperKey W.sheet) seeds s (λ j p. asks_proper W j) d

pub tests_are_exact : TestsAreExact
tests_are_exact = (scalar_equality, value_equality, sheet_equality, frame_equality, oracle_equality, key_equality)

pub only_facts_matter : OnlyFactsMatter
unfolding program
only_facts_matter version S S' w w' known k h = same_walk (facts S w) (facts S' w') (λ r. facts S' w' r ≡ facts S w r) (λ r e. e) known (evaluation version k) h

pub notes_coincide : NotesCoincide
unfolding program
notes_coincide version S S' w w' notes t c h =
    let kept = λ (r : Range). facts S' w' r ≡ facts S w r in
    coincide same_key key_equality kept (program (world version S w)) (program (world version S' w')) (agree_given (evaluation version) (facts S w) (facts S' w') kept (λ r e. e)) notes t c h

-- ---- what differs nowhere has the same facts

module _ (S S' : Cells) (w w' : Oracle) (touched : List Addr) (same : (a : Addr) → (Member a touched → ⊥) → content S' a ≡ content S a) where
  not_touched : (bs : List Addr) (a : Addr) → list_any (same_addr a) bs ≡ false → Member a bs → ⊥
  not_touched [] a e m = m
  not_touched (b ∷ bs) a e m =
      let (h, t) = neither (same_addr a b) (list_any (same_addr a) bs) e in
      by h m (not_touched bs a t)
    where
      by : same_addr a b ≡ false → Member a (b ∷ bs) → (Member a bs → ⊥) → ⊥
      by h (inl s) f = clash (rw s (addr_same b)) h
      by h (inr n) f = f n

  same_fact : (a : Addr) → differs_at touched w w' a ≡ false → fact S' w' a ≡ fact S w a
  same_fact a e =
      let (d, c) = neither (list_any (same_addr a) touched || not (same_status (status w' a) (status w a))) (not (same_cover (cover w' a) (cover w a))) e in
      let (t, s) = neither (list_any (same_addr a) touched) (not (same_status (status w' a) (status w a))) d in
      let q = same a (not_touched touched a t) in
      let u = status_exact (status w' a) (status w a) (not_false (same_status (status w' a) (status w a)) s) in
      let v = cover_exact (cover w' a) (cover w a) (not_false (same_cover (cover w' a) (cover w a)) c) in
      rw (q, u, v) refl

  same_facts : (bs : List Addr) → list_any (differs_at touched w w') bs ≡ false → map (fact S' w') bs ≡ map (fact S w) bs
  same_facts [] e = refl
  same_facts (a ∷ bs) e =
      let (h, t) = neither (differs_at touched w w' a) (list_any (differs_at touched w w') bs) e in
      ap (λ x. x ∷ map (fact S' w') bs) (same_fact a h) ∙ ap (λ xs. fact S w a ∷ xs) (same_facts bs t)

pub kept_stay_true : KeptStayTrue
unfolding program
kept_stay_true version S S' w w' touched notes kept same t c k =
    kept_coincide same_key key_equality (differs_in touched w w') (program (world version S w)) (program (world version S' w'))
    (agree_given (evaluation version) (facts S w) (facts S' w') (λ r. differs_in touched w w' r ≡ false) (λ r e. same_facts S S' w w' touched same (addresses r) e)) notes kept t c k

pub grant_gives_permits : GrantGivesPermits
grant_gives_permits bound held xs = grant_permits bound held xs

pub only_grant_gives : OnlyGrantGives
only_grant_gives bound held w = only_grant bound held w

pub settles_consistently : SettlesConsistently
settles_consistently = settled_consistent

pub at_most_one_answer : OneAnswer
at_most_one_answer = one_answer

pub at_most_one_shown : OneShown
at_most_one_shown = one_shown
