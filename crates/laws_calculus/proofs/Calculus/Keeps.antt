-- A table of a round keeps all its keys for that round.
use Rattle.std.proofs.Common.{◌≡◌, inl, inr, ◌+◌, ◌≤◌, ◌==◌, List, [], ◌∷◌, Bool, true, false, ◌&&◌, Option, Some, None, length, refl, sym, subst, arith, slice_get}
use Rattle.std.specs.List.{list_any}
use Rattle.std.proofs.lemmas.Bool.{eq-eqb}
use Rattle.gl_calculus.specs.Computation.Lists.{Member}
use Rattle.gl_calculus.specs.Computation.Query.{Has, Loops}
use Rattle.gl_calculus.specs.Computation.Demanded.{Read}
use Rattle.gl_calculus.specs.Computation.Notes.{Note, IsReached, Here, Through}
use Rattle.laws_calculus.proofs.Query.Looping.{asked_on_path, asked_has}
use Rattle.laws_calculus.proofs.Query.Ordered.{key_of}
use Rattle.laws_calculus.proofs.Query.Reached.{fresh_back}
use Rattle.gl_calculus.specs.Grid.Grid.{Addr, same_addr, Range, addresses}
use Rattle.gl_calculus.specs.Values.Value.{Oracle, Permit}
use Rattle.gl_calculus.specs.Evaluation.Oracle.{status, Cover, cover}
use Rattle.gl_calculus.specs.Values.Same.{is_permitted}
use Rattle.gl_calculus.specs.Evaluation.Key.{Key, same_key, Outcome}
use Rattle.gl_calculus.specs.Evaluation.World.{World, world}
use Rattle.gl_calculus.specs.Evaluation.Evaluation.{program}
use Rattle.gl_calculus.specs.Calculation.Memory.{Table, base, same_status, same_cover, differs_at, differs_in, IsKeptKey, IsTableOf}
use Rattle.gl_calculus.specs.Computation.Notes.{note_keys}
use Rattle.gl_calculus.proofs.Tests.{and_true, addr_same, bool_same}
use Rattle.laws_calculus.proofs.Calculus.Single.{one_round}
use Rattle.gl_calculus.specs.Steps.Costs.{IsAnew}
use Rattle.laws_calculus.specs.Calculus.{AllKept, NothingAsked}
use Rattle.laws_calculus.proofs.Calculus.Allowances.{no_steps}

status_itself : (s : Option Permit) → same_status s s ≡ true
status_itself None = refl
status_itself (Some p) = bool_same (is_permitted p)

cover_itself : (c : Option Cover) → same_cover c c ≡ true
cover_itself None = refl
cover_itself (Some c) = and_true (same_addr c.root c.root && (c.rows == c.rows)) (c.cols == c.cols) (and_true (same_addr c.root c.root) (c.rows == c.rows) (addr_same c.root) (eq-eqb c.rows c.rows refl)) (eq-eqb c.cols c.cols refl)

same_there : (w : Oracle) (a : Addr) → differs_at [] w w a ≡ false
same_there w a = rw (status_itself (status w a), cover_itself (cover w a)) refl

none_any : {X : Type 0} (p : X → Bool) → ((x : X) → p x ≡ false) → (xs : List X) → list_any p xs ≡ false
none_any p h [] = refl
none_any p h (x ∷ xs) = rw (h x) (none_any p h xs)

same_in : (w : Oracle) (r : Range) → differs_in [] w w r ≡ false
same_in w r = none_any (differs_at [] w w) (same_there w) (addresses r)

member_note : (ns : List (Note Key Outcome Range)) (k : Key) → Member k (note_keys ns) → (n : Note Key Outcome Range) × Member n ns × (n.key ≡ k)
member_note [] k m = absurd m
member_note (n ∷ ns) k (inl e) = (n, inl refl, sym e)
member_note (n ∷ ns) k (inr m) = let (l, i, e) = member_note ns k m in (l, inr i, e)

module _ (W : World) (t : Table) (h : IsTableOf W t) where
  -- what a noted key read is noted
  read_noted : (n : Note Key Outcome Range) → Member n t.notes → (j : Key) → Member j n.reads → Member j (note_keys t.notes)
  read_noted n m j r =
      let (ks, p, d) = h.true_notes n m in
      let i : Member j ks = fresh_back same_key ks [] j (subst (Member j) d r) in
      let (o, g) = asked_has (program W) (Loops (program W)) p j i in
      h.complete j o (Read (h.demanded n.key (key_of t.notes n m)) (asked_on_path (program W) (Loops (program W)) p j i)) g

  reached : (k j : Key) → Member k (note_keys t.notes) → IsReached t.notes k j → Member j (note_keys t.notes)
  reached k _ m Here = m
  reached k j m (Through n i w e r s) = reached i j (read_noted n w i r) s

  pub kept : (k : Key) → Member k (note_keys t.notes) → IsKeptKey t [] W.oracle k
  kept k m j r =
      let (n, i, e) = member_note t.notes j (reached k j m r) in
      (n, i, e, λ a l. subst (λ v. differs_in [] v W.oracle a ≡ false) (sym h.oracle) (same_in W.oracle a))

pub all_kept : AllKept
all_kept W t h k m = kept W t h k m

pub nothing_asked : NothingAsked
nothing_asked version S tables before i w n a f = (no_steps (world version S w) _ n, λ l ks d each small. by ks each (a.all i w f l))
  where
    by : (ks : List Key) → ((k : Key) → Member k ks → IsAnew (world version S w) (base (slice_get tables i) [] before) k × ((o : Outcome) × Has (program (world version S w)) k o)) → (t : Table) × (slice_get tables i ≡ Some t) → n + length ks ≤ n
    by [] each p = omega arith
    by (k ∷ ks) each (t, e) =
        let ((d, out), (o, g)) = each k (inl refl) in
        let (v, fin, tab) = a.each i t e in
        let q : v ≡ w = one_round version S i v w fin.0 f.0 in
        let tab' : IsTableOf (world version S w) t = subst (λ u. IsTableOf (world version S u) t) q tab in
        let here : IsKeptKey t [] w k = kept (world version S w) t tab' k (tab'.complete k o d g) in
        absurd (out (subst (λ x. IsKeptKey (base x [] before).0 (base x [] before).1 w k) (sym e) here))
