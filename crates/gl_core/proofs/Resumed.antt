-- A core that begins with kept notes.
use Rattle.std.proofs.Common.{◌≡◌, ◌⊎◌, ℕ, ◌<◌, Bool, true, List, [], ◌∷◌, ◌++◌, ◌||◌, cond, false, length, take, slice_get, Some, refl, sym, ap, ◌∙◌, subst, inl, inr, arith, length-append}
use Rattle.gl_calculus.specs.Computation.Lists.{Member, AreDistinct, MoreThan}
use Rattle.gl_calculus.specs.Computation.Notes.{Note, IsReached, Here, Through}
use Rattle.gl_machine.specs.Remembered.{AreTrue}
use Rattle.gl_machine.specs.Machine as Machine
use Rattle.gl_machine.specs.Machine.{at, table, keys, IsKnown, IsSound}
use Rattle.gl_calculus.specs.Computation.Demanded.{Demanded, Seed}
use Rattle.laws_calculus.proofs.Query.Started.{sound}
use Rattle.laws_calculus.proofs.Query.Reached.{reached}
use Rattle.gl_calculus.specs.Grid.Limits.{max_demanded}
use Rattle.gl_calculus.specs.Grid.Grid.{Range}
use Rattle.gl_calculus.specs.Formulas.Formula.{Version, Cells}
use Rattle.gl_calculus.specs.Values.Value.{Oracle}
use Rattle.gl_calculus.specs.Evaluation.Key as K
use Rattle.gl_calculus.specs.Evaluation.Key.{same_key}
use Rattle.gl_calculus.specs.Evaluation.World.{world}
use Rattle.gl_calculus.specs.Evaluation.Evaluation.{program}
use Rattle.gl_calculus.specs.Evaluation.Sound.{IsProperKey}
use Rattle.gl_calculus.specs.Calculation.Memory.{Notes}
use Rattle.gl_calculus.proofs.Tests.{key_equality}
use Rattle.gl_support.specs.Rows.{notes_of}
use Rattle.gl_support.specs.declared.row.Row.{Row}
use Rattle.gl_demand.specs.declared.outcome.Outcome.{Outcome}
use Rattle.gl_demand.specs.Marks.{mark_trees}
use Rattle.gl_core.specs.Marks.{TellNothing}
use Rattle.gl_core.specs.State.{entries, status_tree, first_keys, is_noted, IsFor}
use Rattle.gl_core.specs.Numbers.{key_at, keys_at, named, row_notes, numbers_of, outcome_at}
use Rattle.gl_core.specs.Ledger.{written}
use Rattle.gl_core.specs.Resuming.{IsResumed}
use Rattle.gl_core.specs.Table.{known_keys, table_of, IsCore, IsBegun, AreBegun, held}
use Rattle.gl_core.specs.declared.ledger.Ledger.{Ledger}
use Rattle.gl_core.specs.declared.entries.Entries.{Entries}
use Rattle.gl_core.specs.declared.status.Status.{Status}
use Rattle.gl_core.specs.declared.status.Status.TheVariants.{Idle, Waiting, Resolved}
use Rattle.gl_core.proofs.Wakes.{get_there, get_within}
use Rattle.gl_core.proofs.Places.{member_at, place_of, at_place, keys_entries}
use Rattle.gl_core.proofs.Numbered.{get_map, length-map, key_in, keys_apart, outcome_is}
use Rattle.gl_core.proofs.Cores.{readable, known_apart, known_length, known_statuses, known_at, state_length, marks_length}
use Rattle.gl_core.proofs.Queued.{note_named, key_of_number}
use Rattle.gl_core.proofs.Reading.{nothing_ahead}

take_front : {X : Type 0} (xs ys : List X) → take (length xs) (xs ++ ys) ≡ xs
take_front [] ys = refl
take_front (x ∷ xs) ys = ap (λ t. x ∷ t) (take_front xs ys)

keys_both : (ks : List K.Key) (ns ms : List ℕ) → keys_at ks (ns ++ ms) ≡ keys_at ks ns ++ keys_at ks ms
keys_both ks [] ms = refl
keys_both ks (n ∷ ns) ms = ap (λ t. key_at ks n ∷ t) (keys_both ks ns ms)

-- what numbers reach, their keys do
reached_keys : (ks : List K.Key) (rs : List (Row Outcome Range)) (s k : ℕ) → IsReached (notes_of rs) s k → IsReached (row_notes ks rs) (key_at ks s) (key_at ks k)
reached_keys ks rs s _ Here = Here
reached_keys ks rs s k (Through n i m e j r) = Through (named ks n) (key_at ks i) (note_named ks rs n m) (ap (key_at ks) e) (key_in ks i n.reads j) (reached_keys ks rs i k r)

module _ (l : Ledger) (seeds : List K.Key) (all : List ℕ) (r : IsResumed l seeds all) (version : Version) (S : Cells) (w : Oracle) (trues : AreTrue same_key (program (world version S w)) (written l)) where
  -- each known key is demanded
  pub number_demanded : (n : ℕ) → Member n all → Demanded (program (world version S w)) seeds (key_at l.book n)
  number_demanded n m =
      let (s, i, q) = r.closure.reached n m in
      reached K.Key K.Outcome Range same_key (program (world version S w)) seeds (written l) (key_at l.book s) (key_at l.book n) trues (Seed (subst (Member (key_at l.book s)) r.seeded (key_in l.book s r.numbers i))) (reached_keys l.book l.rows.items s n q)

  -- so too many are more than may be demanded
  pub too_many : AreDistinct l.book → max_demanded < length all → MoreThan max_demanded (Demanded (program (world version S w)) seeds)
  too_many apart h =
      let n = length-map (key_at l.book) all in
      (keys_at l.book all, omega (arith, n, h), keys_apart l.book apart all r.closure.below r.closure.apart, λ k m. (let (j, i, e) = key_of_number l.book all k m in subst (Demanded (program (world version S w)) seeds) e (number_demanded j i)))

module _ (l : Ledger) (e : Entries) (c : IsCore l e) (seeds : List K.Key) (r : IsResumed l seeds e.known.items) (b : AreBegun l.rows.items e.known.items e.statuses.items.items)
    (version : Version) (S : Cells) (w : Oracle) (trues : AreTrue same_key (program (world version S w)) (written l)) (proper : (k : K.Key) → Member k seeds → IsProperKey S k) where
  size : length e.statuses.items.items ≡ length (known_keys l e)
  size = known_statuses l e (readable l e c)

  known_is : known_keys l e ≡ seeds ++ keys_at l.book r.closure.rest
  known_is = ap (keys_at l.book) r.closure.first ∙ keys_both l.book r.numbers r.closure.rest ∙ ap (λ t. t ++ keys_at l.book r.closure.rest) r.seeded

  the_keys : keys (table_of l e) ≡ known_keys l e
  the_keys = keys_entries (outcome_at l.rows.items) (known_keys l e) (known_keys l e) e.statuses.items.items size

  pub resumed_seeds : first_keys (length seeds) (table_of l e) ≡ seeds
  resumed_seeds = ap (take (length seeds)) (the_keys ∙ known_is) ∙ take_front seeds (keys_at l.book r.closure.rest)

  -- the status of a known number
  status : (n : ℕ) → Member n e.known.items → (p : ℕ) × (s : Status) × (slice_get e.known.items p ≡ Some n) × (slice_get e.statuses.items.items p ≡ Some s) × (at same_key (table_of l e) (key_at l.book n) ≡ Some (status_tree (outcome_at l.rows.items) (known_keys l e) s))
  status n m =
      let (p, d) = place_of e.known.items n m in
      let h = get_within e.known.items p n d in
      let (s, f) = get_there e.statuses.items.items p (omega (arith, h, c.table.statuses)) in
      (p, s, d, f, at_place (outcome_at l.rows.items) (known_keys l e) e.statuses.items.items p (key_at l.book n) s (known_apart l e (readable l e c)) (known_at l e (readable l e c) p n d) f)

  known_number : (k : K.Key) → IsKnown same_key (table_of l e) k → (n : ℕ) × Member n e.known.items × (key_at l.book n ≡ k)
  known_number k (s, d) = key_of_number l.book e.known.items k (known_back (known_keys l e) e.statuses.items.items k s d)
    where
      known_back : (ks : List K.Key) (ss : List Status) (k : K.Key) (s : Machine.Status K.Key K.Outcome) → at same_key (entries (outcome_at l.rows.items) (known_keys l e) ks ss) k ≡ Some s → Member k ks
      known_back [] ss k s d = absurd (cc d)
      known_back (x ∷ ks) [] k s d = absurd (cc d)
      known_back (x ∷ ks) (y ∷ ss) k s d = by (same_key k x) refl d (known_back ks ss k s)
        where
          by : (b : Bool) → same_key k x ≡ b → cond b (Some (status_tree (outcome_at l.rows.items) (known_keys l e) y)) (at same_key (entries (outcome_at l.rows.items) (known_keys l e) ks ss) k) ≡ Some s → (at same_key (entries (outcome_at l.rows.items) (known_keys l e) ks ss) k ≡ Some s → Member k ks) → Member k (x ∷ ks)
          by true t f g = inl (key_equality.0 _ _ t)
          by false t f g = inr (g f)

  -- a number with a row is resolved
  resolved_number : (n : ℕ) → Member n e.known.items → Member n (numbers_of l.rows.items) → (o : K.Outcome) × (at same_key (table_of l e) (key_at l.book n) ≡ Some (Machine.Resolved o))
  resolved_number n m i = let (p, s, d, f, g) = status n m in by s (b p n s d f) g
    where
      by : (s : Status) → IsBegun l.rows.items n s → at same_key (table_of l e) (key_at l.book n) ≡ Some (status_tree (outcome_at l.rows.items) (known_keys l e) s) → (o : K.Outcome) × (at same_key (table_of l e) (key_at l.book n) ≡ Some (Machine.Resolved o))
      by Idle h g = absurd (h i)
      by (Waiting q) h g = absurd h
      by (Resolved q) h g = (outcome_at l.rows.items q, g)

  cases : (k : K.Key) (s : Machine.Status K.Key K.Outcome) → at same_key (table_of l e) k ≡ Some s → (s ≡ Machine.Idle) ⊎ ((n : Note K.Key K.Outcome Range) × Member n (written l) × (n.key ≡ k) × (s ≡ Machine.Resolved n.outcome) × ((j : K.Key) → Member j n.reads → (o : K.Outcome) × (at same_key (table_of l e) j ≡ Some (Machine.Resolved o))))
  cases k s d =
      let (n, m, i) = known_number k (s, d) in
      let (p, t, f, g, h) = status n m in
      let same : Some (status_tree (outcome_at l.rows.items) (known_keys l e) t) ≡ Some s = sym h ∙ ap (at same_key (table_of l e)) i ∙ d in
      by n m i t (b p n t f g) (let q : status_tree (outcome_at l.rows.items) (known_keys l e) t ≡ s = cc in q)
    where
      by : (n : ℕ) → Member n e.known.items → key_at l.book n ≡ k → (t : Status) → IsBegun l.rows.items n t → status_tree (outcome_at l.rows.items) (known_keys l e) t ≡ s → (s ≡ Machine.Idle) ⊎ ((n : Note K.Key K.Outcome Range) × Member n (written l) × (n.key ≡ k) × (s ≡ Machine.Resolved n.outcome) × ((j : K.Key) → Member j n.reads → (o : K.Outcome) × (at same_key (table_of l e) j ≡ Some (Machine.Resolved o))))
      by n m i Idle h q = inl (sym q)
      by n m i (Waiting x) h q = absurd h
      by n m i (Resolved x) (y, f, g) q =
          let u : Note ℕ Outcome Range = record { key = y.by; outcome = y.outcome; reads = y.reads.items; looked = y.looked.items } in
          let um : Member u (notes_of l.rows.items) = member_at (notes_of l.rows.items) x u (get_map (λ (z : Row Outcome Range). record { key = z.by; outcome = z.outcome; reads = z.reads.items; looked = z.looked.items }) l.rows.items x y f) in
          inr (
            named l.book u,
            note_named l.book l.rows.items u um,
            ap (key_at l.book) g ∙ i,
            sym q ∙ ap (λ o. Machine.Resolved o) (outcome_is l.rows.items x y f),
            λ j mj.
                let (a, am, ae) = key_of_number l.book y.reads.items j mj in
                let (o, z) = resolved_number a (r.closure.closed u um (subst (λ v. Member v e.known.items) (sym g) m) a am) (r.closure.noted u um a am) in
                (o, ap (at same_key (table_of l e)) (sym ae) ∙ z),
          )

  pub for_resumed : TellNothing (mark_trees e.marks.items) → IsFor (world version S w) (held l e (length seeds))
  for_resumed nothing = record {
    sound = subst (λ s. IsSound same_key (program (world version S w)) s (table_of l e)) (sym resumed_seeds)
        (sound K.Key K.Outcome Range same_key (program (world version S w)) seeds (written l) (table_of l e) key_equality trues (subst AreDistinct (sym the_keys) (known_apart l e (readable l e c)))
        (λ k m. seed_known k m) (λ k h. demanded_known k h) cases);
    within = (let n = state_length l e c in omega (arith, n, c.table.few));
    first = (let n = state_length l e c in let a : length (known_keys l e) ≡ length (seeds ++ keys_at l.book r.closure.rest) = ap length known_is in let q = known_length l e (readable l e c) in let d = length-append seeds (keys_at l.book r.closure.rest) in omega (arith, n, a, q, d));
    proper = λ k m. proper k (subst (Member k) resumed_seeds m);
    true_notes = trues;
    noted = λ k o d. noted_known k o (cases k (Machine.Resolved o) d);
    marked = marks_length l e c;
    ahead = λ p k m f g. nothing_ahead S w (program (world version S w) k) (table same_key (table_of l e)) m (nothing p m g);
  }
    where
      seed_known : (k : K.Key) → Member k seeds → IsKnown same_key (table_of l e) k
      seed_known k m =
          let (n, i, q) = key_of_number l.book e.known.items k (subst (Member k) (sym known_is) (front seeds (keys_at l.book r.closure.rest) k m)) in
          let (p, s, d, f, g) = status n i in
          (status_tree (outcome_at l.rows.items) (known_keys l e) s, ap (at same_key (table_of l e)) (sym q) ∙ g)
        where
          front : (xs ys : List K.Key) (k : K.Key) → Member k xs → Member k (xs ++ ys)
          front [] ys k m = absurd m
          front (x ∷ xs) ys k (inl e) = inl e
          front (x ∷ xs) ys k (inr m) = inr (front xs ys k m)

      demanded_known : (k : K.Key) → IsKnown same_key (table_of l e) k → Demanded (program (world version S w)) seeds k
      demanded_known k h = let (n, m, i) = known_number k h in subst (Demanded (program (world version S w)) seeds) i (number_demanded l seeds e.known.items r version S w trues n m)

      noted_known : (k : K.Key) (o : K.Outcome) → (◌≡◌ {A = Machine.Status K.Key K.Outcome} (Machine.Resolved o) Machine.Idle) ⊎ ((n : Note K.Key K.Outcome Range) × Member n (written l) × (n.key ≡ k) × (◌≡◌ {A = Machine.Status K.Key K.Outcome} (Machine.Resolved o) (Machine.Resolved n.outcome)) × ((j : K.Key) → Member j n.reads → (o : K.Outcome) × (at same_key (table_of l e) j ≡ Some (Machine.Resolved o)))) → is_noted (written l) k ≡ true
      noted_known k o (inl e) = absurd (cc e)
      noted_known k o (inr (n, m, i, q, z)) = subst (λ j. is_noted (written l) j ≡ true) i (member_noted (written l) n m)
        where
          member_noted : (ns : Notes) (n : Note K.Key K.Outcome Range) → Member n ns → is_noted ns n.key ≡ true
          member_noted [] n m = absurd m
          member_noted (x ∷ ns) n (inl e) = ap (λ q. q || is_noted ns n.key) (ap (λ (y : Note K.Key K.Outcome Range). same_key n.key y.key) (sym e) ∙ key_equality.1 n.key)
          member_noted (x ∷ ns) n (inr m) = by (same_key n.key x.key) (member_noted ns n m)
            where
              by : (q : Bool) → is_noted ns n.key ≡ true → (q || is_noted ns n.key) ≡ true
              by true f = refl
              by false f = f
