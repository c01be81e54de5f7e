-- How the walk goes on from one turn to the next, by the notes in the order in which they were made
-- and the stack from the bottom up.
use Rattle.std.proofs.Common.{◌≡◌, ◌⊎◌, inl, inr, ℕ, suc, ◌+◌, ◌==◌, ◌≤◌, List, [], ◌∷◌, ◌++◌, length, reverse, Bool, true, false, cond, Some, None, refl, sym, subst, ap, ◌∙◌, arith}
use Rattle.std.proofs.lemmas.Bool.{eq-eqb, ne_eqb}
use Rattle.std.proofs.lemmas.List.{length-reverse, reverse-append}
use Rattle.gl_calculus.specs.Computation.Lists.{Member, IsEquality, has_member}
use Rattle.gl_calculus.specs.Computation.Query.{Query, Found, Ready, Need, found, EachAsked}
use Rattle.laws_calculus.proofs.Query.Quiet.{seen_member}
use Rattle.gl_calculus.specs.Steps.Walk.{Passes}
use Rattle.gl_calculus.specs.Explanation.Walk.{Claim, noted, Walked, Explained, Exhausted, turn, walk, IsWalk}
use Rattle.laws_calculus.proofs.Explanation.Walks as Wa
use Rattle.laws_calculus.proofs.Explanation.Steps.{whole, open_, put_step, note_step}

-- ---- lists

snoc_not_nil : {X : Type 0} (xs : List X) (x : X) → [] ≡ xs ++ x ∷ [] → ⊥
snoc_not_nil [] x e = absurd (cc e)
snoc_not_nil (y ∷ xs) x e = absurd (cc e)

pub snoc_same : {X : Type 0} (xs ys : List X) (x y : X) → xs ++ x ∷ [] ≡ ys ++ y ∷ [] → (xs ≡ ys) × (x ≡ y)
snoc_same [] [] x y e = (refl, cc e)
snoc_same [] (z ∷ ys) x y e = let d : [] ≡ ys ++ y ∷ [] = cc e in absurd (snoc_not_nil ys y d)
snoc_same (z ∷ xs) [] x y e = let d : xs ++ x ∷ [] ≡ [] = cc e in absurd (snoc_not_nil xs x (sym d))
snoc_same (z ∷ xs) (u ∷ ys) x y e =
    let d : xs ++ x ∷ [] ≡ ys ++ y ∷ [] = cc e in
    let h : z ≡ u = cc e in
    let (p, q) = snoc_same xs ys x y d in
    (ap (λ t. z ∷ t) p ∙ ap (λ t. t ∷ ys) h, q)

-- the last of a list turned round is its first
pub turned : {X : Type 0} (st us : List X) (k : X) → us ++ k ∷ [] ≡ reverse st → (rest : List X) × (st ≡ k ∷ rest) × (us ≡ reverse rest)
turned [] us k e = absurd (snoc_not_nil us k (sym e))
turned (x ∷ rest) us k e =
    let (p, q) = snoc_same us (reverse rest) k x (e ∙ reverse-append (x ∷ []) rest) in
    (rest, ap (λ t. t ∷ rest) (sym q), p)

-- an empty list turned round
pub none_turned : {X : Type 0} (st : List X) → [] ≡ reverse st → st ≡ []
none_turned [] e = refl
none_turned (x ∷ rest) e = absurd (snoc_not_nil (reverse rest) x (e ∙ reverse-append (x ∷ []) rest))

module _ {K O A : Type 0} (same : K → K → Bool) (same_outcome : O → O → Bool) (allowed : K → Bool) (limit : ℕ) (program : K → Query K O A O) (eq : IsEquality same) (eq_outcome : IsEquality same_outcome) (asks : (k : K) → EachAsked (λ j. allowed j ≡ true) (program k)) (root : K) (fine : allowed root ≡ true) where
  abbrev pub Held : List (Claim K O) → List K → Type 0
  Held ns st = Wa.Holds same same_outcome allowed limit program eq eq_outcome asks root fine ns st

  abbrev pub keys : List (Claim K O) → List K
  keys ns = Wa.keys same same_outcome allowed limit program eq eq_outcome asks root fine ns

  abbrev pub Began : List (Claim K O) → List K → Type 0
  Began ns st = Wa.Rooted same same_outcome allowed limit program eq eq_outcome asks root fine ns st

  -- the steps so far, where those of the start are n and now are m
  abbrev pub IsWithin : ℕ → ℕ → List (Claim K O) → List K → Type 0
  IsWithin n m ns st = m ≤ n + (whole same eq program (noted same ns) (keys ns) + open_ same eq program (noted same ns) st)

  -- the walk from the root stands there
  abbrev pub At : List (Claim K O) → List K → Type 0
  At ns st = Passes same limit program (root ∷ []) ns st

  -- what it finds from there on it finds
  pub ahead : (ns : List (Claim K O)) (st : List K) → At ns st → (i : ℕ) (r : Walked K O) → walk same limit program i ns st ≡ Some r → IsWalk same limit program (root ∷ []) r
  ahead ns st (j, p) i r e = (j + i, p i ∙ e)

  -- a turn more
  further : (ns ms : List (Claim K O)) (st up : List K) → At ns st → ((n : ℕ) → walk same limit program (suc n) ns st ≡ walk same limit program n ms up) → At ms up
  further ns ms st up (i, p) h = (suc i, λ n. ap (λ x. walk same limit program x [] (root ∷ [])) (let c : suc i + n ≡ i + suc n = omega arith in c) ∙ p (suc n) ∙ h n)

  -- the walk from the root has come so far
  pub record IsWalking (n m : ℕ) (done : List (Claim K O)) (up : List K) : Type 0 where
    pub notes : List (Claim K O)
    pub stack : List K
    pub order : done ≡ reverse notes
    pub stacked : up ≡ reverse stack
    pub holds : Held notes stack
    pub rooted : Began notes stack
    pub room : length notes + length stack ≤ limit
    pub passed : At notes stack
    pub within : IsWithin n m notes stack

  pub begins : (n : ℕ) → 1 ≤ limit → IsWalking n n [] (root ∷ [])
  begins n h = record {
    notes = [];
    stack = root ∷ [];
    order = refl;
    stacked = refl;
    holds = Wa.begins same same_outcome allowed limit program eq eq_outcome asks root fine;
    rooted = inl (inl refl);
    room = h;
    passed = (0, λ n. ap (λ x. walk same limit program x [] (root ∷ [])) (let c : 0 + n ≡ n = omega arith in c));
    within = omega arith;
  }

  -- the notes as they were made are the same table
  pub same_notes : (n m : ℕ) (done : List (Claim K O)) (up : List K) (w : IsWalking n m done up) → noted same done ≡ noted same w.notes
  same_notes n m done up w = ap (noted same) w.order ∙ Wa.same_table same same_outcome allowed limit program eq eq_outcome asks root fine w.notes w.holds.good

  -- the top of the stack
  pub record HasTop (done : List (Claim K O)) (us : List K) (k : K) (n m : ℕ) : Type 0 where
    pub notes : List (Claim K O)
    pub rest : List K
    pub order : done ≡ reverse notes
    pub below : us ≡ reverse rest
    pub holds : Held notes (k ∷ rest)
    pub rooted : Began notes (k ∷ rest)
    pub room : length notes + suc (length rest) ≤ limit
    pub passed : At notes (k ∷ rest)
    pub within : IsWithin n m notes (k ∷ rest)
    pub table : noted same done ≡ noted same notes

  pub has_top : (n m : ℕ) (done : List (Claim K O)) (us : List K) (k : K) → IsWalking n m done (us ++ k ∷ []) → HasTop done us k n m
  has_top n m done us k w =
      let (rest, d, u) = turned w.stack us k w.stacked in
      record {
        notes = w.notes;
        rest = rest;
        order = w.order;
        below = u;
        holds = subst (Held w.notes) d w.holds;
        rooted = subst (Began w.notes) d w.rooted;
        room = subst (λ t. length w.notes + length t ≤ limit) d w.room;
        passed = subst (At w.notes) d w.passed;
        within = subst (IsWithin n m w.notes) d w.within;
        table = same_notes n m done (us ++ k ∷ []) w;
      }

  -- the top has no note
  pub top_unnoted : (n m : ℕ) (done : List (Claim K O)) (us : List K) (k : K) → IsWalking n m done (us ++ k ∷ []) → noted same done k ≡ None
  top_unnoted n m done us k w =
      let t = has_top n m done us k w in
      ap (λ f. f k) t.table ∙ Wa.unnoted same same_outcome allowed limit program eq eq_outcome asks root fine t.notes k (λ i. t.holds.distinct.0 (Wa.in_back same same_outcome allowed limit program eq eq_outcome asks root fine t.rest (keys t.notes) k i))

  pub top_allowed : (n m : ℕ) (done : List (Claim K O)) (us : List K) (k : K) → IsWalking n m done (us ++ k ∷ []) → allowed k ≡ true
  top_allowed n m done us k w = let t = has_top n m done us k w in t.holds.allowed_all k (inl refl)

  -- ---- a turn

  -- what the evaluation of the top finds decides the turn
  turned_by : (ns : List (Claim K O)) (k : K) (rest : List K) (f : Found K O) (i : ℕ) (r : Walked K O) → found (noted same ns) (program k) ≡ f → turn same limit program (walk same limit program i) ns k rest f ≡ Some r → walk same limit program (suc i) ns (k ∷ rest) ≡ Some r
  turned_by ns k rest f i r d e = ap (λ t. turn same limit program (walk same limit program i) ns k rest t) d ∙ e

  seen_over : (done ns : List (Claim K O)) (k : K) (f : Found K O) → noted same done ≡ noted same ns → found (noted same done) (program k) ≡ f → found (noted same ns) (program k) ≡ f
  seen_over done ns k f t d = ap (λ g. found g (program k)) (sym t) ∙ d

  -- the key below the top waits for it
  waits_for : (ns : List (Claim K O)) (k : K) (rest : List K) → Held ns (k ∷ rest) → (b : K) (bs : List K) → rest ≡ b ∷ bs → found (noted same ns) (program b) ≡ Need k
  waits_for ns k [] h b bs e = absurd (cc e)
  waits_for ns k (x ∷ xs) h b bs e = let d : x ≡ b = cc e in subst (λ t. found (noted same ns) (program t) ≡ Need k) d h.chained.0

  -- one note more
  grows : (ns : List (Claim K O)) (k : K) (o : O) → noted same ns k ≡ None → (x : K) (p : O) → noted same ns x ≡ Some p → noted same ((k, o) ∷ ns) x ≡ Some p
  grows ns k o free x p e = by (same x k) refl
    where
      by : (b : Bool) → same x k ≡ b → cond b (Some o) (noted same ns x) ≡ Some p
      by true u = let d : noted same ns x ≡ None = ap (noted same ns) (eq.0 x k u) ∙ free in absurd (cc (d, e))
      by false u = e

  -- the root stays on, or is noted
  still : (ns : List (Claim K O)) (k : K) (o : O) (rest : List K) → noted same ns k ≡ None → Began ns (k ∷ rest) → Began ((k, o) ∷ ns) rest
  still ns k o rest free (inl (inl d)) = inr (o, ap (λ b. cond b (Some o) (noted same ns root)) (subst (λ t. same root t ≡ true) d (eq.1 root)))
  still ns k o rest free (inl (inr m)) = inl m
  still ns k o rest free (inr (p, e)) = inr (p, grows ns k o free root p e)

  -- the top is noted and taken off
  pub taken_off : (n m l : ℕ) (done : List (Claim K O)) (us : List K) (k : K) (o : O) → IsWalking n m done (us ++ k ∷ []) → found (noted same done) (program k) ≡ Ready o → l ≤ m + 1 → IsWalking n l (done ++ (k, o) ∷ []) us
  taken_off n m l done us k o w f h = record {
    notes = (k, o) ∷ t.notes;
    stack = t.rest;
    order = ap (λ d. d ++ (k, o) ∷ []) t.order ∙ sym (reverse-append ((k, o) ∷ []) t.notes);
    stacked = t.below;
    holds = Wa.noted_holds same same_outcome allowed limit program eq eq_outcome asks root fine t.notes k t.rest o t.holds g;
    rooted = still t.notes k o t.rest free t.rooted;
    room = omega (arith, t.room);
    passed = further t.notes ((k, o) ∷ t.notes) (k ∷ t.rest) t.rest t.passed (λ i. ap (turn same limit program (walk same limit program i) t.notes k t.rest) g);
    within = omega (arith, h, t.within, note_step same eq program (noted same t.notes) (noted same ((k, o) ∷ t.notes)) (grows t.notes k o free) (keys t.notes) k t.rest o itself (waits_for t.notes k t.rest t.holds));
  }
    where
      t : HasTop done us k n m
      t = has_top n m done us k w

      g : found (noted same t.notes) (program k) ≡ Ready o
      g = seen_over done t.notes k (Ready o) t.table f

      free : noted same t.notes k ≡ None
      free = ap (λ f. f k) (sym t.table) ∙ top_unnoted n m done us k w

      itself : noted same ((k, o) ∷ t.notes) k ≡ Some o
      itself = ap (λ b. cond b (Some o) (noted same t.notes k)) (eq.1 k)

  -- which keys are on the stack is told from either end
  on_stack : (st : List K) (j : K) → has_member same j (reverse st) ≡ has_member same j st
  on_stack st j = by (has_member same j (reverse st)) (has_member same j st) refl refl
    where
      back : Member j st ⊎ ⊥ → Member j st
      back (inl m) = m
      back (inr m) = absurd m

      by : (b c : Bool) → has_member same j (reverse st) ≡ b → has_member same j st ≡ c → has_member same j (reverse st) ≡ has_member same j st
      by true true p q = p ∙ sym q
      by false false p q = p ∙ sym q
      by true false p q =
          let m : Member j (reverse st) = seen_member same eq (reverse st) j p in
          let i : Member j st = back (Wa.from_aux same same_outcome allowed limit program eq eq_outcome asks root fine st [] j m) in
          p ∙ sym (Wa.member_has same same_outcome allowed limit program eq eq_outcome asks root fine st j i)
      by false true p q =
          let m : Member j st = seen_member same eq st j q in
          Wa.member_has same same_outcome allowed limit program eq eq_outcome asks root fine (reverse st) j (Wa.into_aux same same_outcome allowed limit program eq eq_outcome asks root fine st [] j (inl m)) ∙ sym q

  pub whole_stack : (us rest : List K) (k : K) → us ≡ reverse rest → us ++ k ∷ [] ≡ reverse (k ∷ rest)
  whole_stack us rest k e = ap (λ t. t ++ k ∷ []) e ∙ sym (reverse-append (k ∷ []) rest)

  -- the number of keys that were put on
  pub counted : (done ns : List (Claim K O)) (us rest : List K) (k : K) → done ≡ reverse ns → us ≡ reverse rest → length done + length (us ++ k ∷ []) ≡ length ns + length (k ∷ rest)
  counted done ns us rest k p q =
      ap (λ t. length t + length (us ++ k ∷ [])) p ∙ ap (λ t. length (reverse ns) + length t) (whole_stack us rest k q)
      ∙ ap (λ t. t + length (reverse (k ∷ rest))) (length-reverse ns) ∙ ap (λ t. length ns + t) (length-reverse (k ∷ rest))

  -- what it lacks is put on
  pub put_on : (n m l : ℕ) (done : List (Claim K O)) (us : List K) (k j : K) → IsWalking n m done (us ++ k ∷ []) → found (noted same done) (program k) ≡ Need j →
      has_member same j (us ++ k ∷ []) ≡ false → (length done + length (us ++ k ∷ []) ≡ limit → ⊥) → l ≤ m + 1 → IsWalking n l done ((us ++ k ∷ []) ++ j ∷ [])
  put_on n m l done us k j w f b c h = record {
    notes = t.notes;
    stack = j ∷ k ∷ t.rest;
    order = t.order;
    stacked = ap (λ d. d ++ j ∷ []) up ∙ sym (reverse-append (j ∷ []) (k ∷ t.rest));
    holds = Wa.put_holds same same_outcome allowed limit program eq eq_outcome asks root fine t.notes k j t.rest t.holds g off;
    rooted = deeper t.rooted;
    room = omega (arith, t.room, few);
    passed = further t.notes t.notes (k ∷ t.rest) (j ∷ k ∷ t.rest) t.passed (λ i. ap (turn same limit program (walk same limit program i) t.notes k t.rest) g ∙ goes i);
    within = omega (arith, h, t.within, put_step same eq program (noted same t.notes) (keys t.notes) k j t.rest);
  }
    where
      t : HasTop done us k n m
      t = has_top n m done us k w

      up : us ++ k ∷ [] ≡ reverse (k ∷ t.rest)
      up = whole_stack us t.rest k t.below

      g : found (noted same t.notes) (program k) ≡ Need j
      g = seen_over done t.notes k (Need j) t.table f

      off : has_member same j (k ∷ t.rest) ≡ false
      off = sym (on_stack (k ∷ t.rest) j) ∙ ap (has_member same j) (sym up) ∙ b

      few : length t.notes + length (k ∷ t.rest) ≡ limit → ⊥
      few e = c (counted done t.notes us t.rest k t.order t.below ∙ e)

      test : (length t.notes + length (k ∷ t.rest) == limit) ≡ false
      test = ne_eqb (length t.notes + length (k ∷ t.rest)) limit few

      goes : (i : ℕ) → turn same limit program (walk same limit program i) t.notes k t.rest (Need j) ≡ walk same limit program i t.notes (j ∷ k ∷ t.rest)
      goes i =
          ap (λ q. cond q (Some (Explained (reverse t.notes) (reverse (k ∷ t.rest)))) (cond (length t.notes + length (k ∷ t.rest) == limit) (Some Exhausted) (walk same limit program i t.notes (j ∷ k ∷ t.rest)))) off
          ∙ ap (λ q. cond q (Some Exhausted) (walk same limit program i t.notes (j ∷ k ∷ t.rest))) test

      deeper : Began t.notes (k ∷ t.rest) → Began t.notes (j ∷ k ∷ t.rest)
      deeper (inl m) = inl (inr m)
      deeper (inr m) = inr m

  -- ---- the end

  abbrev Ends : Walked K O → Type 0
  Ends r = IsWalk same limit program (root ∷ []) r

  -- it ends with an empty stack
  pub emptied : (n m : ℕ) (done : List (Claim K O)) → IsWalking n m done [] → Ends (Explained done [])
  emptied n m done w =
      let d : w.stack ≡ [] = none_turned w.stack w.stacked in
      subst (λ t. Ends (Explained t [])) (sym w.order) (ahead w.notes [] (subst (At w.notes) d w.passed) 1 (Explained (reverse w.notes) []) refl)

  -- or in a circle
  pub circled : (n m : ℕ) (done : List (Claim K O)) (us : List K) (k j : K) → IsWalking n m done (us ++ k ∷ []) → found (noted same done) (program k) ≡ Need j → has_member same j (us ++ k ∷ []) ≡ true → Ends (Explained done (us ++ k ∷ []))
  circled n m done us k j w f b =
      let t = has_top n m done us k w in
      let up = whole_stack us t.rest k t.below in
      let g = seen_over done t.notes k (Need j) t.table f in
      let on : has_member same j (k ∷ t.rest) ≡ true = sym (on_stack (k ∷ t.rest) j) ∙ ap (has_member same j) (sym up) ∙ b in
      let r = Explained (reverse t.notes) (reverse (k ∷ t.rest)) in
      let e = ahead t.notes (k ∷ t.rest) t.passed 1 r (turned_by t.notes k t.rest (Need j) 0 r g (ap (λ q. cond q (Some r) (cond (length t.notes + length (k ∷ t.rest) == limit) (Some Exhausted) None)) on)) in
      subst (λ x. Ends (Explained x (us ++ k ∷ []))) (sym t.order) (subst (λ x. Ends (Explained (reverse t.notes) x)) (sym up) e)

  -- or at the limit
  pub exhausted : (n m : ℕ) (done : List (Claim K O)) (us : List K) (k j : K) → IsWalking n m done (us ++ k ∷ []) → found (noted same done) (program k) ≡ Need j →
      has_member same j (us ++ k ∷ []) ≡ false → length done + length (us ++ k ∷ []) ≡ limit → Ends Exhausted
  exhausted n m done us k j w f b c =
      let t = has_top n m done us k w in
      let up = whole_stack us t.rest k t.below in
      let g = seen_over done t.notes k (Need j) t.table f in
      let off : has_member same j (k ∷ t.rest) ≡ false = sym (on_stack (k ∷ t.rest) j) ∙ ap (has_member same j) (sym up) ∙ b in
      let full : length t.notes + length (k ∷ t.rest) ≡ limit = sym (counted done t.notes us t.rest k t.order t.below) ∙ c in
      let test : (length t.notes + length (k ∷ t.rest) == limit) ≡ true = eq-eqb (length t.notes + length (k ∷ t.rest)) limit full in
      let r = Explained (reverse t.notes) (reverse (k ∷ t.rest)) in
      ahead t.notes (k ∷ t.rest) t.passed 1 Exhausted (turned_by t.notes k t.rest (Need j) 0 Exhausted g (ap (λ q. cond q (Some r) (cond (length t.notes + length (k ∷ t.rest) == limit) (Some Exhausted) None)) off ∙ ap (λ q. cond q (Some Exhausted) None) test))
