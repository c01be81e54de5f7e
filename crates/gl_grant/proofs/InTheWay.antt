-- What stands in the way of a root.
use Rattle.std.proofs.Common.{◌≡◌, inl, inr, ℕ, ◌+◌, ◌≤◌, Bool, true, false, ◌&&◌, not, cond, nat_le, [], ◌∷◌, Option, Some, None, option_map, refl, ap, arith, sym, ◌∙◌}
use Rattle.std.specs.List.{find}
use Rattle.std.proofs.lemmas.Bool.{leb-true, le-leb}
use Rattle.gl_calculus.specs.Computation.Lists.{Member}
use Rattle.gl_calculus.specs.Grid.Grid.{Addr, Range, same_addr, addresses, covers, lies_in, meets, grid}
use Rattle.gl_calculus.specs.Values.Value.{Permit, Permitted, Refused, Entry, Oracle}
use Rattle.gl_calculus.specs.Values.Same.{is_permitted}
use Rattle.gl_calculus.specs.Evaluation.Oracle.{area_of, first_obstacle, obstacle, ArePermits}
use Rattle.gl_calculus.proofs.Tests.{both, and_true}
use Rattle.gl_plane.specs.Reach.{first_from, spills_into}
use Rattle.gl_grant.proofs.Taken.{meets_same}

le_through : (a b c : ℕ) → nat_le a b ≡ true → nat_le b c ≡ true → nat_le a c ≡ true
le_through a b c h k = le-leb a c (let p : a ≤ b = leb-true a b h in let q : b ≤ c = leb-true b c k in omega arith)

-- an address between corners that a range covers is covered
covers_through : (r s : Range) (a : Addr) → covers r a ≡ true → covers s r.first ≡ true → covers s r.last ≡ true → covers s a ≡ true
covers_through r s a h f l =
    let h2 = both (nat_le r.first.row a.row && nat_le a.row r.last.row) (nat_le r.first.col a.col && nat_le a.col r.last.col) h in
    let hr = both (nat_le r.first.row a.row) (nat_le a.row r.last.row) h2.0 in
    let hc = both (nat_le r.first.col a.col) (nat_le a.col r.last.col) h2.1 in
    let f2 = both (nat_le s.first.row r.first.row && nat_le r.first.row s.last.row) (nat_le s.first.col r.first.col && nat_le r.first.col s.last.col) f in
    let fr = both (nat_le s.first.row r.first.row) (nat_le r.first.row s.last.row) f2.0 in
    let fc = both (nat_le s.first.col r.first.col) (nat_le r.first.col s.last.col) f2.1 in
    let l2 = both (nat_le s.first.row r.last.row && nat_le r.last.row s.last.row) (nat_le s.first.col r.last.col && nat_le r.last.col s.last.col) l in
    let lr = both (nat_le s.first.row r.last.row) (nat_le r.last.row s.last.row) l2.0 in
    let lc = both (nat_le s.first.col r.last.col) (nat_le r.last.col s.last.col) l2.1 in
    and_true (nat_le s.first.row a.row && nat_le a.row s.last.row) (nat_le s.first.col a.col && nat_le a.col s.last.col)
    (and_true (nat_le s.first.row a.row) (nat_le a.row s.last.row) (le_through s.first.row r.first.row a.row fr.0 hr.0) (le_through a.row r.last.row s.last.row hr.1 lr.1))
    (and_true (nat_le s.first.col a.col) (nat_le a.col s.last.col) (le_through s.first.col r.first.col a.col fc.0 hc.0) (le_through a.col r.last.col s.last.col hc.1 lc.1))

lies_through : (q r s : Range) → lies_in q r ≡ true → lies_in r s ≡ true → lies_in q s ≡ true
lies_through q r s h k =
    let hp = both (covers r q.first) (covers r q.last) h in
    let kp = both (covers s r.first) (covers s r.last) k in
    and_true (covers s q.first) (covers s q.last) (covers_through r s q.first hp.0 kp.0 kp.1) (covers_through r s q.last hp.1 kp.0 kp.1)

-- where permitted areas exist, meeting one is all that is asked
same_test : (r : Range) (x : Entry) (p : Permit) → x.permit ≡ p → (x.permit ≡ Permitted → lies_in (area_of x) grid ≡ true) → spills_into r x ≡ (is_permitted x.permit && meets r (area_of x))
same_test r x Permitted e h =
    let yes : is_permitted x.permit ≡ true = ap is_permitted e in
    let on = h e in
    ap (λ b. b && lies_in (area_of x) grid && meets (area_of x) r) yes ∙ ap (λ b. b && meets (area_of x) r) on ∙ meets_same (area_of x) r ∙ ap (λ b. b && meets r (area_of x)) (sym yes)
same_test r x Refused e h =
    let no : is_permitted x.permit ≡ false = ap is_permitted e in
    ap (λ b. b && lies_in (area_of x) grid && meets (area_of x) r) no ∙ ap (λ b. b && meets r (area_of x)) (sym no)

find_step : (b c : Bool) (n : ℕ) (x : Entry) (rest : Option (ℕ × Entry)) (others : Option Entry) → b ≡ c → option_map (λ (p : ℕ × Entry). p.1) rest ≡ others → option_map (λ (p : ℕ × Entry). p.1) (cond b (Some (n, x)) rest) ≡ cond c (Some x) others
find_step true true n x rest others e h = refl
find_step false false n x rest others e h = h
find_step true false n x rest others e h = absurd (cc e)
find_step false true n x rest others e h = absurd (cc e)

find_meeting : (r : Range) (n : ℕ) (w : Oracle) → ((x : Entry) → Member x w → x.permit ≡ Permitted → lies_in (area_of x) grid ≡ true) →
    option_map (λ (p : ℕ × Entry). p.1) (first_from (spills_into r) n w) ≡ find (λ x. is_permitted x.permit && meets r (area_of x)) w
find_meeting r n [] h = refl
find_meeting r n (x ∷ xs) h =
    find_step (spills_into r x) (is_permitted x.permit && meets r (area_of x)) n x (first_from (spills_into r) (n + 1) xs) (find (λ y. is_permitted y.permit && meets r (area_of y)) xs)
    (same_test r x x.permit refl (h x (inl refl))) (find_meeting r (n + 1) xs (λ y m. h y (inr m)))

-- the obstacle of an area in the bound with no other content
pub met_obstacle : (bound : Range) (held : Addr → Bool) (w : Oracle) (root : Addr) (r s : Range) (found : Option (ℕ × Entry)) → lies_in bound grid ≡ true → ArePermits bound held w →
    (lies_in r bound ≡ true) × (r ≡ s) → find (λ b. held b && not (same_addr b root)) (addresses s) ≡ None → first_from (spills_into s) 0 w ≡ found →
    obstacle bound held w root r ≡ first_obstacle true None (option_map (λ (p : ℕ × Entry). p.1) found)
met_obstacle bound held w root r s found g ok within none met =
    let exists = λ (x : Entry) (m : Member x w) (p : x.permit ≡ Permitted). lies_through (area_of x) bound grid (ok.inside x m p) g in
    ap (λ l. first_obstacle l (find (λ b. held b && not (same_addr b root)) (addresses r)) (find (λ x. is_permitted x.permit && meets r (area_of x)) w)) within.0
    ∙ ap (λ q. first_obstacle true (find (λ b. held b && not (same_addr b root)) (addresses q)) (find (λ x. is_permitted x.permit && meets q (area_of x)) w)) within.1
    ∙ ap (λ b. first_obstacle true b (find (λ x. is_permitted x.permit && meets s (area_of x)) w)) none
    ∙ ap (first_obstacle true None) (sym (find_meeting s 0 w exists) ∙ ap (option_map (λ (p : ℕ × Entry). p.1)) met)
