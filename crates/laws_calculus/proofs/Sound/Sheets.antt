-- What SHEET and UPDATE make is sound.
use Rattle.std.proofs.Common.{◌≡◌, ℕ, ◌+◌, ◌<◌, ◌≤◌, ◌==◌, max, nat_lt, nat_le, Bool, true, false, ◌&&◌, Option, Some, None, refl, sym, subst, arith, eq-eqb, cond, if◌then◌else◌}
use Rattle.std.proofs.lemmas.Bool.{and_parts}
use Rattle.std.proofs.lemmas.Bool.Decides.{nat_tests}
use Rattle.gl_calculus.specs.Grid.Limits.{max_rank, max_weight}
use Rattle.gl_calculus.specs.Grid.Grid.{Addr, Range, same_addr, is_before, covers}
use Rattle.gl_calculus.specs.Values.Value as V
use Rattle.gl_calculus.specs.Values.Value.{Overrides, no_override, override_and, elements, Frame, SheetValue, sheet_value}
use Rattle.gl_calculus.specs.Values.Sheet as M
use Rattle.gl_calculus.specs.Values.Sheet.{Made, override_at, with_override, overrides_weight, frame_weight, frame_rank, rank_above, weight, weighed, within_limits, sheet, update}
use Rattle.gl_calculus.specs.Evaluation.Sound.{are_inside, overrides_rank, is_sound_value, are_sound_overrides, is_sound_frame, is_sound_sheet}
use Rattle.gl_calculus.proofs.Tests.{addr_exact}
use Rattle.laws_calculus.proofs.Sound.Values.{IsSoundValue}

-- ---- what the soundness of a sheet value says

pub record SheetParts (r : Range) (os : Overrides) (e : Frame) (k w : ℕ) : Type 0 where
  pub inside : are_inside r os ≡ true
  pub overrides : are_sound_overrides os ≡ true
  pub frame : is_sound_frame e ≡ true
  pub above_frame : frame_rank e < k
  pub above_values : overrides_rank os ≤ k

le_of : (a b : ℕ) → nat_le a b ≡ true → a ≤ b
le_of a b h = grind (arith, nat_tests)

lt_of : (a b : ℕ) → nat_lt a b ≡ true → a < b
lt_of a b h = grind (arith, nat_tests)

pub sheet_parts : (r : Range) (os : Overrides) (e : Frame) (k w : ℕ) → is_sound_sheet (sheet_value r os e k w) ≡ true → SheetParts r os e k w
sheet_parts r os e k w h =
    let i = are_inside r os in
    let o = are_sound_overrides os in
    let f = is_sound_frame e in
    let b = nat_lt (frame_rank e) k in
    let v = nat_le (overrides_rank os) k in
    let m = nat_le k max_rank in
    let l = nat_le w max_weight in
    let p = and_parts ((((((i && o) && f) && b) && v) && m) && l) (w == weight (sheet_value r os e k w)) h in
    let q = and_parts (((((i && o) && f) && b) && v) && m) l p.0 in
    let s = and_parts ((((i && o) && f) && b) && v) m q.0 in
    let t = and_parts (((i && o) && f) && b) v s.0 in
    let u = and_parts ((i && o) && f) b t.0 in
    let x = and_parts (i && o) f u.0 in
    let y = and_parts i o x.0 in
    record { inside = y.0; overrides = y.1; frame = x.1; above_frame = lt_of (frame_rank e) k u.1; above_values = le_of (overrides_rank os) k t.1 }

-- an override is sound
abbrev pub SoundIf : Option V.Value → Type 0
SoundIf None = Unit {0}
SoundIf (Some v) = IsSoundValue v

pub override_sound : (os : Overrides) (a : Addr) → are_sound_overrides os ≡ true → SoundIf (override_at os a)
override_sound no_override a h = tt
override_sound (override_and b v os) a h =
    let p = and_parts (is_sound_value v) (are_sound_overrides os) h in
    choice (same_addr a b) (Some v) (override_at os a) p.0 (override_sound os a p.1)
  where
    choice : (t : Bool) (x y : Option V.Value) → SoundIf x → SoundIf y → SoundIf (if t then x else y)
    choice true x y p q = p
    choice false x y p q = q

-- ---- one more override

-- the address comes before the first override
abbrev is_first : Addr → Overrides → Bool
is_first a no_override = true
is_first a (override_and b v os) = is_before a b

before_other : (a b : Addr) → same_addr a b ≡ false → is_before a b ≡ false → is_before b a ≡ true
before_other a b h k = grind (arith, nat_tests)

-- what are inside: each in the region, and before the others
record Inside (r : Range) (a : Addr) (os : Overrides) : Type 0 where
  here : covers r a ≡ true
  first : is_first a os ≡ true
  others : are_inside r os ≡ true

inside_parts : (r : Range) (a : Addr) (v : V.Value) (os : Overrides) → are_inside r (override_and a v os) ≡ true → Inside r a os
inside_parts r a v no_override h = record { here = h; first = refl; others = refl }
inside_parts r a v (override_and b u os) h =
    let p = and_parts (covers r a && is_before a b) (are_inside r (override_and b u os)) h in
    let q = and_parts (covers r a) (is_before a b) p.0 in
    record { here = q.0; first = q.1; others = p.1 }

inside_whole : (r : Range) (a : Addr) (v : V.Value) (os : Overrides) → covers r a ≡ true → is_first a os ≡ true → are_inside r os ≡ true → are_inside r (override_and a v os) ≡ true
inside_whole r a v no_override g h k = g
inside_whole r a v (override_and b u os) g h k = rw (g, h) k

first_step : (same before : Bool) (c a : Addr) (v : V.Value) (b : Addr) (u : V.Value) (os : Overrides) → same_addr a b ≡ same → is_before a b ≡ before
    → is_before c a ≡ true → is_before c b ≡ true → is_first c (with_override a v (override_and b u os)) ≡ true
first_step true before c a v b u os e f h k = rw e h
first_step false true c a v b u os e f h k = rw (e, f) h
first_step false false c a v b u os e f h k = rw (e, f) k

first-put : (c a : Addr) (v : V.Value) (os : Overrides) → is_before c a ≡ true → is_first c os ≡ true → is_first c (with_override a v os) ≡ true
first-put c a v no_override h k = h
first-put c a v (override_and b u os) h k = first_step (same_addr a b) (is_before a b) c a v b u os refl refl h k

inside_step : (same before : Bool) (r : Range) (a : Addr) (v : V.Value) (b : Addr) (u : V.Value) (os : Overrides) → same_addr a b ≡ same → is_before a b ≡ before
    → covers r a ≡ true → covers r b ≡ true → is_first b os ≡ true → are_inside r os ≡ true → are_inside r (with_override a v os) ≡ true → are_inside r (with_override a v (override_and b u os)) ≡ true
inside_step true before r a v b u os e f g p q k h =
    let s : a ≡ b = addr_exact a b e in
    let t : is_first a os ≡ true = subst (λ z. is_first z os ≡ true) (sym s) q in
    rw e (inside_whole r a v os g t k)
inside_step false true r a v b u os e f g p q k h = rw (e, f) (inside_whole r a v (override_and b u os) g f (inside_whole r b u os p q k))
inside_step false false r a v b u os e f g p q k h = rw (e, f) (inside_whole r b u (with_override a v os) p (first-put b a v os (before_other a b e f) q) h)

inside-put : (r : Range) (a : Addr) (v : V.Value) (os : Overrides) → covers r a ≡ true → are_inside r os ≡ true → are_inside r (with_override a v os) ≡ true
inside-put r a v no_override g h = g
inside-put r a v (override_and b u os) g h =
    let p = inside_parts r b u os h in
    inside_step (same_addr a b) (is_before a b) r a v b u os refl refl g p.here p.first p.others (inside-put r a v os g p.others)

sound_step : (same before : Bool) (a : Addr) (v : V.Value) (b : Addr) (u : V.Value) (os : Overrides) → same_addr a b ≡ same → is_before a b ≡ before
    → is_sound_value v ≡ true → is_sound_value u ≡ true → are_sound_overrides os ≡ true → are_sound_overrides (with_override a v os) ≡ true → are_sound_overrides (with_override a v (override_and b u os)) ≡ true
sound_step true before a v b u os e f g p q h = rw (e, g, q) refl
sound_step false true a v b u os e f g p q h = rw (e, f, g, p, q) refl
sound_step false false a v b u os e f g p q h = rw (e, f, p, h) refl

sound-put : (a : Addr) (v : V.Value) (os : Overrides) → is_sound_value v ≡ true → are_sound_overrides os ≡ true → are_sound_overrides (with_override a v os) ≡ true
sound-put a v no_override g h = rw g refl
sound-put a v (override_and b u os) g h =
    let p = and_parts (is_sound_value u) (are_sound_overrides os) h in
    sound_step (same_addr a b) (is_before a b) a v b u os refl refl g p.0 p.1 (sound-put a v os g p.1)

rank_step : (same before : Bool) (a : Addr) (v : V.Value) (b : Addr) (u : V.Value) (os : Overrides) → same_addr a b ≡ same → is_before a b ≡ before
    → overrides_rank (with_override a v os) ≤ max (overrides_rank os) (rank_above (elements v)) → overrides_rank (with_override a v (override_and b u os)) ≤ max (max (rank_above (elements u)) (overrides_rank os)) (rank_above (elements v))
rank_step true before a v b u os e f h = rw e (omega arith)
rank_step false true a v b u os e f h = rw (e, f) (omega arith)
rank_step false false a v b u os e f h = rw (e, f) (omega arith)

rank-put : (a : Addr) (v : V.Value) (os : Overrides) → overrides_rank (with_override a v os) ≤ max (overrides_rank os) (rank_above (elements v))
rank-put a v no_override = omega arith
rank-put a v (override_and b u os) = rank_step (same_addr a b) (is_before a b) a v b u os refl refl (rank-put a v os)

-- ---- what is made

-- what was made is sound
abbrev pub SoundMade : Made → Type 0
SoundMade (M.Sheet s) = is_sound_sheet s ≡ true
SoundMade m = Unit {0}

test_le : (a b : ℕ) → a ≤ b → nat_le a b ≡ true
test_le a b h = grind (arith, nat_tests)

test_lt : (a b : ℕ) → a < b → nat_lt a b ≡ true
test_lt a b h = grind (arith, nat_tests)

not_above : (a b : ℕ) → nat_lt a b ≡ false → nat_le b a ≡ true
not_above a b h = grind (arith, nat_tests)

limits_step : (b c : Bool) (r : Range) (os : Overrides) (e : Frame) (k : ℕ) → nat_lt max_rank k ≡ b → nat_lt max_weight (1 + overrides_weight os + frame_weight e) ≡ c
    → are_inside r os ≡ true → are_sound_overrides os ≡ true → is_sound_frame e ≡ true → nat_lt (frame_rank e) k ≡ true → nat_le (overrides_rank os) k ≡ true
    → SoundMade (cond b M.Deep (cond c M.Heavy (M.Sheet (weighed r os e k))))
limits_step true c r os e k p q is so se lt le = tt
limits_step false true r os e k p q is so se lt le = tt
limits_step false false r os e k p q is so se lt le =
    rw (is, so, se, lt, le, not_above max_rank k p, not_above max_weight (1 + overrides_weight os + frame_weight e) q, eq-eqb (1 + overrides_weight os + frame_weight e) (1 + overrides_weight os + frame_weight e) refl) refl

limits_sound : (r : Range) (os : Overrides) (e : Frame) (k : ℕ) → are_inside r os ≡ true → are_sound_overrides os ≡ true → is_sound_frame e ≡ true → frame_rank e < k → overrides_rank os ≤ k
    → SoundMade (within_limits (weighed r os e k))
limits_sound r os e k is so se lt le =
    limits_step (nat_lt max_rank k) (nat_lt max_weight (1 + overrides_weight os + frame_weight e)) r os e k refl refl is so se (test_lt (frame_rank e) k lt) (test_le (overrides_rank os) k le)

-- SHEET makes what is sound
pub sheet_sound : (e : Frame) (r : Range) → is_sound_frame e ≡ true → SoundMade (sheet e r)
sheet_sound e r h = limits_sound r no_override e (frame_rank e + 1) refl refl h (omega arith) (omega arith)

update_step : (b : Bool) (e : Frame) (r : Range) (os : Overrides) (p : Frame) (k w : ℕ) (a : Addr) (v : V.Value) → covers r a ≡ b → SheetParts r os p k w → is_sound_value v ≡ true
    → SoundMade (cond b (within_limits (weighed r (with_override a v os) p (max k (max (frame_rank e + 1) (rank_above (elements v)))))) M.Outside)
update_step false e r os p k w a v c f h = tt
update_step true e r os p k w a v c f h =
    limits_sound r (with_override a v os) p (max k (max (frame_rank e + 1) (rank_above (elements v)))) (inside-put r a v os c f.inside) (sound-put a v os h f.overrides) f.frame
    (omega (arith, f.above_frame)) (omega (arith, rank-put a v os, f.above_values))

-- UPDATE makes what is sound
pub update_sound : (e : Frame) (s : SheetValue) (a : Addr) (v : V.Value) → is_sound_sheet s ≡ true → is_sound_value v ≡ true → SoundMade (update e s a v)
update_sound e (sheet_value r os p k w) a v h g = update_step (covers r a) e r os p k w a v refl (sheet_parts r os p k w h) g
