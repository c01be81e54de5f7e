-- Frames outward: their soundness, and what an address holds.
use Rattle.std.proofs.Common.{◌≡◌, Bool, true, false, IsTrue, cond, Option, Some, None, IfSome, option_map, refl, ap, sym, subst, ◌∙◌}
use Rattle.std.proofs.lemmas.Bool.{and_parts}
use Rattle.gl_calculus.specs.Grid.Grid.{Addr, same_addr, covers}
use Rattle.gl_calculus.specs.Values.Value.{Value, Overrides, no_override, override_and, sheet_value, Frame, Top, In}
use Rattle.gl_calculus.specs.Values.Sheet.{override_at}
use Rattle.gl_calculus.specs.Formulas.Formula.{Content}
use Rattle.gl_calculus.specs.Evaluation.Reference.{Held, Given, held_top, override_or, content_in, own_content, in_region, home}
use Rattle.gl_calculus.specs.Evaluation.Sound.{is_sound_value, are_sound_overrides, is_sound_sheet, is_sound_frame}
use Rattle.gl_value.specs.Sound.{facts_of, sheet_facts}
use Rattle.std.specs.Borrow.{Bor}
use Rattle.std.specs.Option.{option_copied}
use Rattle.gl_value.specs.View.{sheet_tree, frame_tree, value_tree}
use Rattle.gl_value.specs.declared.Value.{Value as Code}
use Rattle.gl_value.specs.declared.SheetVal.{SheetVal}
use Rattle.gl_demand.specs.Held.{or_else, override_in}

-- the frame of a sound sheet value is sound
pub parent_sound : (s : SheetVal) → IsTrue (is_sound_sheet (sheet_tree s)) → IsTrue (is_sound_frame (frame_tree s.env))
parent_sound s h = (sheet_facts s h).frame

home_step : (b : Bool) (f : Frame) (e : Frame) → is_sound_frame f ≡ true → is_sound_frame e ≡ true → is_sound_frame (cond b f e) ≡ true
home_step true f e h k = h
home_step false f e h k = k

pub home_sound : (e : Frame) (a : Addr) → is_sound_frame e ≡ true → is_sound_frame (home e a) ≡ true
home_sound Top a h = refl
home_sound (In (sheet_value r os e k w) o) a h = home_step (covers r a) (In (sheet_value r os e k w) o) (home e a) h (home_sound e a (facts_of r os e k w h).frame)

in_step : (b : Bool) (f e : Frame) (a : Addr) → in_region f a ≡ b → in_region e a ≡ true → in_region (cond b f e) a ≡ true
in_step true f e a h k = h
in_step false f e a h k = k

-- an address is in the region of its home frame
pub in_home : (e : Frame) (a : Addr) → in_region (home e a) a ≡ true
in_home Top a = refl
in_home (In (sheet_value r os e k w) o) a = in_step (covers r a) (In (sheet_value r os e k w) o) (home e a) a refl (in_home e a)

pub own_home : (c : Option Content) (e : Frame) (a : Addr) → own_content c (home e a) a ≡ content_in c (home e a) a
own_home c e a = ap (λ b. cond b (content_in c (home e a) a) None) (in_home e a)

-- ---- overrides

sound_found : (b : Bool) (v : Value) (o : Option Value) → is_sound_value v ≡ true → IfSome o (λ u. is_sound_value u ≡ true) → IfSome (cond b (Some v) o) (λ u. is_sound_value u ≡ true)
sound_found true v o h k = h
sound_found false v o h k = k

pub override_sound : (os : Overrides) (a : Addr) → are_sound_overrides os ≡ true → IfSome (override_at os a) (λ u. is_sound_value u ≡ true)
override_sound no_override a h = tt
override_sound (override_and b v os) a h =
    let p = and_parts (is_sound_value v) (are_sound_overrides os) h in
    sound_found (same_addr a b) v (override_at os a) p.0 (override_sound os a p.1)

sound_else : (o p : Option Value) → IfSome o (λ u. is_sound_value u ≡ true) → IfSome p (λ u. is_sound_value u ≡ true) → IfSome (or_else o p) (λ u. is_sound_value u ≡ true)
sound_else (Some v) p h k = h
sound_else None p h k = k

pub override_in_sound : (e : Frame) (a : Addr) → is_sound_frame e ≡ true → IfSome (override_in e a) (λ u. is_sound_value u ≡ true)
override_in_sound Top a h = tt
override_in_sound (In (sheet_value r os e k w) o) a h =
    let f = facts_of r os e k w h in
    sound_else (override_at os a) (override_in e a) (override_sound os a f.overrides) (override_in_sound e a f.frame)

or_both : (o p : Option Value) (h : Option Held) → override_or o (override_or p h) ≡ override_or (or_else o p) h
or_both (Some v) p h = refl
or_both None p h = refl

-- the content of an address is the nearest override, else what the sheet has there
pub content_nearest : (c : Option Content) (e : Frame) (a : Addr) → content_in c e a ≡ override_or (override_in e a) (held_top c)
content_nearest c Top a = refl
content_nearest c (In (sheet_value r os e k w) o) a = ap (override_or (override_at os a)) (content_nearest c e a) ∙ or_both (override_at os a) (override_in e a) (held_top c)

-- the same of a value of the code
pub found_sound : (o : Option (Bor Code)) (e : Frame) (a : Addr) → is_sound_frame e ≡ true → option_map value_tree (option_copied o) ≡ override_in e a → IfSome o (λ v. IsTrue (is_sound_value (value_tree v.now)))
found_sound None e a h k = tt
found_sound (Some v) e a h k = subst (λ o. IfSome o (λ u. is_sound_value u ≡ true)) (sym k) (override_in_sound e a h)

pub nearest_some : (c : Option Content) (e : Frame) (a : Addr) (v : Value) → Some v ≡ override_in e a → Some (Given v) ≡ content_in c e a
nearest_some c e a v h = ap (λ o. override_or o (held_top c)) h ∙ sym (content_nearest c e a)

pub nearest_none : (c : Option Content) (e : Frame) (a : Addr) → None ≡ override_in e a → held_top c ≡ content_in c e a
nearest_none c e a h = ap (λ o. override_or o (held_top c)) h ∙ sym (content_nearest c e a)
