-- Whether an area is free, by what is asked of it.
use Rattle.std.proofs.Common.{◌≡◌, Bool, true, false, ◌&&◌, ◌||◌, not, cond, List, [], ◌∷◌, Option, Some, None, is_none, refl, ap, ◌∙◌}
use Rattle.std.specs.List.{find, list_all, list_any}
use Rattle.gl_calculus.specs.Grid.Grid.{Addr, Size, Range, same_addr, area, addresses, lies_in, meets}
use Rattle.gl_calculus.specs.Evaluation.Oracle.{is_free}
use Rattle.gl_plane.specs.Parts.{area_within}

none_step : (h s : Bool) (b : Addr) (rest : Option Addr) (all : Bool) → all ≡ is_none rest → ((s || not h) && all) ≡ is_none (cond (h && not s) (Some b) rest)
none_step true true b rest all e = e
none_step true false b rest all e = refl
none_step false true b rest all e = e
none_step false false b rest all e = e

-- no address of the list holds anything but the root exactly where none is found that does
pub none_found : (held : Addr → Bool) (root : Addr) (bs : List Addr) → list_all (λ b. same_addr b root || not (held b)) bs ≡ is_none (find (λ b. held b && not (same_addr b root)) bs)
none_found held root [] = refl
none_found held root (b ∷ bs) = none_step (held b) (same_addr b root) b (find (λ c. held c && not (same_addr c root)) bs) (list_all (λ c. same_addr c root || not (held c)) bs) (none_found held root bs)

within_step : (b : Bool) (s r : Range) → cond b (Some s) None ≡ Some r → (b ≡ true) × (s ≡ r)
within_step true s r h = (refl, cc)
within_step false s r h = absurd (cc h)

outside_step : (b : Bool) (s : Range) → cond b (Some s) None ≡ None → b ≡ false
outside_step true s h = absurd (cc h)
outside_step false s h = refl

-- an area that lies in the bound
pub is_within : (bound : Range) (root : Addr) (size : Size) (r : Range) → area_within bound root size ≡ Some r → (lies_in (area root size) bound ≡ true) × (area root size ≡ r)
is_within bound root size r h = within_step (lies_in (area root size) bound) (area root size) r h

pub is_outside : (bound : Range) (root : Addr) (size : Size) → area_within bound root size ≡ None → lies_in (area root size) bound ≡ false
is_outside bound root size h = outside_step (lies_in (area root size) bound) (area root size) h

-- whether it is free, once it lies in the bound
pub free_within : (bound : Range) (held : Addr → Bool) (taken : List Range) (root : Addr) (size : Size) (r : Range) (blocked met : Bool) → area_within bound root size ≡ Some r →
    is_none (find (λ b. held b && not (same_addr b root)) (addresses r)) ≡ blocked → list_any (meets r) taken ≡ met →
    is_free bound held taken root (area root size) ≡ (blocked && not met)
free_within bound held taken root size r blocked met h e f =
    let within = is_within bound root size r h in
    ap (λ b. (b && list_all (λ b. same_addr b root || not (held b)) (addresses (area root size))) && not (list_any (meets (area root size)) taken)) within.0
    ∙ ap (λ q. list_all (λ b. same_addr b root || not (held b)) (addresses q) && not (list_any (meets q) taken)) within.1
    ∙ ap (λ b. b && not (list_any (meets r) taken)) (none_found held root (addresses r) ∙ e)
    ∙ ap (λ b. blocked && not b) f
