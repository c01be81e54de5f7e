-- Numbers and the places at which they are known.
use Rattle.std.proofs.Common.{◌≡◌, ℕ, suc, ◌<◌, length, slice_get, slice_index, Some, None, sym, ap, ◌∙◌, arith}
use Rattle.gl_calculus.specs.Computation.Lists.{Member}
use Rattle.gl_core.specs.Numbers.{IsPlace}
use Rattle.gl_core.specs.Table.{IsIndexed}
use Rattle.gl_core.specs.declared.entries.Entries.{Entries}
use Rattle.gl_core.proofs.Wakes.{get_within}
use Rattle.gl_core.proofs.Numbered.{get_of_index, index_of_get}
use Rattle.gl_core.proofs.Places.{place_of}

-- a place that is read is that of the number
pub place_there : (e : Entries) → IsIndexed e → (n p : ℕ) → IsPlace (slice_index e.at.items n) (Some p) → (p < length e.known.items) × (slice_get e.known.items p ≡ Some n)
place_there e i n p d = let (h, q) = i.back n p d in (h, get_of_index e.known.items p h ∙ ap Some q)

-- where none is read, the number isn't known
pub no_place : (e : Entries) → IsIndexed e → (n : ℕ) → IsPlace (slice_index e.at.items n) None → Member n e.known.items → ⊥
no_place e i n z m =
    let (p, d) = place_of e.known.items n m in
    let h = get_within e.known.items p n d in
    let a : slice_index e.at.items n ≡ suc p = ap (slice_index e.at.items) (sym (index_of_get e.known.items p n d)) ∙ i.there p h in
    let b : 0 ≡ suc p = sym z ∙ a in
    omega (arith, b)
