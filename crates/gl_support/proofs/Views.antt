-- Triples of the code as plain ones.
use Rattle.std.proofs.Common.{◌≡◌, Bool, ◌||◌, List, [], ◌∷◌, map, Result, Ok, Err, IfOk, refl, ap}
use Rattle.std.specs.List.{list_any}
use Rattle.gl_support.specs.Affected as plain
use Rattle.gl_support.specs.Triples.{plain_triple}
use Rattle.gl_support.specs.declared.triple.Triple.{Triple}

module _ {K A : Type 0} where
  pub any_plain : (p : plain.Triple K A → Bool) (ts : List (Triple K A)) → list_any (λ t. p (plain_triple t)) ts ≡ list_any p (map plain_triple ts)
  any_plain p [] = refl
  any_plain p (t ∷ ts) = ap (λ b. p (plain_triple t) || b) (any_plain p ts)

  pub keys_plain : (ts : List (Triple K A)) → map (λ t. t.by) ts ≡ map (λ t. t.by) (map plain_triple ts)
  keys_plain [] = refl
  keys_plain (t ∷ ts) = ap (λ ks. t.by ∷ ks) (keys_plain ts)

pub if_ok : {X E : Type 0} {P Q : X → Type 0} (r : Result X E) → ((x : X) → P x → Q x) → IfOk r P → IfOk r Q
if_ok (Ok x) f h = f x h
if_ok (Err e) f h = h
