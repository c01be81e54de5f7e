-- Where the replies to items have room, so have those to the first of them; where the latter have none, the former have none.
use Rattle.std.proofs.Common.{◌≡◌, ℕ, ◌+◌, ◌≤◌, ◌<◌, nat_le, Bool, true, false, refl, List, ◌++◌, length, ap, sym, subst, ◌∙◌, arith, length-append}
use Rattle.std.specs.List.{concat}
use Rattle.std.proofs.lemmas.List.Folds.{concat-append}
use Rattle.std.proofs.lemmas.Bool.Decides.{nat_tests}
use Rattle.gl_run.proofs.Runs.{IsPrefix-trans}
use Rattle.gl_protocol.specs.Framing.Framing.{Item}
use Rattle.gl_protocol.specs.Scripts.Output.{AreReplies}
use Rattle.gl_protocol.specs.Run.Records.{csv_records}
use Rattle.laws_protocol.proofs.Scripts.Fronts.{first_replies_first}
use Rattle.laws_protocol.proofs.Scripts.Outputs.{one_output}
use Rattle.gl_protocol.specs.Run.Out.{IsPrefix, Front, Exceeds}

-- the replies to these items have n bytes at most
abbrev pub Fits : ℕ → List Item → Type 0
Fits n is = (replies : List (List ℕ)) × AreReplies csv_records is replies × (length (concat replies) ≤ n)

-- the first of the first items are first items
abbrev pub front_within : {a b : List Item} → Front a → IsPrefix a b → Front b
front_within {a = a} {b = b} f p = record { items = f.items; are_first = IsPrefix-trans f.items a b f.are_first p; replies = f.replies; are_replies = f.are_replies }

shorter : (rs qs : List (List ℕ)) → length (concat rs) ≤ length (concat (rs ++ qs))
shorter rs qs = let e : length (concat (rs ++ qs)) ≡ length (concat rs) + length (concat qs) = ap length (concat-append rs qs) ∙ length-append (concat rs) (concat qs) in omega (arith, e)

pub front_fits : (n : ℕ) (l is : List Item) → IsPrefix l is → Fits n is → Fits n l
front_fits n l is (more, e) (rs, out, le) =
    let (firsts, behind, replies, whole) = first_replies_first csv_records l more rs (subst (λ (js : List Item). AreReplies csv_records js rs) e out) in
    let less : length (concat firsts) ≤ length (concat rs) = subst (λ (ps : List (List ℕ)). length (concat firsts) ≤ length (concat ps)) (sym whole) (shorter firsts behind) in
    (firsts, replies, omega (arith, less, le))

-- whichever replies those are
pub first_fits : (n : ℕ) (l is : List Item) (replies : List (List ℕ)) → IsPrefix l is → AreReplies csv_records l replies → Fits n is → length (concat replies) ≤ n
first_fits n l is replies p out fits =
    let (firsts, of_firsts, le) = front_fits n l is p fits in
    subst (λ (rs : List (List ℕ)). length (concat rs) ≤ n) (one_output csv_records l firsts replies of_firsts out) le

more_than : (a b : ℕ) → (a ≤ b → ⊥) → b < a
more_than a b h = by (nat_le a b) refl
  where
    by : (t : Bool) → nat_le a b ≡ t → b < a
    by true e = absurd (h (grind (arith, nat_tests, e)))
    by false e = grind (arith, nat_tests, e)

-- the replies to these first items have no room
pub exceeding : (n : ℕ) (l is : List Item) (replies : List (List ℕ)) → IsPrefix l is → AreReplies csv_records l replies → (length (concat replies) ≤ n → ⊥) → Exceeds n is
exceeding n l is replies p out small = (record { items = l; are_first = p; replies = replies; are_replies = out }, more_than (length (concat replies)) n small)

pub exceeds_within : (n : ℕ) (a b : List Item) → IsPrefix a b → Exceeds n a → Exceeds n b
exceeds_within n a b p h = (front_within h.0 p, h.1)

-- so those to all have no room
pub none_fit : (n : ℕ) (is : List Item) → Exceeds n is → Fits n is → ⊥
none_fit n is h fits =
    let le : length (concat h.0.replies) ≤ n = first_fits n h.0.items is h.0.replies h.0.are_first h.0.are_replies fits in
    omega (arith, le, h.1)
