-- The numbers of a plan stand for the nodes of its sheet.
use Rattle.std.proofs.Common.{◌≡◌, ◌⊎◌, inl, inr, ℕ, ◌+◌, ◌*◌, ◌%◌, ◌/◌, ◌==◌, ◌<◌, Bool, true, false, ◌∷◌, map, get_or, refl, sym, subst, ◌∙◌, arith}
use Rattle.std.specs.Prelude.{Option, Some, None, if◌then◌else◌}
use Rattle.std.specs.Option.{option_to_list}
use Rattle.std.proofs.lemmas.Bool.{cases_order}
use Rattle.gl_calculus.specs.Computation.Lists.{Member}
use Rattle.gl_calculus.specs.Grid.Grid.{Addr, addr, is_before, Range}
use Rattle.gl_calculus.specs.Formulas.Formula.{Cells, formula_addresses}
use Rattle.gl_calculus.specs.Forecast.{Node, entries_in, box, cell_nodes, nodes}
use Rattle.laws_calculus.proofs.Forecast.Values.{flat_member}
use Rattle.laws_calculus.proofs.Forecast.Nodes.{flat_part}
use Rattle.gl_flow.specs.Places.{StandsAt}
use Rattle.gl_flow.specs.Network.{Plan, node_of}
use Rattle.gl_flow.proofs.Placing.{in_order, never_self}
use Rattle.gl_flow.specs.Planning.{IsPlanOf}
use Rattle.gl_flow.proofs.Dependences.{IsReal, value, entry, value_node, entry_node, stands_at, listed_at}
use borrow.Author.Tests.{eqb-true, eqb-false}

-- an entry weighs 1, and a value 0
pub weighs : (plan : Plan) (m : ℕ) → m % 2 ≡ entries_in (node_of plan m)
weighs plan m = by (m % 2 == 0) refl
  where
    by : (b : Bool) → (m % 2 == 0) ≡ b → m % 2 ≡ entries_in (if b then Node.Value (get_or plan.places (m / 2) (addr 0 0)) else Node.Entry (get_or plan.places (m / 2) (addr 0 0)))
    by true e = eqb-true (m % 2) 0 e
    by false e = let u = eqb-false (m % 2) 0 e in omega (arith, u)

module _ (S : Cells) (rows : ℕ) (plan : Plan) (h : IsPlanOf S rows plan) where
  one_number : (a b : Addr) (j k : ℕ) → StandsAt plan.places a j → StandsAt plan.places b k → a ≡ b → j ≡ k
  one_number a b j k s t e = by (cases_order j k)
    where
      by : (j ≡ k) ⊎ ((j < k) ⊎ (k < j)) → j ≡ k
      by (inl i) = i
      by (inr (inl i)) = absurd (never_self b (subst (λ t. is_before t b ≡ true) e (in_order plan.places a b j k h.in_order s t i)))
      by (inr (inr i)) = absurd (never_self b (subst (λ x. is_before b x ≡ true) e (in_order plan.places b a k j h.in_order t s i)))

  pub apart : (m n : ℕ) → IsReal S plan m → IsReal S plan n → node_of plan m ≡ node_of plan n → m ≡ n
  apart m n (value j {a = a} s) (value k {a = b} t) e =
      let u : Node.Value a ≡ Node.Value b = sym (value_node plan j a s) ∙ e ∙ value_node plan k b t in
      let v : a ≡ b = cc u in
      let w = one_number a b j k s t v in
      omega (arith, w)
  apart m n (value j {a = a} s) (entry k {a = b} t g) e =
      let u : Node.Value a ≡ Node.Entry b = sym (value_node plan j a s) ∙ e ∙ entry_node plan k b t in absurd (cc u)
  apart m n (entry j {a = a} s f) (value k {a = b} t) e =
      let u : Node.Entry a ≡ Node.Value b = sym (entry_node plan j a s) ∙ e ∙ value_node plan k b t in absurd (cc u)
  apart m n (entry j {a = a} s f) (entry k {a = b} t g) e =
      let u : Node.Entry a ≡ Node.Entry b = sym (entry_node plan j a s) ∙ e ∙ entry_node plan k b t in
      let v : a ≡ b = cc u in
      let w = one_number a b j k s t v in
      omega (arith, w)

  -- each node has a number
  pub numbered : (d : Node) → Member d (nodes S) → (n : ℕ) × IsReal S plan n × (node_of plan n ≡ d)
  numbered d m =
      let (a, i, j) = flat_part (cell_nodes S) (formula_addresses S) d m in
      let (k, s) = stands_at plan.places a (subst (λ t. Member a t) (sym h.places) i) in
      by a k s (box S a) refl j
    where
      by : (a : Addr) (k : ℕ) → StandsAt plan.places a k → (o : Option Range) → box S a ≡ o → Member d (Node.Value a ∷ map (λ r. Node.Entry a) (option_to_list o)) → (n : ℕ) × IsReal S plan n × (node_of plan n ≡ d)
      by a k s o e (inl i) = (2 * k, value k s, value_node plan k a s ∙ sym i)
      by a k s None e (inr i) = absurd i
      by a k s (Some r) e (inr (inl i)) = (2 * k + 1, entry k s e, entry_node plan k a s ∙ sym i)
      by a k s (Some r) e (inr (inr i)) = absurd i

  -- and each number is that of a node
  pub real_node : (m : ℕ) → IsReal S plan m → Member (node_of plan m) (nodes S)
  real_node m (value k {a = a} s) =
      subst (λ t. Member t (nodes S)) (sym (value_node plan k a s)) (flat_member (cell_nodes S) (formula_addresses S) a (Node.Value a) (subst (λ t. Member a t) h.places (listed_at plan.places a k s)) (inl refl))
  real_node m (entry k {a = a} {r = r} s e) =
      subst (λ t. Member t (nodes S)) (sym (entry_node plan k a s))
      (flat_member (cell_nodes S) (formula_addresses S) a (Node.Entry a) (subst (λ t. Member a t) h.places (listed_at plan.places a k s))
      (inr (subst (λ o. Member (Node.Entry a) (map (λ r. Node.Entry a) (option_to_list o))) (sym e) (inl refl))))
