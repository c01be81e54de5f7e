use Rattle.std.proofs.Common.{◌≡◌, ◌++◌, ◌∷◌, [], ℕ, ◌<◌, ◌≤◌, List, length, None, Some, ap, ◌∙◌, arith}
use Rattle.std.proofs.lemmas.Bool.Decides.{nat_tests}
use Rattle.gl_calculus.specs.Calculation.Memory.{Table}
use Rattle.gl_calc.specs.Progress.{Progress, made_with, beyond_with}
use Rattle.gl_calc.proofs.tables.Tables.keep.Goals as goal
use Rattle.gl_calc.proofs.tables.Tables.keep.Goals.{in-Some-1, in-None-1, in-Some-2, in-None-2}

made_more : (made : List Table) (t : Table) (n : ℕ) → n ≡ length made → n < 8 → made ++ t ∷ [] ≡ made_with made t
made_more made t n e l = grind (arith, nat_tests, e, l)

none_beyond : (made : List Table) (t : Table) (n : ℕ) → n ≡ length made → n < 8 → None ≡ beyond_with made t
none_beyond made t n e l = grind (arith, nat_tests, e, l)

made_same : (made : List Table) (t : Table) (n : ℕ) → n ≡ length made → 8 ≤ n → made ≡ made_with made t
made_same made t n e l = grind (arith, nat_tests, e, l)

one_beyond : (made : List Table) (t : Table) (n : ℕ) → n ≡ length made → 8 ≤ n → Some t ≡ beyond_with made t
one_beyond made t n e l = grind (arith, nat_tests, e, l)

pub returns-then-len-lt-KEPT_ROUNDS-clause-made : goal.returns-then-len-lt-KEPT_ROUNDS-clause-made
returns-then-len-lt-KEPT_ROUNDS-clause-made c =
    let t = c.args.table in
    let old : c.self.inside.made.items ≡ c.args.self.now.made = ap (λ (p : Progress). p.made) c.self.view_is in
    let n : c.len.result ≡ length c.args.self.now.made = omega (arith, c.len.ensures, c.self.inside.made.ok.0, ap length old) in
    let all = c.push_reserved.ensures.items ∙ ap (λ (ts : List Table). ts ++ t ∷ []) old ∙ made_more c.args.self.now.made t c.len.result n c.if-len-lt-KEPT_ROUNDS.true in
    elim c.match-self.branch [
      | in-Some-1 w ↦ ap (λ (p : Progress). p.made) w.self-is ∙ all
      | in-None-1 w ↦ ap (λ (p : Progress). p.made) w.self-is ∙ all
    ]

pub returns-then-len-lt-KEPT_ROUNDS-clause-beyond : goal.returns-then-len-lt-KEPT_ROUNDS-clause-beyond
returns-then-len-lt-KEPT_ROUNDS-clause-beyond c =
    let old : c.self.inside.made.items ≡ c.args.self.now.made = ap (λ (p : Progress). p.made) c.self.view_is in
    let n : c.len.result ≡ length c.args.self.now.made = omega (arith, c.len.ensures, c.self.inside.made.ok.0, ap length old) in
    let none = none_beyond c.args.self.now.made c.args.table c.len.result n c.if-len-lt-KEPT_ROUNDS.true in
    elim c.match-self.branch [
      | in-Some-1 w ↦ ap (λ (p : Progress). p.beyond) w.self-is ∙ none
      | in-None-1 w ↦ ap (λ (p : Progress). p.beyond) w.self-is ∙ none
    ]

pub returns-else-len-lt-KEPT_ROUNDS-clause-made : goal.returns-else-len-lt-KEPT_ROUNDS-clause-made
returns-else-len-lt-KEPT_ROUNDS-clause-made c =
    let old : c.self.inside.made.items ≡ c.args.self.now.made = ap (λ (p : Progress). p.made) c.self.view_is in
    let n : c.len.result ≡ length c.args.self.now.made = omega (arith, c.len.ensures, c.self.inside.made.ok.0, ap length old) in
    let all = old ∙ made_same c.args.self.now.made c.args.table c.len.result n c.if-len-lt-KEPT_ROUNDS.false in
    elim c.match-self-2.branch [
      | in-Some-2 w ↦ ap (λ (p : Progress). p.made) w.self-is ∙ all
      | in-None-2 w ↦ ap (λ (p : Progress). p.made) w.self-is ∙ all
    ]

pub returns-else-len-lt-KEPT_ROUNDS-clause-beyond : goal.returns-else-len-lt-KEPT_ROUNDS-clause-beyond
returns-else-len-lt-KEPT_ROUNDS-clause-beyond c =
    let old : c.self.inside.made.items ≡ c.args.self.now.made = ap (λ (p : Progress). p.made) c.self.view_is in
    let n : c.len.result ≡ length c.args.self.now.made = omega (arith, c.len.ensures, c.self.inside.made.ok.0, ap length old) in
    let one = one_beyond c.args.self.now.made c.args.table c.len.result n c.if-len-lt-KEPT_ROUNDS.false in
    elim c.match-self-2.branch [
      | in-Some-2 w ↦ ap (λ (p : Progress). p.beyond) w.self-is ∙ one
      | in-None-2 w ↦ ap (λ (p : Progress). p.beyond) w.self-is ∙ one
    ]
