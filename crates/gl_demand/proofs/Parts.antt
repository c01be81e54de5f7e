-- Evaluations whose parts are walked one after another.
use Rattle.std.proofs.Common.{◌≡◌, Result, Ok, Err, IfOk, IfErr, refl, sym, subst}
use Rattle.gl_calculus.specs.Evaluation.Key.{Eval, give, ◌>>=◌}
use Rattle.gl_demand.specs.Walk.{Inputs}
use Rattle.gl_demand.specs.Walks.{Walks}
use Rattle.gl_demand.specs.declared.trail.Trail.{Trail}
use Rattle.gl_demand.specs.declared.trail.Halt.{Halt}
use Rattle.gl_demand.specs.declared.trail.Halt.TheVariants as halt
use Rattle.gl_demand.proofs.Walking.{goes_on, halts}
use Rattle.gl_demand.proofs.References.{gives}

module _ (w : Inputs) where
  pub one_then : {X Y A B : Type 0} (p : Eval B) (q : Eval A) (g : A → Eval B) (f : X → A) (f' : Y → B) (old mid new : Trail) (x : X) (r : Result Y Halt)
      → p ≡ (q >>= g) → Walks w q f old (Ok x) mid → Walks w (g (f x)) f' mid r new → Walks w p f' old r new
  one_then p q g f f' old mid new x r e a b = subst (λ z. Walks w z f' old r new) (sym e) (goes_on w g q f f' old mid new x r a b)

  pub one_given : {X Y A B : Type 0} (p : Eval B) (q : Eval A) (g : A → B) (f : X → A) (f' : Y → B) (old mid : Trail) (x : X) (r : Result Y Halt)
      → p ≡ (q >>= λ v. give (g v)) → Walks w q f old (Ok x) mid → IfOk r (λ y. f' y ≡ g (f x)) → IfErr r (λ h. h ≡ halt.NoMemory) → Walks w p f' old r mid
  one_given p q g f f' old mid x r e a b c = one_then p q (λ v. give (g v)) f f' old mid mid x r e a (gives w (g (f x)) f' mid r b c)

  pub one_halts : {X Y A B : Type 0} (p : Eval B) (q : Eval A) (g : A → Eval B) (f : X → A) (f' : Y → B) (old new : Trail) (h : Halt)
      → p ≡ (q >>= g) → Walks w q f old (Err h) new → Walks w p f' old (Err h) new
  one_halts p q g f f' old new h e a = subst (λ z. Walks w z f' old (Err h) new) (sym e) (halts w g q f f' old new h a)

  pub two_given : {X Z Y A C B : Type 0} (p : Eval B) (q : Eval A) (q' : Eval C) (g : A → C → B) (f : X → A) (k : Z → C) (f' : Y → B) (old mid new : Trail) (x : X) (z : Z) (r : Result Y Halt)
      → p ≡ (q >>= λ u. q' >>= λ v. give (g u v)) → Walks w q f old (Ok x) mid → Walks w q' k mid (Ok z) new → IfOk r (λ y. f' y ≡ g (f x) (k z)) → IfErr r (λ h. h ≡ halt.NoMemory) → Walks w p f' old r new
  two_given p q q' g f k f' old mid new x z r e a b c d =
      one_then p q (λ u. q' >>= λ v. give (g u v)) f f' old mid new x r e a
      (one_given (q' >>= λ v. give (g (f x) v)) q' (g (f x)) k f' mid new z r refl b c d)

  pub two_halts : {X Z Y A C B : Type 0} (p : Eval B) (q : Eval A) (q' : Eval C) (g : A → C → Eval B) (f : X → A) (k : Z → C) (f' : Y → B) (old mid new : Trail) (x : X) (h : Halt)
      → p ≡ (q >>= λ u. q' >>= λ v. g u v) → Walks w q f old (Ok x) mid → Walks w q' k mid (Err h) new → Walks w p f' old (Err h) new
  two_halts p q q' g f k f' old mid new x h e a b =
      one_then p q (λ u. q' >>= λ v. g u v) f f' old mid new x (Err h) e a
      (one_halts (q' >>= λ v. g (f x) v) q' (g (f x)) k f' mid new h refl b)

  pub two_then : {X Z Y A C B : Type 0} (p : Eval B) (q : Eval A) (q' : Eval C) (g : A → C → Eval B) (f : X → A) (k : Z → C) (f' : Y → B) (old mid late new : Trail) (x : X) (z : Z) (r : Result Y Halt)
      → p ≡ (q >>= λ u. q' >>= λ v. g u v) → Walks w q f old (Ok x) mid → Walks w q' k mid (Ok z) late → Walks w (g (f x) (k z)) f' late r new → Walks w p f' old r new
  two_then p q q' g f k f' old mid late new x z r e a b c =
      one_then p q (λ u. q' >>= λ v. g u v) f f' old mid new x r e a
      (one_then (q' >>= λ v. g (f x) v) q' (g (f x)) k f' mid late new z r refl b c)
