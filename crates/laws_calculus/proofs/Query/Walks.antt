-- What a key reads and looks at is determined, and one level over true outcomes makes its note.
use Rattle.std.proofs.Common.{◌≡◌, List, None, refl, sym, ap, subst, ◌∙◌}
use Rattle.gl_calculus.specs.Computation.Lists.{distinct}
use Rattle.gl_calculus.specs.Computation.Query.{Query, Found, Ready, Path, Has, Loops, asked, looked}
use Rattle.laws_calculus.specs.Query.{OneWalk, LevelNotes}
use Rattle.laws_calculus.proofs.Query.Levels.{one_path, wider, Has-one, Has-Loops}
use Rattle.laws_calculus.proofs.Query.Looping.{true_path}

pub one_walk : (K O A : Type 0) → OneWalk K O A
one_walk K O A same program k = (
  λ rs ss x y. let (ks, ls, e, p, a) = x in let (js, ms, d, q, b) = y in a ∙ ap (distinct same) (one p q).0 ∙ sym b,
  λ ls ms x y. let (ks, e, p) = x in let (js, d, q) = y in (one p q).1,
  λ x y rs ss ls ms m n. let (ks, p, a) = m in let (js, q, b) = n in (ends _ _ x y (one p q).2 refl refl, a ∙ ap (distinct same) (one p q).0 ∙ sym b, (one p q).1),
)
  where
    one : {q : Query K O A O} {ks js : List K} {ls ms : List A} {d e : Found K O} → Path (Has program) (Loops program) q ks ls d → Path (Has program) (Loops program) q js ms e → (ks ≡ js) × (ls ≡ ms) × (d ≡ e)
    one p q = one_path (Has program) (Has program) (Loops program) (Loops program) (λ j x y h i. Has-one program j x y h i) (λ j x h l. Has-Loops program j x h l) (λ j x h l. Has-Loops program j x h l) p q

    ends : (d e : Found K O) (x y : O) → d ≡ e → d ≡ Ready x → e ≡ Ready y → x ≡ y
    ends d e x y h p q = cc (h, p, q)

pub level_notes : (K O A : Type 0) → LevelNotes K O A
level_notes K O A same program f t k o e =
    (asked f (program k), wider (Has program) (Has program) (λ j. f j ≡ None) (Loops program) (λ j x h. h) (subst (λ u. Path (Has program) (λ j. f j ≡ None) (program k) (asked f (program k)) (looked f (program k)) u) e (true_path program f t (program k))), refl)
