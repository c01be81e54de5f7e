-- An item has one effect and one reply.
use Rattle.std.specs.Prelude.{codes}
use Rattle.std.proofs.Common.{◌≡◌, ◌∙◌, inl, inr, ℕ, ◌+◌, ◌<◌, Bool, true, false, List, ◌∷◌, length, get_or, Option, Some, None, refl, sym, ap, subst, arith, IsTrue}
use Rattle.std.proofs.lemmas.List.{ext_get_or}
use Rattle.std.proofs.lemmas.Grind.{common_steps}
use Rattle.gl_calculus.specs.Grid.Grid.{Addr, addr, Range, extents}
use Rattle.gl_calculus.specs.Values.Value.{Oracle}
use Rattle.gl_calculus.specs.Formulas.Formula.{Version, Cells}
use Rattle.gl_calculus.specs.Calculation.Calculation.{SpentKind, IsAnswer, Shown, IsShown}
use Rattle.gl_calculus.specs.Calculation.Calculation as A
use Rattle.laws_calculus.proofs.Calculus.Proved.{at_most_one_answer, at_most_one_shown}
use Rattle.gl_language.specs.Texts.Text.{Bytes, shown_text}
use Rattle.gl_calculus.specs.Explanation.Certificate.{Certificate, Cert, Explains}
use Rattle.laws_calculus.proofs.Explanation.Once.{one_explanation}
use Rattle.laws_calculus.proofs.Forecast.Once.{one_forecast}
use Rattle.gl_protocol.specs.Framing.Framing.{Item, Line, Import, Long, Truncated}
use Rattle.gl_protocol.specs.Replies.Tables.{line, table_text}
use Rattle.gl_protocol.specs.Replies.Explanations.{explanation_text, forecast_line}
use Rattle.gl_protocol.specs.Scripts.Commands as C
use Rattle.gl_protocol.specs.Scripts.Commands.{Is, Not, Request, ReadsLine, ImportWords, words_of, error_line, spent_line, AreShown, SettledReply, asks_calculation}
use Rattle.gl_calculus.specs.Edits.Replicas.{Stamp, Edit, Judged, Wins, Loses, Conflict, IsJudged, is_earlier}
use Rattle.gl_calculus.specs.Edits.Replicas as R
use Rattle.gl_calculus.specs.Evaluation.World.{world}
use Rattle.gl_protocol.specs.Scripts.Script.{Script, register_of, merge}
use Rattle.gl_protocol.specs.Scripts.Acts.{Does}
use Rattle.gl_script.proofs.Once.{one_line, same_place}
use Rattle.laws_protocol.proofs.Scripts.Effects.{Calculated, Done, Cause, State, Forecasted, Brought, cause, LeavesBy, done, of_read, Effect, effect, import_effect, ByPlace, Imports, Acted}

-- two results that are one
abbrev Same : Script → Script → Bytes → Bytes → Type 0
Same t u r q = (t ≡ u) × (r ≡ q)

same : (t u v : Script) (r q p : Bytes) → (t ≡ v) × (r ≡ p) → (u ≡ v) × (q ≡ p) → Same t u r q
same t u v r q p h k = (h.0 ∙ sym k.0, h.1 ∙ sym k.1)

-- ---- what an edit is to a register

not_both_ways : (s t : Stamp) → IsTrue (is_earlier s t) → IsTrue (is_earlier t s) → ⊥
not_both_ways s t h k = let no : true ≡ false = grind (arith, common_steps, h, k) in cc no

not_itself : (s t : Stamp) → s ≡ t → IsTrue (is_earlier s t) → ⊥
not_itself s t e h = not_both_ways s t h (subst (λ (z : Stamp). IsTrue (is_earlier t z)) (sym e) (subst (λ (z : Stamp). IsTrue (is_earlier z t)) e h))

-- it is one of the four
pub one_judged : (o : Option Edit) (e : Edit) (j k : Judged) → IsJudged o e j → IsJudged o e k → j ≡ k
one_judged None e Wins Wins h i = refl
one_judged None e Wins Loses h i = absurd i
one_judged None e Wins R.Judged.Same h i = absurd i
one_judged None e Wins Conflict h i = absurd i
one_judged None e Loses k h i = absurd h
one_judged None e R.Judged.Same k h i = absurd h
one_judged None e Conflict k h i = absurd h
one_judged (Some r) e Wins Wins h i = refl
one_judged (Some r) e Wins Loses h i = absurd (not_both_ways r.stamp e.stamp h i)
one_judged (Some r) e Wins R.Judged.Same h i = absurd (not_itself r.stamp e.stamp i.0 h)
one_judged (Some r) e Wins Conflict h i = absurd (not_itself r.stamp e.stamp i.0 h)
one_judged (Some r) e Loses Wins h i = absurd (not_both_ways r.stamp e.stamp i h)
one_judged (Some r) e Loses Loses h i = refl
one_judged (Some r) e Loses R.Judged.Same h i = absurd (not_itself e.stamp r.stamp (sym i.0) h)
one_judged (Some r) e Loses Conflict h i = absurd (not_itself e.stamp r.stamp (sym i.0) h)
one_judged (Some r) e R.Judged.Same Wins h i = absurd (not_itself r.stamp e.stamp h.0 i)
one_judged (Some r) e R.Judged.Same Loses h i = absurd (not_itself e.stamp r.stamp (sym h.0) i)
one_judged (Some r) e R.Judged.Same R.Judged.Same h i = refl
one_judged (Some r) e R.Judged.Same Conflict h i = absurd (i.1 h.1)
one_judged (Some r) e Conflict Wins h i = absurd (not_itself r.stamp e.stamp h.0 i)
one_judged (Some r) e Conflict Loses h i = absurd (not_itself e.stamp r.stamp (sym h.0) i)
one_judged (Some r) e Conflict R.Judged.Same h i = absurd (h.1 i.1)
one_judged (Some r) e Conflict Conflict h i = refl

-- ---- requests

module _ (records : Bytes → List (List Bytes)) (version : Version) (S : Cells) where
  -- ---- what is shown

  one_row : (w : Oracle) (r : Range) (i n : ℕ) (xs ys : List Shown) → length xs ≡ n → length ys ≡ n
      → ((j : ℕ) (d : Shown) → j < length xs → IsShown (world version S w) (addr (r.first.col + j) i) (get_or xs j d))
      → ((j : ℕ) (d : Shown) → j < length ys → IsShown (world version S w) (addr (r.first.col + j) i) (get_or ys j d)) → xs ≡ ys
  one_row w r i n xs ys h k f g =
      ext_get_or A.Cycle xs ys (h ∙ sym k) (λ j l. at_most_one_shown (world version S w) (addr (r.first.col + j) i) (get_or xs j A.Cycle) (get_or ys j A.Cycle) (f j A.Cycle l) (g j A.Cycle (subst (λ m. j < m) (h ∙ sym k) l)))

  one_table : {w : Oracle} {r : Range} {i : ℕ} {xs ys : List (List Shown)} → AreShown records version S w r i xs → AreShown records version S w r i ys → xs ≡ ys
  one_table (C.AreShown.none h) (C.AreShown.none k) = refl
  one_table (C.AreShown.none h) (C.AreShown.row l k g q) = absurd (omega (arith, h, l))
  one_table (C.AreShown.row l h f p) (C.AreShown.none k) = absurd (omega (arith, l, k))
  one_table {w = w} {r = r} (C.AreShown.row {i = i} {xs = xs} {rest = us} l h f p) (C.AreShown.row {xs = ys} {rest = vs} m k g q) =
      ap (λ (x : List Shown). x ∷ us) (one_row w r i (extents r).cols xs ys h k f g) ∙ ap (λ (x : List (List Shown)). ys ∷ x) (one_table p q)

  same_certificate : (c d : Certificate) → Cert c ≡ Cert d → c ≡ d
  same_certificate c d h = cc h

  one_certificate : (w : Oracle) (a : Addr) (c d : Certificate) → Explains (world version S w) a (Cert c) → Explains (world version S w) a (Cert d) → c ≡ d
  one_certificate w a c d h k = same_certificate c d (one_explanation (world version S w) a (Cert c) (Cert d) h k)

  one_settled : {w : Oracle} {n : ℕ} {x : Request} {r s : Bytes} → SettledReply records version S w n x r → SettledReply records version S w n x s → r ≡ s
  one_settled {w = w} (C.SettledReply.show {a = a} {x = x} h) (C.SettledReply.show {x = y} k) = ap (λ (z : Shown). line (shown_text z)) (at_most_one_shown (world version S w) a x y h k)
  one_settled (C.SettledReply.view {r = r} h) (C.SettledReply.view k) = ap (table_text (extents r).cols) (one_table h k)
  one_settled C.SettledReply.calc C.SettledReply.calc = refl
  one_settled C.SettledReply.oracle C.SettledReply.oracle = refl
  one_settled C.SettledReply.why_so C.SettledReply.why_so = refl
  one_settled {w = w} (C.SettledReply.explain {a = a} {c = c} h) (C.SettledReply.explain {c = d} k) = ap (explanation_text (codes "accepted")) (one_certificate w a c d h k)

  same_oracle : (v w : Oracle) (m n : ℕ) → A.Answer.Settled v m ≡ A.Answer.Settled w n → v ≡ w
  same_oracle v w m n h = cc h

  same_rounds : (v w : Oracle) (m n : ℕ) → A.Answer.Settled v m ≡ A.Answer.Settled w n → m ≡ n
  same_rounds v w m n h = cc h

  same_spent : (j k : SpentKind) → A.Answer.Spent j ≡ A.Answer.Spent k → j ≡ k
  same_spent j k h = cc h

  not_both : (w : Oracle) (n : ℕ) (k : SpentKind) → IsAnswer version S (A.Answer.Settled w n) → IsAnswer version S (A.Answer.Spent k) → ⊥
  not_both w n k h g = let e : A.Answer.Settled w n ≡ A.Answer.Spent k = at_most_one_answer version S _ _ h g in cc e

module _ (records : Bytes → List (List Bytes)) (version : Version) (s : Script) where
  one_calculated : (x : Request) (r q : Bytes) → Calculated records version s x r → Calculated records version s x q → r ≡ q
  one_calculated x r q (inl (v, m, a, p)) (inl (w, n, b, z)) =
      let e = at_most_one_answer version s.sheet (A.Answer.Settled v m) (A.Answer.Settled w n) a b in
      let t = subst (λ (u : Oracle). SettledReply records version s.sheet u m x r) (same_oracle records version s.sheet v w m n e) p in
      one_settled records version s.sheet (subst (λ (u : ℕ). SettledReply records version s.sheet w u x r) (same_rounds records version s.sheet v w m n e) t) z
  one_calculated x r q (inl (v, m, a, p)) (inr (k, b, z)) = absurd (not_both records version s.sheet v m k a b)
  one_calculated x r q (inr (k, b, z)) (inl (v, m, a, p)) = absurd (not_both records version s.sheet v m k a b)
  one_calculated x r q (inr (j, a, p)) (inr (k, b, z)) = p ∙ ap spent_line (same_spent records version s.sheet j k (at_most_one_answer version s.sheet (A.Answer.Spent j) (A.Answer.Spent k) a b)) ∙ sym z

  one_left : (x : Request) (t u : Script) (r q : Bytes) (o : Cause) → LeavesBy version s x t r o → LeavesBy version s x u q o → Same t u r q
  one_left x t u r q (Brought e) h k =
      let j : h.0 ≡ k.0 = one_judged (register_of s e.place) e h.0 k.0 h.1 k.1 in
      let i : of_read s (merge s e h.0) ≡ of_read s (merge s e k.0) = ap (λ (z : Judged). of_read s (merge s e z)) j in
      (h.2.0 ∙ ap (λ (y : Effect). y.0) i ∙ sym k.2.0, h.2.1 ∙ ap (λ (y : Effect). y.1) i ∙ sym k.2.1)
  one_left x t u r q Forecasted (d, f, h, e) (c, g, k, i) = (d ∙ sym c, e ∙ ap forecast_line (one_forecast s.sheet f g h k) ∙ sym i)
  one_left x t u r q State h k = same t u (effect version s x).0 r q (effect version s x).1 h k

  one_done : (b : Bool) (x : Request) (t u : Script) (r q : Bytes) → Done records version s b x t r → Done records version s b x u q → Same t u r q
  one_done true x t u r q h k = (h.0 ∙ sym k.0, one_calculated x r q h.1 k.1)
  one_done false x t u r q h k = one_left x t u r q (cause x) h k

  one_does : (x : Request) (t u : Script) (r q : Bytes) → Does records version s x t r → Does records version s x u q → Same t u r q
  one_does x t u r q h k = one_done (asks_calculation records version s.sheet x) x t u r q (done records version s h) (done records version s k)

  -- ---- items

  one_request : (l : Bytes) (x y : Request) → ReadsLine l (Is x) → ReadsLine l (Is y) → x ≡ y
  one_request l x y h k = let e : Is x ≡ Is y = one_line l (Is x) (Is y) h k in cc e

  one_word : (l : Bytes) (w v : Bytes) → ReadsLine l (Not w) → ReadsLine l (Not v) → w ≡ v
  one_word l w v h k = let e : Not w ≡ Not v = one_line l (Not w) (Not v) h k in cc e

  asked_or_refused : (l : Bytes) (x : Request) (w : Bytes) → ReadsLine l (Is x) → ReadsLine l (Not w) → ⊥
  asked_or_refused l x w h k = let e : Is x ≡ Not w = one_line l (Is x) (Not w) h k in cc e

  one_by_place : (place p : Bytes) (t u : Script) (r q : Bytes) → ByPlace records version s place p t r → ByPlace records version s place p u q → Same t u r q
  one_by_place place p t u r q (inl (none, h, e)) (inl (no_one, k, f)) = (h ∙ sym k, e ∙ sym f)
  one_by_place place p t u r q (inl (none, h, e)) (inr (b, at_b, k, f)) = absurd (none b at_b)
  one_by_place place p t u r q (inr (a, at_a, h, e)) (inl (none, k, f)) = absurd (none a at_a)
  one_by_place place p t u r q (inr (a, at_a, h, e)) (inr (b, at_b, k, f)) =
      let i : import_effect records version s a p ≡ import_effect records version s b p = ap (λ (c : Addr). import_effect records version s c p) (same_place place a b at_a at_b) in
      (h ∙ ap (λ (x : Effect). x.0) i ∙ sym k, e ∙ ap (λ (x : Effect). x.1) i ∙ sym f)

  one_place_word : (l a b m n : Bytes) → words_of l ≡ Some (ImportWords a m) → words_of l ≡ Some (ImportWords b n) → a ≡ b
  one_place_word l a b m n h k = let e : Some (ImportWords a m) ≡ Some (ImportWords b n) = sym h ∙ k in cc e

  one_import : (l p : Bytes) (t u : Script) (r q : Bytes) → Imports records version s l p t r → Imports records version s l p u q → Same t u r q
  one_import l p t u r q h k =
      let e = one_place_word l h.place k.place h.count k.count h.words k.words in
      one_by_place k.place p t u r q (subst (λ (z : Bytes). ByPlace records version s z p t r) e h.by_place) k.by_place

  pub one_item : (x : Item) (t u : Script) (r q : Bytes) → Acted records version s x t r → Acted records version s x u q → Same t u r q
  one_item (Line l) t u r q (inl (x, h, d)) (inl (y, k, e)) = one_does x t u r q d (subst (λ (z : Request). Does records version s z u q) (sym (one_request l x y h k)) e)
  one_item (Line l) t u r q (inl (x, h, d)) (inr (v, k, e, f)) = absurd (asked_or_refused l x v h k)
  one_item (Line l) t u r q (inr (w, h, d, e)) (inl (y, k, f)) = absurd (asked_or_refused l y w k h)
  one_item (Line l) t u r q (inr (w, h, d, e)) (inr (v, k, f, g)) = (d ∙ sym f, e ∙ ap error_line (one_word l w v h k) ∙ sym g)
  one_item (Import l p) t u r q h k = one_import l p t u r q h k
  one_item Long t u r q h k = same t u s r q (error_line (codes "line")) h k
  one_item Truncated t u r q h k = same t u s r q (error_line (codes "truncated")) h k
