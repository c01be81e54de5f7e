-- The replies to what asks for the calculation.
use Rattle.std.specs.Prelude.{◌++◌, codes}
use Rattle.std.specs.Fmt.{decimal}
use Rattle.std.proofs.Common.{◌≡◌, ◌∙◌, ℕ, true, false, Option, Some, None, IsSome, is_some, option_map, ap, refl, sym, subst}
use Rattle.gl_calculus.specs.Grid.Grid.{Addr}
use Rattle.gl_calculus.specs.Values.Value.{Oracle}
use Rattle.gl_calculus.specs.Formulas.Formula.{Version, Cells}
use Rattle.gl_calculus.specs.Calculation.Calculation as A
use Rattle.gl_calculus.specs.Calculation.Calculation.{IsAnswer, why}
use Rattle.gl_calculus.specs.Evaluation.World.{world}
use Rattle.gl_language.specs.Texts.Text.{Bytes, shown_text}
use Rattle.gl_protocol.specs.Scripts.Commands as C
use Rattle.gl_protocol.specs.Scripts.Commands.{SettledReply, why_text, spent_line}
use Rattle.gl_protocol.specs.Scripts.Script.{Script}
use Rattle.gl_protocol.specs.Scripts.Acts as T
use Rattle.gl_protocol.specs.Scripts.Acts.{Does}
use Rattle.gl_protocol.specs.Replies.Tables.{line, oracle_text}
use Rattle.gl_calc.specs.View.{View, sheet_of}
use Rattle.gl_calc.specs.Answers.{Answers, spent_tree}
use Rattle.gl_calc.specs.declared.answers.Answer.TheVariants.{Settled, Spent}
use Rattle.gl_calc.specs.declared.answers.SpentKind.{SpentKind}
use Rattle.gl_protocol.specs.Run.Records.{csv_records}
use Rattle.gl_run.specs.Replies.{Holds, IsExplanation, IsShownIn, RepliesBy, query_tree}
use Rattle.gl_run.specs.declared.queries.Query.{Query}
use Rattle.gl_run.specs.declared.queries.Query.TheVariants as q

abbrev Held : Type 0
Held = Option (Version × Oracle)

pub held_some : (version : Version) (S : Cells) (rounds : ℕ) (old new : Held) → Answers version S (Settled rounds) old new → IsSome new
held_some version S rounds old new h = ap is_some h.2

pub held_answer : (version : Version) (S : Cells) (c : View) (rounds : ℕ) (old : Held) → sheet_of c ≡ S → Answers version S (Settled rounds) old c.held → Holds version c rounds
held_answer version S c rounds old e h = (h.0, h.2, subst (λ U. IsAnswer version U (A.Answer.Settled h.0 rounds)) (sym e) h.1)

pub settled_does : (version : Version) (s s' : Script) (c : View) (old : Held) (rounds : ℕ) (x : C.Request) (reply : Bytes) → s' ≡ s → sheet_of c ≡ s.sheet
    → Answers version s.sheet (Settled rounds) old c.held → RepliesBy c rounds x reply → Does csv_records version s x s' reply
settled_does version s s' c old rounds x reply same e h r =
    let said : SettledReply csv_records version (sheet_of c) h.0 rounds x reply = r version h.0 h.2 in
    subst (λ t. Does csv_records version s x t reply) (sym same) (T.Does.settled h.1 (subst (λ U. SettledReply csv_records version U h.0 rounds x reply) e said))

pub all_ask : (version : Version) (S : Cells) (x : Query) → C.asks_calculation csv_records version S (query_tree x) ≡ true
all_ask version S (q.Show a) = refl
all_ask version S (q.View r) = refl
all_ask version S q.Calc = refl
all_ask version S q.Oracle = refl
all_ask version S (q.Why a) = refl
all_ask version S (q.Explain a) = refl

pub spent_does : (version : Version) (s s' : Script) (x : Query) (k : SpentKind) (old new : Held) (reply : Bytes) → s' ≡ s
    → Answers version s.sheet (Spent k) old new → reply ≡ spent_line (spent_tree k) → Does csv_records version s (query_tree x) s' reply
spent_does version s s' x k old new reply e h r =
    subst (λ t. Does csv_records version s (query_tree x) t reply) (sym e)
    (subst (λ y. Does csv_records version s (query_tree x) s y) (sym r) (T.Does.spent (all_ask version s.sheet x) h.0))

module _ (c : View) (reply : Bytes) where
  pub show_replies : (a : Addr) (x : A.Shown) → IsShownIn c a x → reply ≡ line (shown_text x) → (rounds : ℕ) → RepliesBy c rounds (C.Request.Show a) reply
  show_replies a x h r rounds version w e =
      subst (λ y. SettledReply csv_records version (sheet_of c) w rounds (C.Request.Show a) y) (sym r) (C.SettledReply.show (h version w e))

  pub calc_replies : (rounds : ℕ) → reply ≡ line (codes "settled " ++ decimal rounds) → RepliesBy c rounds C.Request.Calculate reply
  calc_replies rounds r version w e = subst (λ y. SettledReply csv_records version (sheet_of c) w rounds C.Request.Calculate y) (sym r) C.SettledReply.calc

  pub oracle_replies : (v : Oracle) → Some v ≡ option_map (λ h. h.1) c.held → reply ≡ oracle_text v → (rounds : ℕ) → RepliesBy c rounds C.Request.ShowOracle reply
  oracle_replies v is r rounds version w e =
      let both : Some v ≡ Some w = is ∙ ap (option_map (λ h. h.1)) e in
      let same : v ≡ w = cc in
      subst (λ y. SettledReply csv_records version (sheet_of c) w rounds C.Request.ShowOracle y) (sym (r ∙ ap oracle_text same)) C.SettledReply.oracle

  pub why_replies : (a : Addr) (x : A.Why) → Some x ≡ option_map (λ h. why (sheet_of c) h.1 a) c.held → reply ≡ line (why_text x) → (rounds : ℕ) → RepliesBy c rounds (C.Request.Why a) reply
  why_replies a x is r rounds version w e =
      let both : Some x ≡ Some (why (sheet_of c) w a) = is ∙ ap (option_map (λ h. why (sheet_of c) h.1 a)) e in
      let same : x ≡ why (sheet_of c) w a = cc in
      subst (λ y. SettledReply csv_records version (sheet_of c) w rounds (C.Request.Why a) y) (sym (r ∙ ap (λ z. line (why_text z)) same)) C.SettledReply.why_so

-- ---- explanations

module _ (version : Version) (c : View) (a : Addr) (w : Oracle) (S : Cells) (same : S ≡ sheet_of c) (o : Some w ≡ option_map (λ h. h.1) c.held) where
  -- the oracle that is read is the one that is held
  is_held : (v : Oracle) → c.held ≡ Some (version, v) → w ≡ v
  is_held v e =
      let both : Some w ≡ Some v = o ∙ ap (option_map (λ h. h.1)) e in
      cc both

  pub explain_replies : (n m rounds : ℕ) (reply : Bytes) → Holds version c rounds → IsExplanation (world version S w) a n m reply → (i : ℕ) → RepliesBy c i (C.Request.Explain a) reply
  explain_replies n m rounds reply h x i u v e =
      let R : Version → Cells → Oracle → Bytes → Type 0 = λ t U z y. SettledReply csv_records t U z i (C.Request.Explain a) y in
      let said : R version S w reply = subst (R version S w) (sym x.1) (C.SettledReply.explain x.0.explains) in
      let held : R version (sheet_of c) h.0 reply = subst (λ z. R version (sheet_of c) z reply) (is_held h.0 h.1) (subst (λ U. R version U w reply) same said) in
      let both : Some (version, h.0) ≡ Some (u, v) = sym h.1 ∙ e in
      let pair : (version, h.0) ≡ (u, v) = cc both in
      subst (λ (p : Version × Oracle). R p.0 (sheet_of c) p.1 reply) pair held

-- where an oracle is held, it is there
pub held_there : {X : Type 0} (f : Version × Oracle → X) (o : Held) → IsSome o → None ≡ option_map f o → ⊥
held_there f None some e = let no : false ≡ true = some in cc
held_there f (Some h) some e = let no : None ≡ Some (f h) = e in cc
