-- What items touch, and the steps that they take.
use Rattle.std.proofs.Common.{◌≡◌, ◌∙◌, ℕ, true, false, Bool, List, [], ◌++◌, Some, None, Option, Result, Ok, Err, IfOk, Vec, Global, refl, sym, subst, ap, append-nil, map, if◌then◌else◌}
use Rattle.std.proofs.lemmas.Result.{IfOk-weaker}
use Rattle.gl_calculus.specs.Grid.Grid.{Addr}
use Rattle.gl_calculus.specs.Formulas.Formula.{Version, Cells}
use Rattle.gl_calculus.specs.Values.Value.{Oracle}
use Rattle.gl_calculus.specs.Calculation.Calculation as A
use Rattle.laws_calculus.proofs.Calculus.Proved.{at_most_one_answer}
use Rattle.gl_calculus.specs.Calculation.Memory.{AreTables, tables_for}
use Rattle.gl_language.specs.Texts.Text.{Bytes}
use Rattle.gl_protocol.specs.Framing.Framing.{Item, Line, Import}
use Rattle.gl_protocol.specs.Framing.Header.{payload_len}
use Rattle.gl_protocol.specs.Scripts.Commands as C
use Rattle.gl_protocol.specs.Scripts.Commands.{Is, ReadsLine, imported, asks_calculation, error_line, ok_line}
use Rattle.gl_protocol.specs.Scripts.Output.{is_refusal}
use Rattle.gl_calc.specs.View.{View, sheet_of}
use Rattle.gl_calc.specs.Answers.{Answers, Takes, spent_tree}
use Rattle.gl_calc.proofs.Rounds.{costs_answer}
use Rattle.gl_calc.specs.declared.answers.Answer.{Answer}
use Rattle.gl_calc.specs.declared.answers.Answer.TheVariants.{Settled, Spent}
use Rattle.gl_calc.specs.declared.answers.SpentKind.{SpentKind}
use Rattle.gl_protocol.specs.Run.Records.{csv_records, records_of}
use Rattle.gl_script.specs.Command.{Asks}
use Rattle.gl_script.specs.declared.requests.Request.{Request}
use Rattle.gl_run.specs.Replies.{HasPlace, IsRefusal}
use Rattle.gl_protocol.specs.Run.Known.{Known, memory_in}
use Rattle.gl_run.specs.Changed.{Marks}
use Rattle.gl_run.specs.Script.{known_of}
use Rattle.gl_protocol.specs.Run.Spends as S
use Rattle.gl_run.specs.Replies.{FollowsBy, query_tree}
use Rattle.gl_protocol.specs.Run.Spends.{Touches, Calculates, Follows, Spends, SpendsAsked}
use Rattle.gl_protocol.specs.Run.Touched.{touched_by}
use Rattle.gl_run.specs.declared.queries.Query.{Query}
use Rattle.gl_run.specs.declared.queries.Query.TheVariants as q
use Rattle.gl_run.specs.declared.script.Script.{Script}

-- ---- what is touched

nothing_more : (b : Bool) (xs : List Addr) → xs ≡ xs ++ (if b then [] else [])
nothing_more true xs = sym (append-nil xs)
nothing_more false xs = sym (append-nil xs)

pub touches_nothing : (reply : Bytes) (K : Known) → Touches reply [] K K
touches_nothing reply K = (refl, refl, nothing_more (is_refusal reply) K.touched)

module _ (places : List Addr) (K K' : Known) (tables : K'.tables ≡ K.tables) (made_for : K'.version ≡ K.version) (reply : Bytes) where
  pub touches_done : reply ≡ ok_line → K'.touched ≡ K.touched ++ places → Touches reply places K K'
  touches_done e t =
      let done : Touches ok_line places K K' = (tables, made_for, t) in
      subst (λ (r : Bytes). Touches r places K K') (sym e) done

  touches_refused : (w : Bytes) → reply ≡ error_line w → K'.touched ≡ K.touched → Touches reply places K K'
  touches_refused w e t =
      let none : Touches (error_line w) places K K' = (tables, made_for, t ∙ sym (append-nil K.touched)) in
      subst (λ (r : Bytes). Touches r places K K') (sym e) none

  pub touches_by_word : (o : Option Bytes) → IsRefusal o reply → K'.touched ≡ K.touched → Touches reply places K K'
  touches_by_word (Some w) e t = touches_refused w e t
  touches_by_word None e t = absurd e

-- what is left as it was is touched nowhere
pub touches_kept : (places : List Addr) (K K' : Known) → K' ≡ K → (o : Option Bytes) (reply : Bytes) → IsRefusal o reply → Touches reply places K K'
touches_kept places K K' e o reply p = touches_by_word places K K' (ap (λ (z : Known). z.tables) e) (ap (λ (z : Known). z.version) e) reply o p (ap (λ (z : Known). z.touched) e)

-- the marks of the calculator
pub touches_marks : (x z : Script) (places : List Addr) (reply : Bytes) → reply ≡ ok_line → Marks places x.calc z.calc → Touches reply places (known_of x) (known_of z)
touches_marks x z places reply p m = touches_done places (known_of x) (known_of z) m.tables m.made_for reply p m.touched

-- ---- refusals

is_error : (w : Bytes) (reply : Bytes) → reply ≡ error_line w → is_refusal reply ≡ true
is_error w reply e = ap is_refusal e

module _ (version : Version) (K : Known) (n : ℕ) (x : Item) where
  pub refused_spends : (w : Bytes) (reply : Bytes) → reply ≡ error_line w → Spends version K x reply K n n
  refused_spends w reply e = S.Spends.refused (is_error w reply e) (touches_nothing reply K)

  pub word_spends : (o : Option Bytes) (reply : Bytes) → IsRefusal o reply → Spends version K x reply K n n
  word_spends (Some w) reply e = refused_spends w reply e
  word_spends None reply e = absurd e

  pub refused_reply : {E : Type 0} (result : Result (Vec ℕ Global) E) (w : Bytes) → IfOk result (λ reply. reply.items ≡ error_line w) → IfOk result (λ reply. Spends version K x reply.items K n n)
  refused_reply {E} result w h =
      let P : Vec ℕ Global → Type 0 = λ reply. reply.items ≡ error_line w in
      let Q : Vec ℕ Global → Type 0 = λ reply. Spends version K x reply.items K n n in
      IfOk-weaker result P Q (λ reply e. refused_spends w reply.items e) h

-- ---- lines

-- each line that asks this takes such steps
abbrev pub LineSpends : Version → Known → Known → ℕ → ℕ → Request → Bytes → Type 0
LineSpends version K K' n m q reply = (l : Bytes) → payload_len l ≡ None → Asks l q → Spends version K (Line l) reply K' n m

module _ (version : Version) (K K' : Known) (q z : Request) (x : C.Request) (is : q ≡ z) (reads : (l : Bytes) → Asks l z → ReadsLine l (Is x)) where
  line_read : (l : Bytes) → Asks l q → ReadsLine l (Is x)
  line_read l h = reads l (subst (λ (y : Request). Asks l y) is h)

  pub if_touched : {E : Type 0} (result : Result (Vec ℕ Global) E) → asks_calculation csv_records version K.script.sheet x ≡ false
      → IfOk result (λ reply. Touches reply.items (touched_by K.script x) K K') → IfOk result (λ reply. (n : ℕ) → LineSpends version K K' n n q reply.items)
  if_touched {E} result other h =
      let P : Vec ℕ Global → Type 0 = λ reply. Touches reply.items (touched_by K.script x) K K' in
      let Q : Vec ℕ Global → Type 0 = λ reply. (n : ℕ) → LineSpends version K K' n n q reply.items in
      IfOk-weaker result P Q (λ reply t n l none a. S.Spends.line (line_read l a) other t) h

  pub if_calculated : {E : Type 0} (n m : ℕ) (result : Result (Vec ℕ Global) E) → asks_calculation csv_records version K.script.sheet x ≡ true
      → IfOk result (λ reply. SpendsAsked version x K K' n m) → IfOk result (λ reply. LineSpends version K K' n m q reply.items)
  if_calculated {E} n m result asks h =
      let P : Vec ℕ Global → Type 0 = λ reply. SpendsAsked version x K K' n m in
      let Q : Vec ℕ Global → Type 0 = λ reply. LineSpends version K K' n m q reply.items in
      IfOk-weaker result P Q (λ reply c l none a. S.Spends.asked (line_read l a) asks c) h

-- what touches nothing, whatever it replies
pub untouched_all : (version : Version) (K : Known) (n : ℕ) (q z : Request) (x : C.Request) → q ≡ z → ((l : Bytes) → Asks l z → ReadsLine l (Is x))
    → asks_calculation csv_records version K.script.sheet x ≡ false → touched_by K.script x ≡ [] → (reply : Bytes) → LineSpends version K K n n q reply
untouched_all version K n q z x is reads other nil reply l none a =
    let t : Touches reply (touched_by K.script x) K K = subst (λ (ps : List Addr). Touches reply ps K K) (sym nil) (touches_nothing reply K) in
    S.Spends.line (reads l (subst (λ (y : Request). Asks l y) is a)) other t

pub if_untouched : {E : Type 0} (version : Version) (K : Known) (q z : Request) (x : C.Request) (result : Result (Vec ℕ Global) E) → q ≡ z → ((l : Bytes) → Asks l z → ReadsLine l (Is x))
    → asks_calculation csv_records version K.script.sheet x ≡ false → touched_by K.script x ≡ [] → IfOk result (λ reply. (n : ℕ) → LineSpends version K K n n q reply.items)
if_untouched {E} version K q z x result is reads other nil = by result
  where
    by : (r : Result (Vec ℕ Global) E) → IfOk r (λ reply. (n : ℕ) → LineSpends version K K n n q reply.items)
    by (Ok reply) = λ n l none a.
        let t : Touches reply.items (touched_by K.script x) K K = subst (λ (ps : List Addr). Touches reply.items ps K K) (sym nil) (touches_nothing reply.items K) in
        S.Spends.line (reads l (subst (λ (y : Request). Asks l y) is a)) other t
    by (Err e) = tt

-- a fact of each number of steps, at this one
pub at_steps : {E : Type 0} (version : Version) (K K' : Known) (n : ℕ) (q : Request) (result : Result (Vec ℕ Global) E) → IfOk result (λ reply. (m : ℕ) → LineSpends version K K' m m q reply.items)
    → IfOk result (λ reply. LineSpends version K K' n n q reply.items)
at_steps version K K' n q result h =
    let P : Vec ℕ Global → Type 0 = λ reply. (m : ℕ) → LineSpends version K K' m m q reply.items in
    let Q : Vec ℕ Global → Type 0 = λ reply. LineSpends version K K' n n q reply.items in
    IfOk-weaker result P Q (λ reply f. f n) h

pub if_refused : {E : Type 0} (version : Version) (K : Known) (q : Request) (result : Result (Vec ℕ Global) E) (w : Bytes) → IfOk result (λ reply. reply.items ≡ error_line w)
    → IfOk result (λ reply. (n : ℕ) → LineSpends version K K n n q reply.items)
if_refused {E} version K q result w h =
    let P : Vec ℕ Global → Type 0 = λ reply. reply.items ≡ error_line w in
    let Q : Vec ℕ Global → Type 0 = λ reply. (n : ℕ) → LineSpends version K K n n q reply.items in
    IfOk-weaker result P Q (λ reply e n l none a. refused_spends version K n (Line l) w reply.items e) h

-- ---- calculations

-- what holds of every reply
pub if_any : {E : Type 0} {P : Type 0} (result : Result (Vec ℕ Global) E) → P → IfOk result (λ reply. P)
if_any (Ok reply) h = h
if_any (Err e) h = tt

-- the steps of an answer of the calculator
pub calculates : (version : Version) (K K' : Known) (n m : ℕ) (x : Answer) → Takes version K.script.sheet (tables_for version (memory_in K)) K.touched x n m
    → AreTables version K.script.sheet K'.tables → K'.version ≡ version → K'.touched ≡ [] → Calculates version K K' n m
calculates version K K' n m (Settled rounds) t made v none = record { answer = A.Answer.Settled t.0 rounds; costs = t.1; tables = made; made_for = v; touched = none }
calculates version K K' n m (Spent k) t made v none = record { answer = A.Answer.Spent (spent_tree k); costs = t; tables = made; made_for = v; touched = none }

-- what follows a calculation that settled to what is held
pub settled_spends : (version : Version) (K K' : Known) (c : View) (old : Option (Version × Oracle)) (n k m : ℕ) (x : C.Request) (rounds : ℕ) → sheet_of c ≡ K.script.sheet
    → Answers version K.script.sheet (Settled rounds) old c.held → Takes version K.script.sheet (tables_for version (memory_in K)) K.touched (Settled rounds) n k
    → AreTables version K.script.sheet K'.tables → K'.version ≡ version → K'.touched ≡ [] → FollowsBy version c rounds x k m → SpendsAsked version x K K' n m
unfolding calculates
settled_spends version K K' c old n k m x rounds same a t made v none follows =
    let S = K.script.sheet in
    let there : A.Answer.Settled a.0 rounds ≡ A.Answer.Settled t.0 rounds =
    at_most_one_answer version S (A.Answer.Settled a.0 rounds) (A.Answer.Settled t.0 rounds) a.1 (costs_answer version S (tables_for version (memory_in K)) K.touched (A.Answer.Settled t.0 rounds) n k t.1) in
    (k, calculates version K K' n k (Settled rounds) t made v none, subst (λ r. Follows version S x r k m) there (subst (λ U. Follows version U x (A.Answer.Settled a.0 rounds) k m) same (follows a.0 a.2)))

-- nothing follows a calculation that is spent
nothing_follows : (version : Version) (S : Cells) (x : Query) (k : A.SpentKind) (n : ℕ) → Follows version S (query_tree x) (A.Answer.Spent k) n n
nothing_follows version S (q.Show a) k n = refl
nothing_follows version S (q.View r) k n = refl
nothing_follows version S q.Calc k n = refl
nothing_follows version S q.Oracle k n = refl
nothing_follows version S (q.Why a) k n = refl
nothing_follows version S (q.Explain a) k n = refl

pub spent_spends : (version : Version) (K K' : Known) (n m : ℕ) (x : Query) (k : SpentKind) → Takes version K.script.sheet (tables_for version (memory_in K)) K.touched (Spent k) n m
    → AreTables version K.script.sheet K'.tables → K'.version ≡ version → K'.touched ≡ [] → SpendsAsked version (query_tree x) K K' n m
unfolding calculates
spent_spends version K K' n m x k t made v none = (m, calculates version K K' n m (Spent k) t made v none, nothing_follows version K.script.sheet x (spent_tree k) m)

-- ---- imports

pub import_spends : (version : Version) (K K' : Known) (n : ℕ) (l p reply : Bytes) (a : Addr) (cs : Cells) → HasPlace l (Some a) → imported a (records_of p) ≡ Is cs
    → Touches reply (map (λ c. c.0) cs) K K' → Spends version K (Import l p) reply K' n n
import_spends version K K' n l p reply a cs at is t = S.Spends.import at.0 at.1 a cs at.2 at.3 is t

pub marks_nothing : (old new : View) → new ≡ old → Marks [] old new
marks_nothing old new e = record { tables = ap (λ (c : View). c.tables) e; made_for = ap (λ (c : View). c.version) e; touched = ap (λ (c : View). c.touched) e ∙ sym (append-nil old.touched) }
