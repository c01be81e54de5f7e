-- Why an address shows what it shows: certificates, when one is accepted, and the one that the walk
-- from the key of the address makes.
use Rattle.std.specs.Prelude.{◌≡◌, ℕ, Bool, true, false, List, [], ◌∷◌, Option, Some, None}
use Rattle.std.specs.Prelude.{is_some, option_map, unwrap_or, if◌then◌else◌}
use Rattle.gl_calculus.specs.Computation.Lists.{has_member}
use Rattle.gl_calculus.specs.Grid.Limits.{max_demanded}
use Rattle.gl_calculus.specs.Grid.Grid.{Addr}
use Rattle.gl_calculus.specs.Values.Value as V
use Rattle.gl_calculus.specs.Values.Value.{Scalar, Blank, Oracle, Top}
use Rattle.gl_calculus.specs.Values.Same.{same_scalar}
use Rattle.gl_calculus.specs.Formulas.Formula.{Content, Const, Form, Cells, content}
use Rattle.gl_calculus.specs.Evaluation.Oracle.{status, Cover, cover}
use Rattle.gl_calculus.specs.Evaluation.Key.{Key, Cell, Settle, same_key, Budget, Outcome, Abort}
use Rattle.gl_calculus.specs.Evaluation.SameOutcome.{same_outcome}
use Rattle.gl_calculus.specs.Evaluation.Reference.{own_content, is_computed, shown, spilled}
use Rattle.gl_calculus.specs.Evaluation.World.{World}
use Rattle.gl_calculus.specs.Evaluation.Evaluation.{program}
use Rattle.gl_calculus.specs.Calculation.Calculation.{Shown, Cycle, Value}
use Rattle.gl_calculus.specs.Explanation.Walk.{Claim, noted, first_stray, first_free}
use Rattle.gl_calculus.specs.Explanation.Walk.{Walked, Explained, Exhausted, IsWalk}

-- ---- what notes say of an address

-- a cell key names a formula of its frame's region; a settling always is proper
abbrev pub is_proper : Cells → Key → Bool
is_proper S (Cell e a) = is_computed (own_content (content S a) e a)
is_proper S (Settle s) = true

-- the key of a formula at this address of the sheet
abbrev pub formula_key : Addr → Option Content → Option Key
formula_key a (Some (Form f)) = Some (Cell Top a)
formula_key a c = None

-- the key of the formula whose array covers an address
abbrev pub covering_key : Cells → Option Cover → Option Key
covering_key S None = None
covering_key S (Some c) = formula_key c.root (content S c.root)

-- the key that decides what an address shows, by its content
abbrev pub key_by : Cells → Oracle → Addr → Option Content → Option Key
key_by S w a (Some c) = formula_key a (Some c)
key_by S w a None = covering_key S (cover w a)

-- the key that decides what an address shows: of its own formula, or, where it has no content, of
-- the formula that spills over it
abbrev pub key_at : Cells → Oracle → Addr → Option Key
key_at S w a = key_by S w a (content S a)

-- the element of the root's value that covers an address
abbrev pub element_shown : Option Cover → V.Value → Scalar
element_shown o v = unwrap_or (option_map (λ c. spilled (Some v) c.rows c.cols) o) Blank

-- what the address shows by the value of the key that decides
abbrev pub value_shown : Oracle → Addr → Option Content → V.Value → Scalar
value_shown w a (Some c) v = shown (status w a) v
value_shown w a None v = element_shown (cover w a) v

-- what it shows where that key loops: a formula a cycle, and an address under a root that loops a
-- blank
abbrev pub loop_shown : Option Content → Shown
loop_shown c = if is_some c then Cycle else Value Blank

-- what it shows where no key decides
abbrev pub constant_shown : Option Content → Shown
constant_shown (Some (Const x)) = Value x
constant_shown c = Value Blank

-- what it shows by the outcome that is noted of the key, and by whether the key is among the loops;
-- a spent budget tells nothing, nor does a key that is neither
abbrev pub shown_by_note : Oracle → Addr → Option Content → Option Outcome → Bool → Option Shown
shown_by_note w a c (Some (Outcome.Value v)) b = Some (Value (value_shown w a c v))
shown_by_note w a c (Some o) b = None
shown_by_note w a c None true = Some (loop_shown c)
shown_by_note w a c None false = None

-- what it shows, by the key that decides
abbrev pub shown_by_key : Oracle → Addr → Option Content →
    List (Claim Key Outcome) → List Key → Option Key → Option Shown
shown_by_key w a c notes loops None = Some (constant_shown c)
shown_by_key w a c notes loops (Some k) =
    shown_by_note w a c (noted same_key notes k) (has_member same_key k loops)

-- what these notes and loops say that the address shows, if they say it
abbrev pub says : Cells → Oracle → Addr → List (Claim Key Outcome) → List Key → Option Shown
says S w a notes loops = shown_by_key w a (content S a) notes loops (key_at S w a)

-- ---- certificates

-- notes of outcomes that follow one from another, keys that wait for each other in a circle, and
-- what an address shows by them
pub record Certificate : Type 0 where
  pub notes : List (Claim Key Outcome)
  pub loops : List Key
  pub shown : Shown

-- what is said of a certificate; a note and a loop are numbered from 0
pub data Verdict : Type 0 where
  Accepted : Verdict
  Note Loop : (at : ℕ) → Verdict
  Wrong : Verdict

-- equality of what is shown, by structure
abbrev pub same_shown : Shown → Shown → Bool
same_shown Cycle Cycle = true
same_shown (Value x) (Value y) = same_scalar x y
same_shown x y = false

-- this is what is said to be shown
abbrev pub says_so : Shown → Option Shown → Bool
says_so x o = unwrap_or (option_map (same_shown x) o) false

-- the verdict by the first note that is refused, the first loop that is, and whether what is shown
-- is right
abbrev pub judged : Option ℕ → Option ℕ → Bool → Verdict
judged (Some i) l b = Note i
judged None (Some i) b = Loop i
judged None None true = Accepted
judged None None false = Wrong

-- accepted; or the first note that doesn't follow from those before it; or else the first loop that
-- doesn't wait for one of them; or else wrong
abbrev pub verdict : World → Addr → Certificate → Verdict
verdict W a c =
    judged
    (first_stray same_key same_outcome (is_proper W.sheet) (program W) [] c.notes)
    (first_free same_key same_outcome (is_proper W.sheet) (program W) c.notes c.loops c.loops)
    (says_so c.shown (says W.sheet W.oracle a c.notes c.loops))

-- ---- the certificate of the walk

-- how the walk explains an address: by a certificate; or it would need more keys than one
-- calculation may; or the key that decides spends a budget
pub data Answer : Type 0 where
  Cert : Certificate → Answer
  Work : Answer
  Aborts : Budget → Answer

-- the stack that the walk begins with
abbrev pub start : Option Key → List Key
start None = []
start (Some k) = k ∷ []

module _ (W : World) (a : Addr) where
  -- the walk from the key that decides finds this
  abbrev pub IsWalked : Walked Key Outcome → Type 0
  IsWalked r = IsWalk same_key max_demanded (program W) (start (key_at W.sheet W.oracle a)) r

  -- how the walk explains the address
  pub data Explains : Answer → Type 0 where
    work : IsWalked Exhausted → Explains Work
    aborts : {k : Key} {b : Budget} {notes : List (Claim Key Outcome)} {loops : List Key} →
        IsWalked (Explained notes loops) → key_at W.sheet W.oracle a ≡ Some k →
        noted same_key notes k ≡ Some (Abort b) → Explains (Aborts b)
    cert : {notes : List (Claim Key Outcome)} {loops : List Key} {x : Shown} →
        IsWalked (Explained notes loops) → says W.sheet W.oracle a notes loops ≡ Some x →
        Explains (Cert (record { notes = notes; loops = loops; shown = x }))
