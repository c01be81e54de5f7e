-- The steps that a script takes, item by item, with what is remembered from one calculation to the
-- next.
use Rattle.std.specs.Prelude.{◌≡◌, ◌≤◌, ◌+◌, ℕ, List, [], ◌∷◌, ◌++◌, length, map, Some, true, false}
use Rattle.std.specs.Prelude.{IsTrue, IsFalse, if◌then◌else◌, codes}
use Rattle.gl_calculus.specs.Grid.Grid.{Addr}
use Rattle.gl_calculus.specs.Formulas.Formula.{Version, One, Two, Cells}
use Rattle.gl_calculus.specs.Calculation.Calculation.{Answer, Settled, Spent}
use Rattle.gl_calculus.specs.Calculation.Memory.{AreTables, tables_for}
use Rattle.gl_calculus.specs.Explanation.Certificate.{Certificate, Cert, Explains}
use Rattle.gl_language.specs.Texts.Text.{Bytes}
use Rattle.gl_protocol.specs.Framing.Framing.{Item, Line, Import}
use Rattle.gl_protocol.specs.Scripts.Commands.{Request, Explain, Is, ImportWords, IsAddress}
use Rattle.gl_protocol.specs.Scripts.Commands.{words_of, ReadsLine, imported, asks_calculation}
use Rattle.gl_protocol.specs.Scripts.Acts.{Acts}
use Rattle.gl_protocol.specs.Scripts.Output.{is_line, is_refusal}
use Rattle.gl_calculus.specs.Steps.Rounds.{Costs}
use Rattle.gl_protocol.specs.Run.Records.{csv_records, records_of}
use Rattle.gl_calculus.specs.Steps.Walk.{AllowsWalk}
use Rattle.gl_calculus.specs.Evaluation.World.{World, world}
use Rattle.gl_protocol.specs.Run.Known.{Known, new_known, memory_in}
use Rattle.gl_protocol.specs.Run.Touched.{touched_by}

-- Behind an item with this reply the tables stay, and these addresses are touched; none where it is
-- refused.
abbrev pub Touches : Bytes → List Addr → Known → Known → Type 0
Touches reply places K K' = (K'.tables ≡ K.tables) × (K'.version ≡ K.version) ×
    (K'.touched ≡ K.touched ++ (if is_refusal reply then [] else places))

-- Behind a calculation, whose steps go from n to m, the tables are those of its rounds, and nothing
-- is touched.
pub record Calculates (version : Version) (K K' : Known) (n m : ℕ) : Type 0 where
  pub answer : Answer
  pub costs : Costs version K.script.sheet (tables_for version (memory_in K)) K.touched answer n m
  pub tables : AreTables version K.script.sheet K'.tables
  pub made_for : K'.version ≡ version
  pub touched : K'.touched ≡ []

-- An explanation takes the steps from n to m: those of the walk that finds a certificate, and then
-- at most one for each note and each loop that is checked.
pub record Explaining (W : World) (a : Addr) (n m : ℕ) : Type 0 where
  pub certificate : Certificate
  pub explains : Explains W a (Cert certificate)
  pub found : ℕ
  pub walk : AllowsWalk W a (Cert certificate) n found
  pub check : m ≤ found + length certificate.notes + length certificate.loops
  pub later : found ≤ m

-- What a request takes behind its calculation, by the answer: `explain` an explanation where that
-- settled, and all else nothing.
abbrev pub Follows : Version → Cells → Request → Answer → ℕ → ℕ → Type 0
Follows version S (Explain a) (Settled w rounds) n m = Explaining (world version S w) a n m
Follows version S (Explain a) (Spent k) n m = m ≡ n
Follows version S x answer n m = m ≡ n

-- a request that asks for the calculation takes the steps from n to m: those of the calculation,
-- and of what follows it
abbrev pub SpendsAsked : Version → Request → Known → Known → ℕ → ℕ → Type 0
SpendsAsked version x K K' n m =
    (k : ℕ) × (c : Calculates version K K' n k) × Follows version K.script.sheet x c.answer k m

-- The steps of an item go from n to m: those of a calculation and of an explanation where it asks
-- for one, and else none.
pub data Spends (version : Version) (K : Known) : Item → Bytes → Known → ℕ → ℕ → Type 0 where
  asked : {l reply : Bytes} {x : Request} {K' : Known} {n m : ℕ} → ReadsLine l (Is x) →
      IsTrue (asks_calculation csv_records version K.script.sheet x) →
      SpendsAsked version x K K' n m → Spends version K (Line l) reply K' n m
  line : {l reply : Bytes} {x : Request} {K' : Known} {n : ℕ} → ReadsLine l (Is x) →
      IsFalse (asks_calculation csv_records version K.script.sheet x) →
      Touches reply (touched_by K.script x) K K' → Spends version K (Line l) reply K' n n
  import : {l p reply : Bytes} {K' : Known} {n : ℕ} (place count : Bytes) (a : Addr) (cs : Cells) →
      words_of l ≡ Some (ImportWords place count) → IsAddress place a →
      imported a (records_of p) ≡ Is cs → Touches reply (map (λ c. c.0) cs) K K' →
      Spends version K (Import l p) reply K' n n
  refused : {x : Item} {reply : Bytes} {K' : Known} {n : ℕ} →
      IsTrue (is_refusal reply) → Touches reply [] K K' → Spends version K x reply K' n n

-- the steps of these items, one after another, go from n to m
pub data SpendsAll (version : Version) : Known → List Item → ℕ → ℕ → Type 0 where
  no_more : {K : Known} {n : ℕ} → SpendsAll version K [] n n
  item : {K K' : Known} {x : Item} {xs : List Item} {reply : Bytes} {n m k : ℕ} →
      Acts csv_records version K.script x K'.script reply → Spends version K x reply K' n m →
      SpendsAll version K' xs m k → SpendsAll version K (x ∷ xs) n k

-- The steps of a script go from n to m. What is remembered goes on through the whole of it.
pub data SpendsScript : List Item → ℕ → ℕ → Type 0 where
  empty : {n : ℕ} → SpendsScript [] n n
  two : {x : Item} {xs : List Item} {n m : ℕ} → is_line (codes "gridlet 2") x ≡ true →
      SpendsAll Two new_known xs n m → SpendsScript (x ∷ xs) n m
  one : {x : Item} {xs : List Item} {n m : ℕ} → is_line (codes "gridlet 2") x ≡ false →
      SpendsAll One new_known (x ∷ xs) n m → SpendsScript (x ∷ xs) n m
