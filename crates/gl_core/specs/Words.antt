-- The words of keys in copies, by which their numbers are guessed. Equal keys have equal words.
use Rattle.std.specs.Prelude.{ℕ, ◌≡◌, List, map, Option, Some, None}
use Rattle.gl_calculus.specs.Computation.Lists.{Member}
use Rattle.gl_calculus.specs.Grid.Grid.{Addr}
use Rattle.gl_calculus.specs.Values.Value as V
use Rattle.gl_calculus.specs.Evaluation.Key as K
use Rattle.gl_plane.specs.Digest.{mixed, address_word}
use Rattle.gl_demand.specs.Outline.{listed, level_word, oracle_word}

abbrev mutual
  pub frame_word : V.Frame → ℕ
  frame_word V.Frame.Top = 0
  frame_word (V.Frame.In s w) = mixed (sheet_word s) (oracle_word w)

  pub sheet_word : V.SheetValue → ℕ
  sheet_word (V.sheet_value r os e k w) = mixed (frame_word e) (level_word w (listed os))

-- the word of a cell in a frame; in the top it has none
abbrev pub cell_word : V.Frame → Addr → Option ℕ
cell_word V.Frame.Top a = None
cell_word (V.Frame.In s w) a = Some (mixed (frame_word (V.Frame.In s w)) (address_word a))

abbrev pub key_word : K.Key → Option ℕ
key_word (K.Key.Cell e a) = cell_word e a
key_word (K.Key.Settle s) = Some (sheet_word s)

-- the word stands in a table of words with numbers
abbrev pub HasWord : List (ℕ × ℕ) → ℕ → Type 0
HasWord es u = Member u (map (λ e. e.0) es)

-- so does the word of each of these keys
abbrev pub HasWords : List (ℕ × ℕ) → List K.Key → Type 0
HasWords es ks = (k : K.Key) (u : ℕ) → Member k ks → key_word k ≡ Some u → HasWord es u
