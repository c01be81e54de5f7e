-- A whole calculation by the machine of picks, and its replies, so that they can be compared with those of an implementation written apart.
use Rattle.std.proofs.Common.{ℕ, zero, suc, Bool, true, false, List, [], ◌∷◌, ◌++◌, map, length, Option, Some, None, Result, Ok}
use Rattle.std.specs.Prelude.{filter_map, flat_map, replicate, codes, ◌==◌}
use Rattle.std.specs.List.{range_with_len}
use Rattle.std.specs.Fmt.{decimal}
use Rattle.gl_calculus.specs.Computation.Lists.{distinct}
use Rattle.gl_calculus.specs.Computation.Query.{run, asked, looked}
use Rattle.gl_machine.specs.Machine.{Entry, picks, start, table, idle_keys, keys}
use Rattle.gl_calculus.specs.Computation.Evaluation.{given}
use Rattle.gl_calculus.specs.Grid.Limits.{max_demanded}
use Rattle.gl_calculus.specs.Grid.Grid.{Addr, addr, Range, extents, grid}
use Rattle.gl_calculus.specs.Values.Value as V
use Rattle.gl_calculus.specs.Values.Value.{Value, Oracle, Top, In, region, rank}
use Rattle.gl_calculus.specs.Values.Sheet.{weight, frame_weight}
use Rattle.gl_calculus.specs.Values.Same.{same_oracle}
use Rattle.gl_calculus.specs.Formulas.Formula.{Version, Cells, formula_addresses}
use Rattle.gl_calculus.specs.Evaluation.Oracle.{Sizes, grant, first_difference}
use Rattle.gl_calculus.specs.Evaluation.Facts.{facts}
use Rattle.gl_calculus.specs.Evaluation.Key.{Key, Cell, Settle, same_key, Outcome, Budget}
use Rattle.gl_calculus.specs.Evaluation.Reference.{at_address}
use Rattle.gl_calculus.specs.Evaluation.World.{World, world}
use Rattle.gl_calculus.specs.Evaluation.Evaluation.{program}
use Rattle.gl_calculus.specs.Calculation.Calculation.{has_content, why, round_budget, Shown, Cycle, SpentKind, spent_at}
use Rattle.gl_examples.proofs.Worked.Sheets.{sized}
use Rattle.gl_calculus.specs.Grid.Notation.{address_text}
use Rattle.gl_language.specs.Texts.Text.{Bytes, range_text}
use Rattle.gl_protocol.specs.Replies.Tables.{line, oracle_text, table_text}
use Rattle.gl_protocol.specs.Scripts.Commands.{spent_line, why_text}

abbrev pub State : Type 0
State = List (Entry Key Outcome)

-- the state after so many picks of the first idle key
abbrev pub state : World → ℕ → State
state W n = picks same_key max_demanded (program W) (start (map (Cell Top) (formula_addresses W.sheet))) (replicate n 0)

abbrev pub known : State → Key → Option Outcome
known st = table same_key st

abbrev pub sizes_in : State → List Addr → Sizes
sizes_in st bs = filter_map (λ a. sized a (known st (Cell Top a))) bs

abbrev pub or_abort : Addr → Option Outcome → Option (Budget × Addr) → Option (Budget × Addr)
or_abort a (Some (Outcome.Abort b)) rest = Some (b, a)
or_abort a x rest = rest

abbrev pub first_abort : State → List Addr → Option (Budget × Addr)
first_abort st [] = None
first_abort st (a ∷ bs) = or_abort a (known st (Cell Top a)) (first_abort st bs)

abbrev pub shown_by : Option (Result Value Budget) → Shown
shown_by (Some (Ok (V.Value.One x))) = Shown.Value x
shown_by x = Cycle

abbrev pub shown_at : World → State → Addr → Shown
shown_at W st a = shown_by (run (known st) (given (facts W.sheet W.oracle) (at_address Top a)))

abbrev pub shown_rows : World → State → Range → List (List Shown)
shown_rows W st r = map (λ i. map (λ j. shown_at W st (addr j i)) (range_with_len r.first.col (extents r).cols)) (range_with_len r.first.row (extents r).rows)

abbrev pub spent_of : Option (Budget × Addr) → Option Bytes
spent_of None = None
spent_of (Some x) = Some (spent_line (spent_at x.0 x.1))

abbrev pub rounds_spent : Option Addr → Bytes
rounds_spent None = codes "no difference"
rounds_spent (Some a) = spent_line (SpentKind.Rounds a)

abbrev pub quiet : State → Bool
quiet st = length (idle_keys st) == 0

module _ (version : Version) (S : Cells) (n : ℕ) (r : Range) where
  abbrev pub settled : Oracle → State → ℕ → Bytes
  settled w st i = line (codes "settled " ++ decimal (suc i)) ++ oracle_text w ++ table_text (extents r).cols (shown_rows (world version S w) st r) ++ flat_map (λ x. line (why_text (why S w x.root))) w

  abbrev pub ended_by : (Oracle → Bytes) → Oracle → State → ℕ → Oracle → Bool → Bool → Bytes
  ended_by go w st i next true last = settled w st i
  ended_by go w st i next false true = rounds_spent (first_difference w next)
  ended_by go w st i next false false = go next

  abbrev pub unless_spent : Option Bytes → Bytes → Bytes
  unless_spent (Some t) rest = t
  unless_spent None rest = rest

  abbrev pub in_round : (Oracle → Bytes) → Oracle → ℕ → State → Bool → Bytes
  in_round go w i st false = codes "not quiet"
  in_round go w i st true =
      line (codes "keys " ++ decimal (length st))
      ++ unless_spent (spent_of (first_abort st (formula_addresses S)))
      (ended_by go w st i (grant grid (has_content S) (sizes_in st (formula_addresses S))) (same_oracle (grant grid (has_content S) (sizes_in st (formula_addresses S))) w) (suc i == round_budget S))

  abbrev pub with_state : (Oracle → Bytes) → Oracle → ℕ → State → Bytes
  with_state go w i st = in_round go w i st (quiet st)

  -- with at most so many rounds: for each the number of its keys, and then the replies to `calc`, `oracle` and `view`
  abbrev pub rounds_from : (fuel : ℕ) → ℕ → Oracle → Bytes
  rounds_from zero i w = codes "no rounds left"
  rounds_from (suc f) i w = with_state (rounds_from f (suc i)) w i (state (world version S w) n)

  abbrev pub answer : Bytes
  answer = rounds_from (round_budget S) 0 []

-- under any oracle: the number of keys, and what a range shows
abbrev pub seen_under : World → ℕ → Range → Bytes
seen_under W n r = with_st (state W n)
  where
    with_st : State → Bytes
    with_st st = line (codes "keys " ++ decimal (length st)) ++ table_text (extents r).cols (shown_rows W st r)

-- ---- what keys read and looked at

abbrev pub key_text : Key → Bytes
key_text (Cell Top a) = address_text a
key_text (Cell (In s o) a) = address_text a ++ codes " in " ++ range_text (region s) ++ codes " rank " ++ decimal (rank s) ++ codes " weight " ++ decimal (frame_weight (In s o))
key_text (Settle s) = codes "settle " ++ range_text (region s) ++ codes " rank " ++ decimal (rank s) ++ codes " weight " ++ decimal (weight s)

abbrev pub walk_text : World → State → Key → Bytes
walk_text W st k =
    line (key_text k ++ codes ":")
    ++ flat_map (λ j. line (codes "  reads " ++ key_text j)) (distinct same_key (asked (known st) (program W k)))
    ++ flat_map (λ r. line (codes "  looks " ++ range_text r)) (looked (known st) (program W k))

-- under an oracle: for each known key what it reads and looks at
abbrev pub walks : World → ℕ → Bytes
walks W n = with_st (state W n)
  where
    with_st : State → Bytes
    with_st st = flat_map (walk_text W st) (keys st)
