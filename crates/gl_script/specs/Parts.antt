-- The parts of a line: words, places and texts.
use Rattle.std.specs.Prelude.{if◌then◌else◌, codes}
use Rattle.std.specs.Prelude.{◌≡◌, ◌∷◌, ◌&&◌, nat_lt, length, Option, Some, None, option_map, option_copied, IfSome, Result, Ok, Err, IsTrue, IsFalse, Bool, true, false, ⊤}
use Rattle.std.specs.Str.{is_utf8}
use Rattle.gl_calculus.specs.Values.Value as V
use Rattle.gl_language.specs.Texts.Text.{Bytes}
use Rattle.gl_language.specs.Reading.Content.{IsProperContent}
use Rattle.gl_plane.specs.declared.range.Range.{Range as GridRange}
use Rattle.gl_protocol.specs.Framing.Pieces.{cut_at, is_number}
use Rattle.gl_protocol.specs.Scripts.Commands as C
use Rattle.gl_protocol.specs.Scripts.Commands.{Is, Not, ReadsContent, ReadsText, ReadsRange, words_of, is_comment}
use Rattle.gl_lex.specs.declared.fault.LexFault.{LexFault}
use Rattle.gl_lex.specs.declared.fault.LexFault.TheVariants as lex
use Rattle.gl_parse.specs.Outcome.{IsRefused}
use Rattle.gl_parse.specs.declared.fault.ParseFault.{ParseFault}
use Rattle.gl_parse.specs.declared.fault.ParseFault.TheVariants as parse
use Rattle.gl_cells.specs.Content.{content_tree}
use Rattle.gl_cells.specs.declared.content.Content.{Content}
use Rattle.gl_script.specs.Command.{parse_word}
use Rattle.gl_script.specs.declared.requests.CommandFault.{CommandFault}
use Rattle.gl_script.specs.declared.requests.CommandFault.TheVariants as f
use Rattle.gl_script.specs.declared.words.Words.{Words}
use Rattle.gl_script.specs.declared.words.Words.TheVariants as w

abbrev pub words_tree : Words → C.Words
words_tree w.List = C.ListWords
words_tree w.Calc = C.CalcWords
words_tree w.Oracle = C.OracleWords
words_tree w.Quit = C.QuitWords
words_tree (w.Set place t) = C.SetWords place.now t.now
words_tree (w.Clear place) = C.ClearWords place.now
words_tree (w.View place) = C.ViewWords place.now
words_tree (w.Show place) = C.ShowWords place.now
words_tree (w.Get place) = C.GetWords place.now
words_tree (w.Why place) = C.WhyWords place.now
words_tree (w.Explain place) = C.ExplainWords place.now
words_tree (w.Import place n) = C.ImportWords place.now n.now
words_tree (w.Site n) = C.SiteWords n.now
words_tree (w.Edit t n place text) = C.EditWords t.now n.now place.now (option_copied text)
words_tree w.Export = C.ExportWords
words_tree w.Undo = C.UndoWords
words_tree w.Redo = C.RedoWords
words_tree w.Flow = C.FlowWords

abbrev pub some_tree : Option Words → Option C.Words
some_tree None = None
some_tree (Some ws) = Some (words_tree ws)

-- these words, if a test passes
abbrev pub some_words : Bool → C.Words → Option C.Words
some_words b x = if b then Some x else None

-- what stands before a separator, and what follows it if there is one
abbrev pub Cut : Type 0
Cut = Bytes × Option Bytes

-- the words of an edit, of its time, its site, and the cut behind them
abbrev pub edit_at : Bytes → Bytes → Cut → Option C.Words
edit_at t n p = some_words ((is_number t && is_number n) && (nat_lt 0 (length p.0) && C.is_text p.1)) (C.EditWords t n p.0 p.1)

-- the same, of its time and the cut behind it
abbrev pub edit_behind : Bytes → Cut → Option C.Words
edit_behind t n = C.behind n.1 (λ r. edit_at t n.0 (cut_at 32 r))

-- a line that is no comment has these words
pub record HasWords (l : Bytes) (ws : C.Words) : Type 0 where
  pub no_comment : IsFalse (is_comment l)
  pub text : IsTrue (is_utf8 l)
  pub words : words_of l ≡ Some ws

-- the fault of a line by that of its formula, and by that of its literal: a want of memory is no fault of theirs
abbrev pub formula_fault : ParseFault → CommandFault
formula_fault parse.NoMemory = f.NoMemory
formula_fault e = f.Parse e

abbrev pub literal_fault : LexFault → CommandFault
literal_fault lex.NoMemory = f.NoMemory
literal_fault e = f.Text

-- what is read of a text that isn't empty
abbrev pub IsContent : Bytes → Result Content CommandFault → Type 0
IsContent t (Ok c) = ReadsContent t (Is (content_tree c)) × IsProperContent (content_tree c)
IsContent t (Err (f.Parse e)) = (u : Bytes) × (t ≡ 61 ∷ u) × IsRefused u e × ((w : Bytes) × (parse_word e ≡ Some w) × ReadsContent t (Not w))
IsContent t (Err f.Text) = (u : Bytes) × (t ≡ 34 ∷ u) × ReadsContent t (Not (codes "text"))
IsContent t (Err f.Field) = ReadsContent t (Not (codes "field"))
IsContent t (Err f.NoMemory) = ⊤
IsContent t (Err e) = ⊥

-- what is read of a text that isn't empty, or of none
abbrev pub IsText : Option Bytes → Result (Option Content) CommandFault → Type 0
IsText o (Ok c) = ReadsText o (Is (option_map content_tree c)) × IfSome c (λ d. IsProperContent (content_tree d))
IsText o (Err e) = (t : Bytes) × (o ≡ Some t) × IsContent t (Err e)

-- what is read of the place of a range
abbrev pub IsRange : Bytes → Result GridRange CommandFault → Type 0
IsRange place (Ok x) = ReadsRange place (Is x)
IsRange place (Err f.Address) = ReadsRange place (Not (codes "address"))
IsRange place (Err f.Range) = ReadsRange place (Not (codes "range"))
IsRange place (Err e) = ⊥

abbrev pub is_int : V.Scalar → Bool
is_int (V.Scalar.Int n) = true
is_int x = false
