-- What the reader answers for a text: its formula, or the first of its faults.
use Rattle.std.specs.Prelude.{Result, Ok, Err, ⊤}
use Rattle.gl_language.specs.Texts.Text.{Bytes}
use Rattle.gl_language.specs.Reading.Token as T
use Rattle.gl_language.specs.Reading.Grammar.{Parses, IsParseFault}
use Rattle.gl_language.specs.Reading.Grammar as G
use Rattle.gl_lex.specs.declared.fault.LexFault.TheVariants as lex
use Rattle.gl_ast.specs.View.{formula_tree}
use Rattle.gl_ast.specs.declared.Formula.{Formula}
use Rattle.gl_parse.specs.declared.fault.ParseFault.{ParseFault}
use Rattle.gl_parse.specs.declared.fault.ParseFault.TheVariants as fault

-- The text is no formula, and this is why.
abbrev pub IsRefused : Bytes → ParseFault → Type 0
IsRefused text fault.Long = IsParseFault text G.ParseFault.Long
IsRefused text (fault.Lex (lex.Token at)) = IsParseFault text (G.ParseFault.Lex T.TokenFault at)
IsRefused text (fault.Lex (lex.Number at)) = IsParseFault text (G.ParseFault.Lex T.NumberFault at)
IsRefused text (fault.Lex (lex.Text at)) = IsParseFault text (G.ParseFault.Lex T.TextFault at)
IsRefused text (fault.Lex lex.NoMemory) = ⊥
IsRefused text fault.Deep = IsParseFault text G.ParseFault.Deep
IsRefused text fault.Syntax = IsParseFault text G.ParseFault.Syntax
IsRefused text fault.Range = IsParseFault text G.ParseFault.Range
IsRefused text fault.Name = IsParseFault text G.ParseFault.Name
IsRefused text fault.Arity = IsParseFault text G.ParseFault.Arity
IsRefused text fault.NoMemory = ⊤

abbrev pub Answers : Bytes → Result Formula ParseFault → Type 0
Answers text (Ok f) = Parses text (formula_tree f)
Answers text (Err e) = IsRefused text e
