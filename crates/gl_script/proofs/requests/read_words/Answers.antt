use Rattle.std.proofs.Common.{subst}
use Rattle.gl_protocol.specs.Scripts.Commands as C
use Rattle.gl_protocol.specs.Scripts.Commands.{Is}
use Rattle.gl_script.specs.Parts.{HasWords, words_tree}
use Rattle.gl_script.specs.declared.words.Words.{Words}
use Rattle.gl_script.proofs.Lines.{line_reads}
use Rattle.gl_script.proofs.requests.read_words.Goals as goal

pub returns-in-List : goal.returns-in-List
returns-in-List c = λ l h. line_reads l C.ListWords (Is C.Request.ListAll) (subst (λ (ws : Words). HasWords l (words_tree ws)) c.in-List.is h) C.ReadsWords.list

pub returns-in-Calc : goal.returns-in-Calc
returns-in-Calc c = λ l h. line_reads l C.CalcWords (Is C.Request.Calculate) (subst (λ (ws : Words). HasWords l (words_tree ws)) c.in-Calc.is h) C.ReadsWords.calc

pub returns-in-Oracle : goal.returns-in-Oracle
returns-in-Oracle c = λ l h. line_reads l C.OracleWords (Is C.Request.ShowOracle) (subst (λ (ws : Words). HasWords l (words_tree ws)) c.in-Oracle.is h) C.ReadsWords.oracle

pub returns-in-Quit : goal.returns-in-Quit
returns-in-Quit c = λ l h. line_reads l C.QuitWords (Is C.Request.Quit) (subst (λ (ws : Words). HasWords l (words_tree ws)) c.in-Quit.is h) C.ReadsWords.quit

pub returns-in-Export : goal.returns-in-Export
returns-in-Export c = λ l h. line_reads l C.ExportWords (Is C.Request.Export) (subst (λ (ws : Words). HasWords l (words_tree ws)) c.in-Export.is h) C.ReadsWords.export

pub returns-in-Undo : goal.returns-in-Undo
returns-in-Undo c = λ l h. line_reads l C.UndoWords (Is C.Request.Undo) (subst (λ (ws : Words). HasWords l (words_tree ws)) c.in-Undo.is h) C.ReadsWords.undo

pub returns-in-Flow : goal.returns-in-Flow
returns-in-Flow c = λ l h. line_reads l C.FlowWords (Is C.Request.Flow) (subst (λ (ws : Words). HasWords l (words_tree ws)) c.in-Flow.is h) C.ReadsWords.flow

pub returns-in-Redo : goal.returns-in-Redo
returns-in-Redo c = λ l h. line_reads l C.RedoWords (Is C.Request.Redo) (subst (λ (ws : Words). HasWords l (words_tree ws)) c.in-Redo.is h) C.ReadsWords.redo
