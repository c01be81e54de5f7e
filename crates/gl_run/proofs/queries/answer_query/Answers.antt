use Rattle.std.proofs.Common.{◌≡◌, ℕ, Vec, Global, subst}
use Rattle.std.proofs.lemmas.Result.{IfOk-weaker}
use Rattle.gl_calculus.specs.Calculation.Memory.{tables_for}
use Rattle.gl_protocol.specs.Scripts.Acts.{Does}
use Rattle.gl_protocol.specs.Scripts.Commands.{spent_line}
use Rattle.gl_ast.specs.View.{version_tree}
use Rattle.gl_calc.specs.View.{sheet_of}
use Rattle.gl_calc.specs.Answers.{Answers, Takes, spent_tree}
use Rattle.gl_calc.specs.declared.answers.Answer.{Answer}
use Rattle.gl_calc.specs.declared.answers.Answer.TheVariants.{Settled, Spent}
use Rattle.gl_protocol.specs.Run.Records.{csv_records}
use Rattle.gl_protocol.specs.Run.Known.{memory_in}
use Rattle.gl_run.specs.Replies.{FollowsBy, RepliesBy, query_tree}
use Rattle.gl_run.specs.Script.{known_of, script_of}
use Rattle.gl_protocol.specs.Run.Spends.{SpendsAsked}
use Rattle.gl_run.proofs.Readying.{same_sheet}
use Rattle.gl_run.proofs.Querying.{held_answer, settled_does, spent_does}
use Rattle.gl_run.proofs.Spending.{if_any, settled_spends, spent_spends}
use Rattle.gl_run.proofs.queries.answer_query.Goals as goal

pub returns-in-Ok-Settled-clause-does : goal.returns-in-Ok-Settled-clause-does
returns-in-Ok-Settled-clause-does g c =
    let version = version_tree c.args.version in
    let x = c.args.script.now in
    let old = x.calc in
    let new = c.refresh.new.self in
    let rounds = c.in-Ok-Settled.rounds in
    let q = query_tree c.args.query in
    let s' = script_of (record x { calc = new }) in
    let answer : Answers version (sheet_of old) (Settled rounds) old.held new.held =
    subst (λ (z : Answer). Answers version (sheet_of old) z old.held new.held) c.in-Ok-Settled.field-0-is c.in-Ok-Settled.ensures.answer in
    let P : Vec ℕ Global → Type 0 = λ reply. RepliesBy new rounds q reply.items in
    let Q : Vec ℕ Global → Type 0 = λ reply. Does csv_records version (script_of x) q s' reply.items in
    IfOk-weaker c.settled_reply.result P Q (λ reply h. settled_does version (script_of x) s' new old.held rounds q reply.items (same_sheet x new c.refresh.ensures.sheet) c.refresh.ensures.sheet answer h) c.settled_reply.ensures.replies

pub returns-in-Ok-Spent-clause-does : goal.returns-in-Ok-Spent-clause-does
returns-in-Ok-Spent-clause-does g c =
    let version = version_tree c.args.version in
    let x = c.args.script.now in
    let old = x.calc in
    let new = c.refresh.new.self in
    let k = c.in-Ok-Spent.spent in
    let s' = script_of (record x { calc = new }) in
    let answer : Answers version (sheet_of old) (Spent k) old.held new.held =
    subst (λ (z : Answer). Answers version (sheet_of old) z old.held new.held) c.in-Ok-Spent.field-0-is c.in-Ok-Spent.ensures.answer in
    let P : Vec ℕ Global → Type 0 = λ reply. reply.items ≡ spent_line (spent_tree k) in
    let Q : Vec ℕ Global → Type 0 = λ reply. Does csv_records version (script_of x) (query_tree c.args.query) s' reply.items in
    IfOk-weaker c.spent_line.result P Q (λ reply e. spent_does version (script_of x) s' c.args.query k old.held new.held reply.items (same_sheet x new c.refresh.ensures.sheet) answer e) c.spent_line.ensures

pub returns-in-Ok-Settled-clause-spends : goal.returns-in-Ok-Settled-clause-spends
returns-in-Ok-Settled-clause-spends g c =
    let version = version_tree c.args.version in
    let x = c.args.script.now in
    let new = c.refresh.new.self in
    let rounds = c.in-Ok-Settled.rounds in
    let K = known_of x in
    let K' = known_of (record x { calc = new }) in
    let q = query_tree c.args.query in
    let n = c.args.steps.now in
    let k = c.refresh.new.steps in
    let m = c.settled_reply.new.steps in
    let h = c.in-Ok-Settled.ensures in
    let answer : Answers version (sheet_of x.calc) (Settled rounds) x.calc.held new.held =
    subst (λ (z : Answer). Answers version (sheet_of x.calc) z x.calc.held new.held) c.in-Ok-Settled.field-0-is h.answer in
    let takes : Takes version K.script.sheet (tables_for version (memory_in K)) K.touched (Settled rounds) n k =
    subst (λ (z : Answer). Takes version K.script.sheet (tables_for version (memory_in K)) K.touched z n k) c.in-Ok-Settled.field-0-is h.steps in
    let P : Vec ℕ Global → Type 0 = λ reply. FollowsBy version new rounds q k m in
    let Q : Vec ℕ Global → Type 0 = λ reply. SpendsAsked version q K K' n m in
    IfOk-weaker c.settled_reply.result P Q (λ reply f. settled_spends version K K' new x.calc.held n k m q rounds c.refresh.ensures.sheet answer takes h.tables h.made.0 h.made.1 f) c.settled_reply.ensures.follows

pub returns-in-Ok-Spent-clause-spends : goal.returns-in-Ok-Spent-clause-spends
returns-in-Ok-Spent-clause-spends g c =
    let version = version_tree c.args.version in
    let x = c.args.script.now in
    let K = known_of x in
    let n = c.args.steps.now in
    let m = c.refresh.new.steps in
    let h = c.in-Ok-Spent.ensures in
    let takes : Takes version K.script.sheet (tables_for version (memory_in K)) K.touched (Spent c.in-Ok-Spent.spent) n m =
    subst (λ (z : Answer). Takes version K.script.sheet (tables_for version (memory_in K)) K.touched z n m) c.in-Ok-Spent.field-0-is h.steps in
    if_any c.spent_line.result (spent_spends version K (known_of (record x { calc = c.refresh.new.self })) n m c.args.query c.in-Ok-Spent.spent takes h.tables h.made.0 h.made.1)

pub settled_reply-requires-clause-settled : goal.settled_reply-requires-clause-settled
settled_reply-requires-clause-settled g c =
    let version = version_tree c.args.version in
    let x = c.args.script.now in
    let new = c.refresh.new.self in
    let rounds = c.in-Ok-Settled.rounds in
    held_answer version (sheet_of x.calc) new rounds x.calc.held c.refresh.ensures.sheet
    (subst (λ (z : Answer). Answers version (sheet_of x.calc) z x.calc.held new.held) c.in-Ok-Settled.field-0-is c.in-Ok-Settled.ensures.answer)
