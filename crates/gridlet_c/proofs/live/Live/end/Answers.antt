use Rattle.std.proofs.Common.{refl, sym, subst}
use Rattle.gl_run.specs.declared.top.Status.TheVariants.{Done, InputLimit}
use Rattle.gl_run.specs.declared.top.Status.TheVariants as status
use Rattle.gridlet_c.specs.History.{Holds, EndsBy}
use Rattle.gridlet_c.specs.declared.live.Phase.{Phase}
use Rattle.gridlet_c.proofs.Histories.{no_fault_done, no_fault_memory, no_fault_limit}
use Rattle.gridlet_c.proofs.Phases.{quit_leaves, limit_leaves, memory_leaves, ends_as}
use Rattle.gridlet_c.proofs.live.Live.end.Goals as goal

pub returns-in-Going : goal.returns-in-Going
returns-in-Going c = subst (λ (p : Phase). EndsBy p c.args.self.now c.finish.new.self c.finish.result) (sym c.in-Going.is) c.finish.ensures

pub returns-in-Quit : goal.returns-in-Quit
returns-in-Quit c =
    let old = c.args.self.now in
    let new = c.end_as.new.self in
    let r = c.refused-refused.result in
    let ended = ends_as old new (Done r) c.end_as.result c.end_as.ensures.status c.end_as.ensures.phase c.end_as.ensures.rest (no_fault_done r)
    (λ fed out h. quit_leaves old.session old.steps fed out r c.refused-refused.ensures (subst (λ (p : Phase). Holds p old.session old.steps fed out) c.in-Quit.is h)) in
    subst (λ (p : Phase). EndsBy p old new c.end_as.result) (sym c.in-Quit.is) ended

pub returns-in-Limit : goal.returns-in-Limit
returns-in-Limit c =
    let old = c.args.self.now in
    let e = c.end_as-in-Limit in
    let new = e.new.self in
    let ended = ends_as old new InputLimit e.result e.ensures.status e.ensures.phase e.ensures.rest no_fault_limit
    (λ fed out h. limit_leaves old.session old.steps fed out (subst (λ (p : Phase). Holds p old.session old.steps fed out) c.in-Limit.is h)) in
    subst (λ (p : Phase). EndsBy p old new e.result) (sym c.in-Limit.is) ended

pub returns-in-NoMemory : goal.returns-in-NoMemory
returns-in-NoMemory c =
    let old = c.args.self.now in
    let e = c.end_as-in-NoMemory in
    let new = e.new.self in
    let ended = ends_as old new status.NoMemory e.result e.ensures.status e.ensures.phase e.ensures.rest no_fault_memory
    (λ fed out h. memory_leaves old.session old.steps fed out (subst (λ (p : Phase). Holds p old.session old.steps fed out) c.in-NoMemory.is h)) in
    subst (λ (p : Phase). EndsBy p old new e.result) (sym c.in-NoMemory.is) ended

pub returns-in-Ended : goal.returns-in-Ended
returns-in-Ended c = subst (λ (p : Phase). EndsBy p c.args.self.now c.args.self.now status.Usage) (sym c.in-Ended.is) (refl, refl)
