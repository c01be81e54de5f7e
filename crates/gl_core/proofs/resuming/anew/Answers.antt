use Rattle.std.proofs.Common.{ℕ, ◌<◌, List, length, map, sym, subst, arith}
use Rattle.gl_calculus.specs.Values.Value.{Top}
use Rattle.gl_calculus.specs.Evaluation.Key as K
use Rattle.gl_core.specs.Resuming.{IsResumed}
use Rattle.gl_core.proofs.resuming.anew.Goals as goal

pub begun-requires-clause-below : goal.begun-requires-clause-below
begun-requires-clause-below c = c.in-Ok.ensures.known.closure.below

pub begun-requires-clause-apart : goal.begun-requires-clause-apart
begun-requires-clause-apart c = c.in-Ok.ensures.known.closure.apart

pub begun-requires-clause-kept : goal.begun-requires-clause-kept
begun-requires-clause-kept c = c.known.ensures.kept

pub known-requires-clause-kept : goal.known-requires-clause-kept
known-requires-clause-kept c = c.requires.kept

pub known-requires-clause-closed : goal.known-requires-clause-closed
known-requires-clause-closed c = c.requires.closed

pub known-requires-clause-apart : goal.known-requires-clause-apart
known-requires-clause-apart c = c.requires.apart

pub returns-in_default : goal.returns-in_default
returns-in_default c = record { core = tt; work = λ e. cc e; notes = c.known.ensures.notes; kept = c.known.ensures.kept }

pub returns-then-len-gt-MAX_DEMANDED : goal.returns-then-len-gt-MAX_DEMANDED
returns-then-len-gt-MAX_DEMANDED c = record {
  core = tt;
  work = λ e. (c.in-Ok.known.items, c.in-Ok.ensures.known, omega (arith, c.if-len-gt-MAX_DEMANDED.true, c.len.ensures, c.in-Ok.known.ok.0));
  notes = c.known.ensures.notes;
  kept = c.known.ensures.kept;
}

pub returns-in-Err : goal.returns-in-Err
returns-in-Err c = record { core = tt; work = λ e. cc e; notes = c.known.ensures.notes; kept = c.known.ensures.kept }

pub returns-in-Ok-begun : goal.returns-in-Ok-begun
returns-in-Ok-begun c =
    let b = c.in-Ok-begun.ensures in
    record {
      core = record {
        known = subst (λ (ns : List ℕ). IsResumed c.known.new.ledger (map (K.Cell Top) c.args.places.now) ns) (sym b.known) c.in-Ok.ensures.known;
        begun = b.begun;
        marks = b.marks;
        core = b.core;
      };
      work = tt;
      notes = c.known.ensures.notes;
      kept = c.known.ensures.kept;
    }
