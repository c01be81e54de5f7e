use Rattle.std.proofs.Common.{map, [], ◌∷◌, sym, subst, arith}
use Rattle.gl_demand.specs.Sound.{AreSoundKeys}
use Rattle.gl_demand.specs.View.{key_tree}
use Rattle.gl_cert.specs.Notes.{claims}
use Rattle.gl_demand.specs.Marks.{mark_trees}
use Rattle.gl_explain.specs.Marks.{AreMarks}
use Rattle.gl_explain.specs.Walking.{IsWalking, IsTurned}
use Rattle.gl_explain.proofs.Tops.{one_sound}
use Rattle.gl_explain.proofs.Marks.{nothing_marks}
use Rattle.gl_explain.proofs.Turns.{begin_walk, no_part}
use Rattle.gl_explain.proofs.walking.walk.Goals as goal
use Rattle.gl_demand.specs.Evaluators.{world_of}

pub turns-init : goal.turns-init
turns-init g c =
    let W = world_of c.args.evaluator.now in
    let r = key_tree c.args.root.now in
    let n = c.args.steps.now in
    record {
      walking = subst (λ d. IsWalking W r n n d (map key_tree c.in_ok-stack.stack.keys)) (sym c.new-notes.ensures) (subst (λ u. IsWalking W r n n [] u) (sym c.in_ok-stack.ensures) (begin_walk W r n c.requires.proper));
      sound = subst AreSoundKeys (sym c.in_ok-stack.ensures) (one_sound r c.requires.sound);
      marks = subst (λ u. AreMarks W (claims c.new-notes.result) u (mark_trees c.in_ok-marks.marks.items)) (sym c.in_ok-stack.ensures)
          (subst (AreMarks W (claims c.new-notes.result) (r ∷ [])) (sym c.in_ok-marks.ensures) (nothing_marks W (claims c.new-notes.result) r, tt));
      later = omega arith;
    }

pub turn-requires-clause-walking : goal.turn-requires-clause-walking
turn-requires-clause-walking g c = (key_tree c.args.root.now, c.args.steps.now, c.turns.invariant.walking)

pub turns-smaller : goal.turns-smaller
turns-smaller g c = c.in-Ok-On.ensures.falls c.in-Ok-On.field-0-is

pub turns-preserved : goal.turns-preserved
turns-preserved g c = record {
  walking = subst (IsTurned (world_of c.args.evaluator.now) (key_tree c.args.root.now) c.args.steps.now c.turn.new.steps (claims c.turn.new.notes) (map key_tree c.turn.new.stack.keys)) c.in-Ok-On.field-0-is (c.in-Ok-On.ensures.turned (key_tree c.args.root.now) c.args.steps.now c.turns.invariant.walking);
  sound = c.in-Ok-On.ensures.sound;
  marks = c.in-Ok-On.ensures.marks c.in-Ok-On.field-0-is;
  later = omega (arith, c.turns.invariant.later, c.turn.ensures.later);
}

pub returns-in-Ok-Ended-clause-found : goal.returns-in-Ok-Ended-clause-found
returns-in-Ok-Ended-clause-found g c = (
  subst (IsTurned (world_of c.args.evaluator.now) (key_tree c.args.root.now) c.args.steps.now c.turn.new.steps (claims c.turn.new.notes) (map key_tree c.turn.new.stack.keys)) c.in-Ok-Ended.field-0-is (c.in-Ok-Ended.ensures.turned (key_tree c.args.root.now) c.args.steps.now c.turns.invariant.walking),
  c.in-Ok-Ended.ensures.sound,
)

pub returns-in-Ok-Full-clause-found : goal.returns-in-Ok-Full-clause-found
returns-in-Ok-Full-clause-found g c =
    subst (IsTurned (world_of c.args.evaluator.now) (key_tree c.args.root.now) c.args.steps.now c.turn.new.steps (claims c.turn.new.notes) (map key_tree c.turn.new.stack.keys)) c.in-Ok-Full.field-0-is (c.in-Ok-Full.ensures.turned (key_tree c.args.root.now) c.args.steps.now c.turns.invariant.walking)

pub returns-in-Ok-Ended-clause-part : goal.returns-in-Ok-Ended-clause-part
returns-in-Ok-Ended-clause-part g c = c.turn.ensures.part (key_tree c.args.root.now) c.args.steps.now c.turns.invariant.walking

pub returns-in-Ok-Full-clause-part : goal.returns-in-Ok-Full-clause-part
returns-in-Ok-Full-clause-part g c = c.turn.ensures.part (key_tree c.args.root.now) c.args.steps.now c.turns.invariant.walking

pub returns-in-Err-clause-part : goal.returns-in-Err-clause-part
returns-in-Err-clause-part g c = c.turn.ensures.part (key_tree c.args.root.now) c.args.steps.now c.turns.invariant.walking

pub returns-in_err-stack-clause-part : goal.returns-in_err-stack-clause-part
returns-in_err-stack-clause-part g c = no_part (world_of c.args.evaluator.now) (key_tree c.args.root.now ∷ []) c.args.steps.now

pub returns-in_err-marks-clause-part : goal.returns-in_err-marks-clause-part
returns-in_err-marks-clause-part g c = no_part (world_of c.args.evaluator.now) (key_tree c.args.root.now ∷ []) c.args.steps.now
