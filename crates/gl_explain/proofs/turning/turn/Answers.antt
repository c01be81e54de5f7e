use Rattle.std.proofs.Common.{◌≡◌, ℕ, ◌≤◌, ◌+◌, ◌<◌, None, map, IsTrue, ap, sym, subst, ◌∙◌}
use Rattle.std.proofs.lemmas.Result.{IfOk-weaker}
use Rattle.gl_calculus.specs.Computation.Query.{Ready, Need, found}
use Rattle.gl_calculus.specs.Evaluation.Evaluation.{program}
use Rattle.gl_calculus.specs.Evaluation.Key as K
use Rattle.gl_calculus.specs.Evaluation.Key.{same_key}
use Rattle.gl_calculus.specs.Evaluation.Sound.{is_sound_key}
use Rattle.gl_calculus.specs.Explanation.Walk.{noted}
use Rattle.gl_demand.specs.Sound.{AreSoundKeys, IsSoundFound}
use Rattle.gl_demand.specs.View.{key_tree, outcome_tree}
use Rattle.gl_cert.specs.Notes.{claims}
use Rattle.gl_demand.specs.Marks.{mark_tree, mark_trees}
use Rattle.gl_explain.specs.Marks.{reached_tree, IsMark, IsMarked, AreMarks}
use Rattle.gl_explain.specs.Walking.{IsWalking, HasEnded, IsTurned, left}
use Rattle.gl_explain.specs.Putting.{IsTakenOff, IsPutOn}
use Rattle.gl_explain.specs.declared.turning.Turned.TheVariants.{On}
use Rattle.gl_explain.proofs.Tops.{trees_top, top_sound, below_sound, one_top}
use Rattle.gl_explain.proofs.Turns.{top_free, top_proper, off_turned, on_turned, so_far_part, turned_part, end_empty, put_falls, put_sound}
use Rattle.gl_explain.proofs.Marks.{some_mark, below_marked, off_marks, on_marks}
use Rattle.gl_explain.proofs.turning.turn.Goals as goal
use Rattle.gl_demand.specs.Evaluators.{world_of}

pub read_on-requires-clause-sound : goal.read_on-requires-clause-sound
read_on-requires-clause-sound g c = top_sound c.args.stack.now.keys c.in-Some.key.now c.requires.sound c.in-Some.ensures.some

pub read_on-requires-clause-proper : goal.read_on-requires-clause-proper
read_on-requires-clause-proper g c =
    let W = world_of c.args.evaluator.now in
    let done = claims c.args.notes.now in
    let up = map key_tree c.args.stack.now.keys in
    let m = c.args.steps.now in
    let k = c.in-Some.key.now in
    let (below, d) = c.in-Some.ensures.some in
    let us = map key_tree below in
    let e = trees_top c.args.stack.now.keys below k d in
    let (root, n, h) = c.requires.walking in
    top_proper W root n m done us (key_tree k) (subst (IsWalking W root n m done) e h)

pub take_mark-mark-requires : goal.take_mark-mark-requires
take_mark-mark-requires g c =
    let W = world_of c.args.evaluator.now in
    let done = claims c.args.notes.now in
    let up = map key_tree c.args.stack.now.keys in
    let k = c.in-Some.key.now in
    let (below, d) = c.in-Some.ensures.some in
    let us = map key_tree below in
    let e = trees_top c.args.stack.now.keys below k d in
    some_mark (IsMark W done) up us (key_tree k) c.args.marks.now.items e c.requires.marks

pub read_on-requires-clause-mark : goal.read_on-requires-clause-mark
read_on-requires-clause-mark g c =
    let W = world_of c.args.evaluator.now in
    let done = claims c.args.notes.now in
    let up = map key_tree c.args.stack.now.keys in
    let k = c.in-Some.key.now in
    let (below, d) = c.in-Some.ensures.some in
    let us = map key_tree below in
    let e = trees_top c.args.stack.now.keys below k d in
    (below_marked (IsMark W done) up us (key_tree k) (mark_trees c.args.marks.now.items) (mark_trees c.take_mark-mark.new.marks.items) (mark_tree c.take_mark-mark.result) e c.take_mark-mark.ensures c.requires.marks).1

pub take_off-requires-clause-top : goal.take_off-requires-clause-top
take_off-requires-clause-top g c = λ j t.
    let W = world_of c.args.evaluator.now in
    let done = claims c.args.notes.now in
    let up = map key_tree c.args.stack.now.keys in
    let m = c.args.steps.now in
    let k = c.in-Some.key.now in
    let (below, d) = c.in-Some.ensures.some in
    let us = map key_tree below in
    let e = trees_top c.args.stack.now.keys below k d in
    let (root, n, h) = c.requires.walking in
    let o = outcome_tree c.in-Ok-Ready.outcome in
    let f : IsSoundFound (key_tree k) (Ready o) = subst (λ f. IsSoundFound (key_tree k) (reached_tree f)) c.in-Ok-Ready.field-0-is c.in-Ok-Ready.ensures.sound in
    subst (λ x. (noted same_key done (key_tree x) ≡ None) × IsTrue (is_sound_key (key_tree x)) × IsSoundFound (key_tree x) (Ready o)) (one_top c.args.stack.now.keys k j (below, d) t)
    (top_free W root n m done us (key_tree k) (subst (IsWalking W root n m done) e h), top_sound c.args.stack.now.keys k c.requires.sound (below, d), f)

pub returns-in-Ok-Ready-clause-turned : goal.returns-in-Ok-Ready-clause-turned
returns-in-Ok-Ready-clause-turned g c =
    let W = world_of c.args.evaluator.now in
    let done = claims c.args.notes.now in
    let up = map key_tree c.args.stack.now.keys in
    let m = c.args.steps.now in
    let k = c.in-Some.key.now in
    let (below, d) = c.in-Some.ensures.some in
    let us = map key_tree below in
    let e = trees_top c.args.stack.now.keys below k d in
    let o = outcome_tree c.in-Ok-Ready.outcome in
    let more = claims c.take_off.new.notes in
    let vs = map key_tree c.take_off.new.stack.keys in
    let l = c.read_on.new.steps in
    let le : (m ≤ l) × (l ≤ m + 1) = (c.read_on.ensures.later, c.read_on.ensures.steps) in
    let f : found (noted same_key done) (program W (key_tree k)) ≡ Ready o = sym c.in-Ok-Ready.ensures.found ∙ ap reached_tree c.in-Ok-Ready.field-0-is in
    IfOk-weaker c.take_off.result (λ t. IsTakenOff o done up t more vs) (λ t. (root : K.Key) (n : ℕ) → IsWalking W root n m done up → IsTurned W root n l more vs t)
    (λ t x root n h. off_turned W root n m l done more up vs o t h x (λ j us' q. subst (λ y. found (noted same_key done) (program W y) ≡ Ready o) (one_top up (key_tree k) j (us, e) (us', q)) f) le)
    c.take_off.ensures.taken

pub returns-in-Ok-Ready-clause-sound : goal.returns-in-Ok-Ready-clause-sound
returns-in-Ok-Ready-clause-sound g c =
    let o = outcome_tree c.in-Ok-Ready.outcome in
    let done = claims c.args.notes.now in
    let up = map key_tree c.args.stack.now.keys in
    let more = claims c.take_off.new.notes in
    let vs = map key_tree c.take_off.new.stack.keys in
    IfOk-weaker c.take_off.result (λ t. IsTakenOff o done up t more vs) (λ t. AreSoundKeys vs) (λ t x. below_sound up vs x.top c.requires.sound x.off) c.take_off.ensures.taken

pub returns-in-Ok-Ready-clause-marks : goal.returns-in-Ok-Ready-clause-marks
returns-in-Ok-Ready-clause-marks g c =
    let W = world_of c.args.evaluator.now in
    let done = claims c.args.notes.now in
    let up = map key_tree c.args.stack.now.keys in
    let k = c.in-Some.key.now in
    let (below, d) = c.in-Some.ensures.some in
    let us = map key_tree below in
    let e = trees_top c.args.stack.now.keys below k d in
    let o = outcome_tree c.in-Ok-Ready.outcome in
    let more = claims c.take_off.new.notes in
    let vs = map key_tree c.take_off.new.stack.keys in
    let ns = mark_trees c.take_mark-mark.new.marks.items in
    let h = (below_marked (IsMark W done) up us (key_tree k) (mark_trees c.args.marks.now.items) ns (mark_tree c.take_mark-mark.result) e c.take_mark-mark.ensures c.requires.marks).0 in
    IfOk-weaker c.take_off.result (λ t. IsTakenOff o done up t more vs) (λ t. t ≡ On → AreMarks W more vs ns) (λ t x q. off_marks W o done more up us vs (key_tree k) t ns x e h) c.take_off.ensures.taken

pub returns-in-Ok-Need-clause-turned : goal.returns-in-Ok-Need-clause-turned
returns-in-Ok-Need-clause-turned g c =
    let W = world_of c.args.evaluator.now in
    let done = claims c.args.notes.now in
    let up = map key_tree c.args.stack.now.keys in
    let m = c.args.steps.now in
    let k = c.in-Some.key.now in
    let (below, d) = c.in-Some.ensures.some in
    let us = map key_tree below in
    let e = trees_top c.args.stack.now.keys below k d in
    let j = key_tree c.in-Ok-Need.key in
    let vs = map key_tree c.put_on.new.stack.keys in
    let a = mark_tree c.in-Ok-Need.mark in
    let ms = mark_trees c.take_mark-mark.new.marks.items in
    let ns = mark_trees c.put_on.new.marks.items in
    let l = c.read_on.new.steps in
    let le : (m ≤ l) × (l ≤ m + 1) = (c.read_on.ensures.later, c.read_on.ensures.steps) in
    let f : found (noted same_key done) (program W (key_tree k)) ≡ Need j = sym c.in-Ok-Need.ensures.found ∙ ap reached_tree c.in-Ok-Need.field-0-is in
    IfOk-weaker c.put_on.result (λ t. IsPutOn j a done up ms t vs ns) (λ t. (root : K.Key) (n : ℕ) → IsWalking W root n m done up → IsTurned W root n l done vs t)
    (λ t x root n h. on_turned W root n m l done up us vs (key_tree k) j a ms ns t h e x f le)
    c.put_on.ensures.put

pub returns-in-Ok-Need-clause-falls : goal.returns-in-Ok-Need-clause-falls
returns-in-Ok-Need-clause-falls g c =
    let W = world_of c.args.evaluator.now in
    let done = claims c.args.notes.now in
    let up = map key_tree c.args.stack.now.keys in
    let j = key_tree c.in-Ok-Need.key in
    let vs = map key_tree c.put_on.new.stack.keys in
    let a = mark_tree c.in-Ok-Need.mark in
    let ms = mark_trees c.take_mark-mark.new.marks.items in
    let ns = mark_trees c.put_on.new.marks.items in
    let (root, n, h) = c.requires.walking in
    IfOk-weaker c.put_on.result (λ t. IsPutOn j a done up ms t vs ns) (λ t. t ≡ On → left done vs < left done up) (λ t x. put_falls W root n c.args.steps.now done up vs j a ms ns t h x) c.put_on.ensures.put

pub returns-in-Ok-Need-clause-sound : goal.returns-in-Ok-Need-clause-sound
returns-in-Ok-Need-clause-sound g c =
    let done = claims c.args.notes.now in
    let up = map key_tree c.args.stack.now.keys in
    let j = key_tree c.in-Ok-Need.key in
    let vs = map key_tree c.put_on.new.stack.keys in
    let a = mark_tree c.in-Ok-Need.mark in
    let ms = mark_trees c.take_mark-mark.new.marks.items in
    let ns = mark_trees c.put_on.new.marks.items in
    let s : IsTrue (is_sound_key j) = subst (λ f. IsSoundFound (key_tree c.in-Some.key.now) (reached_tree f)) c.in-Ok-Need.field-0-is c.in-Ok-Need.ensures.sound in
    IfOk-weaker c.put_on.result (λ t. IsPutOn j a done up ms t vs ns) (λ t. AreSoundKeys vs) (λ t x. put_sound done up vs j a ms ns t x c.requires.sound s) c.put_on.ensures.put

pub returns-in-Ok-Need-clause-marks : goal.returns-in-Ok-Need-clause-marks
returns-in-Ok-Need-clause-marks g c =
    let W = world_of c.args.evaluator.now in
    let done = claims c.args.notes.now in
    let up = map key_tree c.args.stack.now.keys in
    let k = c.in-Some.key.now in
    let (below, d) = c.in-Some.ensures.some in
    let us = map key_tree below in
    let e = trees_top c.args.stack.now.keys below k d in
    let j = key_tree c.in-Ok-Need.key in
    let vs = map key_tree c.put_on.new.stack.keys in
    let a = mark_tree c.in-Ok-Need.mark in
    let ms = mark_trees c.take_mark-mark.new.marks.items in
    let ns = mark_trees c.put_on.new.marks.items in
    let h = (below_marked (IsMark W done) up us (key_tree k) (mark_trees c.args.marks.now.items) ms (mark_tree c.take_mark-mark.result) e c.take_mark-mark.ensures c.requires.marks).0 in
    let i : IsMark W done (key_tree k) a = subst (IsMarked (IsMark W done (key_tree k))) c.in-Ok-Need.field-0-is c.in-Ok-Need.ensures.mark in
    IfOk-weaker c.put_on.result (λ t. IsPutOn j a done up ms t vs ns) (λ t. t ≡ On → AreMarks W done vs ns) (λ t x q. on_marks W done up us vs (key_tree k) j a ms ns t x e h i q) c.put_on.ensures.put

pub returns-in-None-clause-turned : goal.returns-in-None-clause-turned
returns-in-None-clause-turned g c = λ root n h.
    let W = world_of c.args.evaluator.now in
    let done = claims c.args.notes.now in
    let m = c.args.steps.now in
    let e = ap (map key_tree) c.in-None.ensures.none in
    subst (HasEnded W root n m done) (sym e) (end_empty W root n m done (subst (IsWalking W root n m done) e h))

pub returns-in-Ok-Ready-clause-part : goal.returns-in-Ok-Ready-clause-part
returns-in-Ok-Ready-clause-part g c = λ root n h.
    let W = world_of c.args.evaluator.now in
    let done = claims c.args.notes.now in
    let up = map key_tree c.args.stack.now.keys in
    let k = c.in-Some.key.now in
    let (below, d) = c.in-Some.ensures.some in
    let us = map key_tree below in
    let e = trees_top c.args.stack.now.keys below k d in
    turned_part W root n c.args.steps.now c.read_on.new.steps done up us (key_tree k) h e (c.read_on.ensures.later, c.read_on.ensures.steps)

pub returns-in-Ok-Need-clause-part : goal.returns-in-Ok-Need-clause-part
returns-in-Ok-Need-clause-part g c = λ root n h.
    let W = world_of c.args.evaluator.now in
    let done = claims c.args.notes.now in
    let up = map key_tree c.args.stack.now.keys in
    let k = c.in-Some.key.now in
    let (below, d) = c.in-Some.ensures.some in
    let us = map key_tree below in
    let e = trees_top c.args.stack.now.keys below k d in
    turned_part W root n c.args.steps.now c.read_on.new.steps done up us (key_tree k) h e (c.read_on.ensures.later, c.read_on.ensures.steps)

pub returns-in-Err-clause-part : goal.returns-in-Err-clause-part
returns-in-Err-clause-part g c = λ root n h.
    let W = world_of c.args.evaluator.now in
    let done = claims c.args.notes.now in
    let up = map key_tree c.args.stack.now.keys in
    let k = c.in-Some.key.now in
    let (below, d) = c.in-Some.ensures.some in
    let us = map key_tree below in
    let e = trees_top c.args.stack.now.keys below k d in
    turned_part W root n c.args.steps.now c.read_on.new.steps done up us (key_tree k) h e (c.read_on.ensures.later, c.read_on.ensures.steps)

pub returns-in-None-clause-part : goal.returns-in-None-clause-part
returns-in-None-clause-part g c = λ root n h.
    so_far_part (world_of c.args.evaluator.now) root n c.args.steps.now (claims c.args.notes.now) (map key_tree c.args.stack.now.keys) h
