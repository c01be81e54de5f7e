use Rattle.std.proofs.Common.{[], ◌∷◌, ◌++◌, map}
use Rattle.gl_calculus.specs.Evaluation.Key.{same_key}
use Rattle.gl_calculus.specs.Explanation.Walk.{noted}
use Rattle.gl_demand.specs.Sound.{AreSoundKeys, IsSoundTable}
use Rattle.gl_demand.specs.View.{key_tree, outcome_tree}
use Rattle.gl_cert.specs.Claims.{claim_trees}
use Rattle.gl_cert.proofs.Tables.{either_way, sound_more, keys_more}
use Rattle.gl_cert.proofs.notes.Notes.note.Goals as goal

pub invariant_of-self : goal.invariant_of-self
invariant_of-self c =
    let old = claim_trees c.args.self.now.outcomes.entries in
    let k = key_tree c.args.key in
    let o = outcome_tree c.args.outcome in
    let new = claim_trees c.add.new.outcomes.entries in
    record {
      sound = either_way (λ ns. IsSoundTable (noted same_key ns)) c.add.result old (old ++ (k, o) ∷ []) new c.add.ensures.ok c.add.ensures.err (sound_more old k o c.requires.free c.args.self.now.sound c.requires.sound) c.args.self.now.sound;
      keys = either_way (λ ns. AreSoundKeys (map (λ n. n.0) ns)) c.add.result old (old ++ (k, o) ∷ []) new c.add.ensures.ok c.add.ensures.err (keys_more old k o c.args.self.now.keys c.requires.key) c.args.self.now.keys;
    }
