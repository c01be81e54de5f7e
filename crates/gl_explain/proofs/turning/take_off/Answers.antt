use Rattle.gl_explain.proofs.turning.take_off.Goals as goal

pub note-requires-clause-sound : goal.note-requires-clause-sound
note-requires-clause-sound c = (c.requires.top c.in-Some.key (c.pop.new.self.keys, c.in-Some.ensures.keys)).2
