use Rattle.std.proofs.Common.{◌≡◌, ◌∙◌, sym, ap, true, false, length}
use Rattle.std.specs.Prelude.{codes, bytes_eq, ◌==◌}
use Rattle.gl_protocol.specs.Framing.Pieces.{is_number}
use Rattle.gl_script.proofs.Cuts.{import-some, import-word, import-place, import-count}
use Rattle.gl_script.proofs.words.import_words.Goals as goal
use Rattle.gl_script.proofs.words.import_words.Goals.{else-eq-via-then-eq+then-not-is_empty+else-is_number, else-eq-via-then-eq+else-not-is_empty, else-eq-via-else-eq}

pub returns-then-is_number : goal.returns-then-is_number
returns-then-is_number c =
    let e : bytes_eq c.args.word.now (codes "import") ≡ true = cc in
    let p : (length c.args.place.now == 0) ≡ false = cc in
    let n : is_number c.args.count.now ≡ true = ap is_number (sym c.as_bytes.ensures.value) ∙ sym c.is_number.ensures ∙ c.if-is_number.true in
    sym (import-some c.args.word.now c.args.place.now c.args.count.now e p n)

pub returns-else-eq : goal.returns-else-eq
returns-else-eq c =
    elim c.else-eq.branch [
      | else-eq-via-then-eq+then-not-is_empty+else-is_number w ↦
          let n : is_number c.args.count.now ≡ false = ap is_number (sym w.as_bytes.ensures.value) ∙ sym w.is_number.ensures ∙ w.if-is_number.false in
          sym (import-count c.args.word.now c.args.place.now c.args.count.now n)
      | else-eq-via-then-eq+else-not-is_empty w ↦
          let p : (length c.args.place.now == 0) ≡ true = cc in
          sym (import-place c.args.word.now c.args.place.now c.args.count.now p)
      | else-eq-via-else-eq w ↦
          let e : bytes_eq c.args.word.now (codes "import") ≡ false = cc in
          sym (import-word c.args.word.now c.args.place.now c.args.count.now e)
    ]
