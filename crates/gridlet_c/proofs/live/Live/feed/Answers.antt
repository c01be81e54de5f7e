use Rattle.std.proofs.Common.{◌≡◌, ◌++◌, length, drop, refl, ap, sym, subst, take-append-drop}
use Rattle.gl_language.specs.Texts.Text.{Bytes}
use Rattle.gridlet_c.specs.History.{Holds, Counts, HasHistory, waiting_of, fed_by}
use Rattle.gridlet_c.specs.declared.live.Phase.{Phase}
use Rattle.gridlet_c.proofs.Phases.{unread, none_cut, some_cut}
use Rattle.gridlet_c.proofs.live.Live.feed.Goals as goal

pub returns-in_default : goal.returns-in_default
returns-in_default c = record {
  phase = refl;
  fed = record { unended = λ h. h; unread = λ _. refl; history = λ fed given h. unread c.args.self.now c.in_default.not-Going fed given c.args.bytes.now h };
}

pub returns-clause-fed : goal.returns-clause-fed
returns-clause-fed c =
    let s = c.args.self.now in
    let new = c.read.new.self in
    let bytes = c.args.bytes.now in
    let kept = c.min-kept.result in
    record {
      unended = λ _. c.read.ensures.unended;
      unread = λ other. absurd (other c.in-Going.is);
      history = λ fed given h.
          let reads = subst (λ (p : Phase). Holds p s.session s.steps fed (given ++ waiting_of s)) c.in-Going.is h.holds in
          let counts : s.count ≡ length fed = subst (λ (p : Phase). Counts p s.count fed) c.in-Going.is h.counts in
          let after = c.read.ensures.reads fed given (drop kept bytes) reads counts h.in_replies (none_cut kept bytes) (some_cut kept s.count (length fed) bytes c.min-kept.ensures s.in_limit counts) in
          let whole = subst (λ (q : Bytes). HasHistory new q given) (ap (λ (l : Bytes). fed ++ l) (take-append-drop kept bytes)) after in
          subst (λ (p : Phase). HasHistory new (fed_by p fed bytes) given) (sym c.in-Going.is) whole;
    }
