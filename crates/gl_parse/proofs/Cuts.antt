-- What a reader answers behind another one's answer.
use Rattle.std.proofs.Common.{◌≡◌, ℕ, List, ◌∷◌, ap, ◌∙◌}
use Rattle.std.specs.Prelude.{Result, Ok, Err, IsErrAnd}
use Rattle.gl_language.specs.Reading.Grammar.{Tokens}
use Rattle.gl_language.specs.Texts.Text.{Bytes}
use Rattle.gl_lex.specs.declared.Kind.{Kind}
use Rattle.gl_lex.specs.declared.Token.{Token}
use Rattle.gl_lex.specs.View.{kind_token, span, tokens_in}
use Rattle.gl_parse.specs.Reading.{Form, Only, Never, Fails, Decides}
use Rattle.gl_parse.specs.declared.stop.Stop.{Stop}
use Rattle.gl_parse.specs.declared.stop.Stop.TheVariants.{Syntax, NoMemory}

module _ {A X : Type 0} (S : Form A) (j : ℕ) (us : Tokens) (tree : X → A) (rest : X → Tokens) where
  -- a fault that is passed on
  pub cut : {B : Type 0} {R : Form B} {k : ℕ} {ts : Tokens} → (Never R k ts → Never S j us) → (e : Stop) (r : Result X Stop) → Fails R k ts e → IsErrAnd r (λ x. x ≡ e) → Decides r tree rest S j us
  cut n e (Ok x) f h = absurd h
  cut n Syntax (Err Syntax) f h = n f
  cut n NoMemory (Err Syntax) f h = cc
  cut n e (Err NoMemory) f h = tt

  -- no memory, whatever stands there
  pub spent : (r : Result X Stop) → IsErrAnd r (λ x. x ≡ NoMemory) → Decides r tree rest S j us
  spent (Ok x) h = absurd h
  spent (Err Syntax) h = cc
  spent (Err NoMemory) h = tt

  -- a form that is read as another one
  pub as_other : {R : Form A} {k : ℕ} {ts : Tokens} → ((t : A) (vs : Tokens) → Only R k ts t vs → Only S j us t vs) → (Never R k ts → Never S j us) → (r : Result X Stop) → Decides r tree rest R k ts → Decides r tree rest S j us
  as_other f n (Ok x) h = f (tree x) (rest x) h
  as_other f n (Err Syntax) h = n h
  as_other f n (Err NoMemory) h = tt

-- the first token, by its kind
pub in_front : (text : Bytes) (ts us : List Token) (t : Token) (k : Kind) → ts ≡ t ∷ us → t.kind ≡ k → tokens_in text ts ≡ kind_token k (span text t) ∷ tokens_in text us
in_front text ts us t k h i = ap (tokens_in text) h ∙ ap (λ z. kind_token z (span text t) ∷ tokens_in text us) i
