-- What is asked of one address.
use Rattle.gl_calculus.specs.Grid.Grid.{Addr}
use Rattle.gl_language.specs.Texts.Text.{Bytes}
use Rattle.gl_protocol.specs.Scripts.Commands as C
use Rattle.gl_script.specs.declared.requests.Asked.{Asked}
use Rattle.gl_script.specs.declared.requests.Asked.TheVariants.{Show, Get, Why, Explain}

abbrev pub asked_words : Asked → Bytes → C.Words
asked_words Show place = C.ShowWords place
asked_words Get place = C.GetWords place
asked_words Why place = C.WhyWords place
asked_words Explain place = C.ExplainWords place

abbrev pub asked_request : Asked → Addr → C.Request
asked_request Show a = C.Request.Show a
asked_request Get a = C.Request.Get a
asked_request Why a = C.Request.Why a
asked_request Explain a = C.Request.Explain a
