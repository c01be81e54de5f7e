use Rattle.gl_protocol.specs.Scripts.Commands.{IsAddress, NoAddress}
use Rattle.gl_script.proofs.Lines.{import_asks, import_refused, option_cases}
use Rattle.gl_script.proofs.requests.import.Goals as goal

pub returns-in-Some : goal.returns-in-Some
returns-in-Some c = λ l h. import_asks l c.args.place.now c.args.count.now c.read_address.result c.in-Some.n h c.in-Some.ensures.value (option_cases (λ a. IsAddress c.args.place.now a) (NoAddress c.args.place.now) c.read_address.result c.read_address.ensures.some c.read_address.ensures.none)

pub returns-in-None : goal.returns-in-None
returns-in-None c = λ l h. import_refused l c.args.place.now c.args.count.now h c.in-None.ensures.value
