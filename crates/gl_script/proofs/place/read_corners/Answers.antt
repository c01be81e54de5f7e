use Rattle.std.proofs.Common.{Some, None, lit<}
use Rattle.std.proofs.lemmas.Str.Pattern.{split_parts}
use Rattle.gl_script.proofs.Places.{alone, pair, not_alone, not_first, not_last}
use Rattle.gl_script.proofs.place.read_corners.Goals as goal

pub returns-in-Some-read_address-clause-some : goal.returns-in-Some-read_address-clause-some
returns-in-Some-read_address-clause-some c = alone c.args.place.now c.in-Some-read_address.a c.in-Some-read_address.ensures.some

pub returns-in-None-read_address-clause-none : goal.returns-in-None-read_address-clause-none
returns-in-None-read_address-clause-none c = not_alone c.args.place.now (split_parts 58 c.args.place.now None c.in-None.ensures.cases (lit< tt)) c.in-None-read_address.ensures.none

pub returns-in-Some-read_address-3-clause-some : goal.returns-in-Some-read_address-3-clause-some
returns-in-Some-read_address-3-clause-some c =
    let parts = split_parts 58 c.args.place.now (Some (c.in-Some.first, c.in-Some.last)) c.in-Some.ensures.cases (lit< tt) in
    pair c.args.place.now c.in-Some.first.now c.in-Some.last.now c.in-Some-read_address-2.a c.in-Some-read_address-3.b parts.0 c.in-Some-read_address-2.ensures.some c.in-Some-read_address-3.ensures.some

pub returns-in-None-read_address-3-clause-none : goal.returns-in-None-read_address-3-clause-none
returns-in-None-read_address-3-clause-none c =
    let parts = split_parts 58 c.args.place.now (Some (c.in-Some.first, c.in-Some.last)) c.in-Some.ensures.cases (lit< tt) in
    not_last c.args.place.now c.in-Some.first.now c.in-Some.last.now parts.0 parts.1 c.in-None-read_address-3.ensures.none

pub returns-in-None-read_address-2-clause-none : goal.returns-in-None-read_address-2-clause-none
returns-in-None-read_address-2-clause-none c =
    let parts = split_parts 58 c.args.place.now (Some (c.in-Some.first, c.in-Some.last)) c.in-Some.ensures.cases (lit< tt) in
    not_first c.args.place.now c.in-Some.first.now c.in-Some.last.now parts.0 parts.1 c.in-None-read_address-2.ensures.none
