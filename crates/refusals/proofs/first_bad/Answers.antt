-- `refusals::first_bad` meets its contract. Assumes nothing.
use borrow.Author.Tests.{tests}
use mathlib.Core.Bool.{not}
use Rattle.std.proofs.Common.{rules}
use Rattle.std.proofs.lemmas.Iterator.{YieldsList-from_slice}
use Rattle.std.proofs.lemmas.Iterator.Search.{position_from_yields_List}
use Rattle.identity.proofs.OutsideLaws.{outside_found}
use Rattle.mode_a.specs.Station.{list_of}
use Rattle.mode_a.specs.Heard.{may_hold}
use Rattle.refusals.proofs.first_bad.Goals as goal

pub returns : goal.returns
returns c =
    let found = position_from_yields_List (λ w. not (may_hold w)) _ _ c.position.result c.position.ensures.ran
    (YieldsList-from_slice (list_of c.args.w) c.iter.ensures.rest) (λ x b q k. search (rules, tests)) in
    rw (c.unwrap_or.ensures, found) (outside_found may_hold (list_of c.args.w))
