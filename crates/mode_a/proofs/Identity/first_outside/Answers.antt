-- `Identity::first_outside` meets its contract. Assumes nothing.
use borrow.Author.Tests.{tests}
use mathlib.Core.Bool.{not}
use Rattle.std.proofs.Common.{rules}
use Rattle.std.proofs.lemmas.Iterator.{YieldsList-from_slice}
use Rattle.std.proofs.lemmas.Iterator.Search.{position_from_yields_List}
use Rattle.identity.specs.Table3.{is_identity}
use Rattle.identity.proofs.OutsideLaws.{outside_found}
use Rattle.mode_a.specs.Calls.{signals_of}
use Rattle.mode_a.proofs.Identity.first_outside.Goals as goal

pub returns : goal.returns
returns c =
    let found = position_from_yields_List (λ w. not (is_identity w)) _ _ c.position.result c.position.ensures.ran
    (YieldsList-from_slice (signals_of c.args.self) c.iter.ensures.rest) (λ x b q k. search (rules, tests)) in
    rw (c.unwrap_or.ensures, found) (outside_found is_identity (signals_of c.args.self))
