-- `judging::searched` meets its contract: the place is the one that the library finds. Assumes nothing.
use mathlib.Core.Path.{◌≡◌}
use mathlib.Core.Bool.{not}
use Rattle.std.proofs.Common.{rules, tests}
use Rattle.std.specs.List.{position}
use Rattle.std.proofs.lemmas.Iterator.{YieldsList-from_slice}
use Rattle.std.proofs.lemmas.Iterator.Search.{position_from_yields_List}
use Rattle.signals.proofs.NumberLaws.{first_found}
use Rattle.text.specs.Printing.{may_print}
use Rattle.judging.proofs.searched.Goals as goal

pub returns : goal.returns
returns c =
    let words = c.args.words.now in
    let found : c.position.result ≡ position (λ x. not (may_print x)) words = position_from_yields_List (λ x. not (may_print x)) _ _ c.position.result c.position.ensures.ran (YieldsList-from_slice _ c.iter.ensures.rest) (λ x b q k. search (rules, tests)) in
    let first = first_found may_print words in
    cc
