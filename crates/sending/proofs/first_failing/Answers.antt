-- `sending::first_failing` meets its contract. Assumes nothing.
use mathlib.Core.Path.{◌≡◌, sym, ◌∙◌}
use mathlib.Core.Bool.{true, false}
use Rattle.std.proofs.Common.{rules, tests}
use Rattle.std.proofs.lemmas.Iterator.{index_from_first, IsFirst-from_position, YieldsList-from_slice}
use Rattle.signals.specs.Numbers.{first_not}
use Rattle.sending.proofs.TestLaws.{none, hit, miss}
use Rattle.sending.proofs.first_failing.Goals as goal

pub returns-then-all_pass : goal.returns-then-all_pass
returns-then-all_pass g c test d = sym (c.all_pass.ensures test d c.if-all_pass.true)

pub returns : goal.returns
returns g c test d =
    c.unwrap_or.ensures
    ∙ sym (index_from_first (first_not test) (λ w. test w ≡ false) (λ w. test w ≡ true) (none test) (hit test) (miss test) c.args.words.now c.position.result
    (IsFirst-from_position _ _ _ (λ w. test w ≡ false) (λ w. test w ≡ true) c.position.ensures.ran (YieldsList-from_slice c.args.words.now c.iter.ensures.rest) (λ x q k. search (rules, tests, d)) (λ x q k. search (rules, tests, d))))
