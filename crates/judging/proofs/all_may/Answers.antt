-- `judging::all_may` meets its contract: while the answer is yes, each word that is passed may stand. Assumes nothing.
use mathlib.Core.Path.{◌≡◌}
use mathlib.Core.Bool.{Bool, true}
use native.Mathlib.Omega.{arith}
use lib.ListN.{length}
use Rattle.std.proofs.Common.{rules, tests, ℕ, List, ◌≤◌, Bor}
use Rattle.std.proofs.lemmas.Fn.{fold_over, fronts, slice_gives}
use Rattle.signals.specs.Numbers.{first_not}
use Rattle.signals.proofs.NumberLaws.{first_le}
use Rattle.text.specs.Printing.{may_print}
use Rattle.judging.proofs.SizeLaws.{all_more}
use Rattle.judging.proofs.all_may.Goals as goal

pub returns : goal.returns
returns c t =
    let words = c.args.words.now in
    let judged = λ (ys : List ℕ) (b : Bool). b ≡ true → length ys ≤ first_not may_print ys in
    let rest : c.iter.result.rest.now ≡ words = c.iter.ensures.rest in
    let all : judged c.iter.result.rest.now c.fold.result = fold_over fronts (λ (x : Bor ℕ). x.now) _ judged _ (λ ys a x b f' held k. (all_more may_print ys x.now a b (search (rules, tests)) held, search rules)) c.iter.result _ true c.fold.result (slice_gives c.iter.result) (λ t. omega arith) c.fold.ensures.ran in
    omega (arith, first_le may_print words, (rw rest at all) t)
