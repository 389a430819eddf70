-- `judging::needed` meets its contract: each word that prints a byte is counted. Assumes nothing.
use mathlib.Core.Path.{◌≡◌, sym, ◌∙◌}
use Rattle.std.proofs.Common.{rules, tests, ℕ, ◌==◌}
use Rattle.std.specs.List.{count_by}
use Rattle.judging.proofs.SizeLaws.{sizes_counted, sizes_print}
use Rattle.judging.specs.Size.{size_of}
use Rattle.judging.proofs.needed.Goals as goal

pub returns : goal.returns
returns c =
    let words = c.args.words.now in
    let counted : c.count.result ≡ count_by (λ (w : ℕ). size_of w == 1) words = search (rules, tests) in
    let sizes = counted ∙ sym (sizes_counted words) in
    (sizes, λ all d. sizes ∙ sizes_print words (λ i h. (c.type_inv.words i).fits) all d)
