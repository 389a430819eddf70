-- `identity::number` meets its contract: the code's array is table 3b, and of each byte its place there, or 0, is its number, listed.
-- Assumes nothing.
use mathlib.Core.Path.{◌≡◌, refl}
use mathlib.Core.Bool.{cond}
use Prim.Native.Nat.{ℕ}
use lib.Dec.{eqb, ltb}
use Rattle.std.proofs.Common.{rules}
use borrow.Author.Tests.{tests}
use Rattle.std.specs.Option.{unwrap_or}
use Rattle.std.specs.declared.option.Option.TheVariants.{Some, None}
use Rattle.std.specs.List.{position_or_len}
use Rattle.std.proofs.lemmas.Iterator.{YieldsList-from_slice}
use Rattle.std.proofs.lemmas.Iterator.Search.{position_from_yields_List}
use Rattle.laws.proofs.Table.{same_table}
use Rattle.identity.specs.Table3.{table3b, number_of}
use Rattle.identity.proofs.number.Goals as goal

abbrev place : ℕ → ℕ
place w = position_or_len (λ letter. eqb letter w) table3b

abbrev found : ℕ → ℕ
found w = unwrap_or (cond (ltb (place w) 20) (Some (place w)) None) 0

pub returns : goal.returns
unfolding number_of
returns c =
    let at : c.position.result ≡ cond (ltb (place c.args.word) 20) (Some (place c.args.word)) None =
    position_from_yields_List (λ letter. eqb letter c.args.word) _ _ c.position.result c.position.ensures.ran
    (YieldsList-from_slice _ c.iter.ensures.rest) (λ x b q k. search (rules, tests)) in
    rw (c.unwrap_or.ensures, at) (same_table found number_of 256 0 refl c.args.word c.ranges.word.fits)
