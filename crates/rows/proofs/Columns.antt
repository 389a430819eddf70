-- Every kind has a name: its column is one of eighteen. Assumes nothing.
use Prim.Native.Nat.{◌<◌}
use native.Mathlib.Omega.{arith}
use Rattle.table.specs.declared.Kind.{Kind}
use Rattle.table.specs.declared.Kind.TheVariants.{Cs1Block, Cs1, Cs2Block, Cs2, Cs3Block, Cs3, Cs4Block, Cs4, Cs5Block, Cs5, LetterBlock, Letter, Rqs, Rq, Block, Turn, Alphas, Else}
use Rattle.table.specs.Kinds.{column_of}

pub column_lt : (kind : Kind) → column_of kind < 18
column_lt Cs1Block = omega arith
column_lt Cs1 = omega arith
column_lt Cs2Block = omega arith
column_lt Cs2 = omega arith
column_lt Cs3Block = omega arith
column_lt Cs3 = omega arith
column_lt Cs4Block = omega arith
column_lt Cs4 = omega arith
column_lt Cs5Block = omega arith
column_lt Cs5 = omega arith
column_lt LetterBlock = omega arith
column_lt Letter = omega arith
column_lt Rqs = omega arith
column_lt Rq = omega arith
column_lt Block = omega arith
column_lt Turn = omega arith
column_lt Alphas = omega arith
column_lt Else = omega arith
