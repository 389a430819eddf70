-- The eighteen kinds of burst: what the rows of `mode_a` can ask of a burst, put into one partition. Three places ask one thing more, which
-- stands beside the kind (02, T-02 and T-05): Stand-by which of the own call blocks the burst is, which depends on the station; Identifying
-- which letter comes first; Answering which identification block it is, and its letters. Assumes nothing.
use Rattle.std.specs.Prelude.{Bool, true, false, ℕ, if◌then◌else◌}
use Rattle.mode_a.specs.declared.Number.TheVariants.{One, Two}
use Rattle.mode_a.specs.declared.Words.{Words}
use Rattle.mode_a.specs.declared.Mark.{Mark}
use Rattle.mode_a.specs.declared.Part.{Part}
use Rattle.mode_a.specs.declared.Own.{Own}
use Rattle.mode_a.specs.Station.{βαβ, ααα, RQ×3}
use Rattle.mode_a.specs.Identification.{Told, nothing_told, told_in}
use Rattle.mode_a.specs.Heard.{First, Cs, Further, Cs4, Cs5, Letter, Other, Heard, first_of, is_block, is_words, call_of, call3_of}
use Rattle.table.specs.declared.Kind.{Kind}

-- the kind of a block by its first word; RQ is none of a block's words
abbrev pub further_block : Further → Kind
further_block Cs4 = Kind.Cs4Block
further_block Cs5 = Kind.Cs5Block
further_block (Letter w) = Kind.LetterBlock
further_block Other = Kind.Block

abbrev pub block_kind : First → Kind
block_kind (Cs One) = Kind.Cs1Block
block_kind (Cs Two) = Kind.Cs2Block
block_kind First.Cs3 = Kind.Cs3Block
block_kind First.Rq = Kind.Rq
block_kind (First.Else x) = further_block x

abbrev pub further_kind : Further → Kind
further_kind Cs4 = Kind.Cs4
further_kind Cs5 = Kind.Cs5
further_kind (Letter w) = Kind.Letter
further_kind Other = Kind.Else

abbrev pub rest_kind : First → Kind
rest_kind (Cs One) = Kind.Cs1
rest_kind (Cs Two) = Kind.Cs2
rest_kind First.Cs3 = Kind.Cs3
rest_kind First.Rq = Kind.Rq
rest_kind (First.Else x) = further_kind x

unfoldable pub kind_of : Words → Kind
kind_of b =
    if is_block b then block_kind (first_of b.0)
    else if is_words b RQ×3 then Kind.Rqs
    else if is_words b ααα then Kind.Alphas
    else if is_words b βαβ then Kind.Turn
    else rest_kind (first_of b.0)

-- what stands beside the kind: the own call block, of four signals and of seven; the first word; the identification block
pub record Beside : Type 0 where
  pub call : Mark
  pub call3 : Part
  pub letter : ℕ
  pub told : Told

unfoldable pub beside_of : Own → Words → Beside
beside_of own b =
    record { call = call_of own.four b; call3 = call3_of own.seven b; letter = b.0; told = told_in b }

abbrev heard : First → Bool → Beside → Heard
heard f b s =
    record { first = f; block = b; RQs = false; alphas = false; turned = false; call = s.call; call3 = s.call3; told = s.told }

abbrev named : First → Bool → Bool → Bool → Beside → Heard
named f q a t s =
    record { first = f; block = false; RQs = q; alphas = a; turned = t; call = s.call; call3 = s.call3; told = s.told }

-- what the rows ask, of a burst of each kind with s beside it
abbrev pub heard_k : Beside → Kind → Heard
heard_k s Kind.Cs1Block = heard (Cs One) true s
heard_k s Kind.Cs1 = heard (Cs One) false s
heard_k s Kind.Cs2Block = heard (Cs Two) true s
heard_k s Kind.Cs2 = heard (Cs Two) false s
heard_k s Kind.Cs3Block = heard First.Cs3 true s
heard_k s Kind.Cs3 = heard First.Cs3 false s
heard_k s Kind.Cs4Block = heard (First.Else Cs4) true s
heard_k s Kind.Cs4 = heard (First.Else Cs4) false s
heard_k s Kind.Cs5Block = heard (First.Else Cs5) true s
heard_k s Kind.Cs5 = heard (First.Else Cs5) false s
heard_k s Kind.LetterBlock = heard (First.Else (Letter s.letter)) true s
heard_k s Kind.Letter = heard (First.Else (Letter s.letter)) false s
heard_k s Kind.Rqs = named First.Rq true false false s
heard_k s Kind.Rq = heard First.Rq false s
heard_k s Kind.Block = heard (First.Else Other) true s
heard_k s Kind.Turn = named (First.Else Other) false false true s
heard_k s Kind.Alphas = named (First.Else Other) false true false s
heard_k s Kind.Else = heard (First.Else Other) false s

-- of what stands beside a kind, what some place asks: the own call block; the letter where one comes first, and 0 elsewhere; and the
-- identification block, but at ααα, which is none
abbrev pub letter_in : First → ℕ
letter_in (Cs n) = 0
letter_in First.Cs3 = 0
letter_in First.Rq = 0
letter_in (First.Else Cs4) = 0
letter_in (First.Else Cs5) = 0
letter_in (First.Else (Letter w)) = w
letter_in (First.Else Other) = 0

abbrev pub asked : Kind → Beside → Beside
asked k s =
    record {
      call = s.call;
      call3 = s.call3;
      letter = letter_in (heard_k s k).first;
      told = if (heard_k s k).alphas then nothing_told else s.told;
    }

-- the column
abbrev pub column_of : Kind → ℕ
column_of Kind.Cs1Block = 0
column_of Kind.Cs1 = 1
column_of Kind.Cs2Block = 2
column_of Kind.Cs2 = 3
column_of Kind.Cs3Block = 4
column_of Kind.Cs3 = 5
column_of Kind.Cs4Block = 6
column_of Kind.Cs4 = 7
column_of Kind.Cs5Block = 8
column_of Kind.Cs5 = 9
column_of Kind.LetterBlock = 10
column_of Kind.Letter = 11
column_of Kind.Rqs = 12
column_of Kind.Rq = 13
column_of Kind.Block = 14
column_of Kind.Turn = 15
column_of Kind.Alphas = 16
column_of Kind.Else = 17
