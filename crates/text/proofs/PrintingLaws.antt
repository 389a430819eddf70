-- Printing is a walk, and answers in the order 7, 3, 2. Assumes nothing.
use mathlib.Core.Path.{◌≡◌, refl}
use mathlib.Core.List.{List}
use Prim.Native.Nat.{ℕ}
use lib.ListN.{length}
use Rattle.signals.specs.declared.Case.{Case}
use Rattle.signals.specs.Numbers.{first_not}
use Rattle.text.specs.Printing.{bytes_of, case_at, printed, ends_printed, may_print, printing}
use Rattle.text.proofs.WalkLaws.{Walk}
use Rattle.text.proofs.AnswerLaws.{judged}

pub printed_walk : Walk printed ends_printed bytes_of case_at
unfolding printed ends_printed
printed_walk =
    record {
      nil = λ c. refl;
      cons = λ c w ws. refl;
      ends_nil = λ c. refl;
      ends_cons = λ c w ws. refl;
    }

pub printing_judged : (ws : List ℕ) (c : Case) (room : ℕ) → printing ws c room ≡ judged 8192 7 3 (length ws) (first_not may_print ws) room (record { bytes = printed c ws; ends = ends_printed c ws })
unfolding printing
printing_judged ws c room = refl
