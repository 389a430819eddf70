-- 01, The code: what a word means.  R-019, R-020, R-021, R-023, R-024, R-025
-- Assumes nothing.
use Rattle.std.specs.Prelude.{Bool, ◌&&◌, List, [], ◌∷◌, ℕ, zero, suc, eqb, leb, if◌then◌else◌}
use Rattle.signals.specs.Signals.{Signal, signals, word_of}

-- the number, counted from n, of the signal with the word w; 0 where there is none
abbrev pub number_in : List Signal → ℕ → ℕ → ℕ
number_in [] n w = 0
number_in (s ∷ ss) n w = if eqb w (word_of s) then n else number_in ss (suc n) w

-- "the signal's number (1 to 32 in the order above, α 33, β 34, RQ 35) or 0 for mutilated"  R-024, R-025, R-158, R-173
unfoldable pub meaning_of : ℕ → ℕ
meaning_of w = number_in signals 1 w

-- "These 32 are traffic signals."  R-019
unfoldable pub traffic_of : ℕ → Bool
traffic_of w = leb 1 (meaning_of w) && leb (meaning_of w) 32

-- the word of the signal with a number, from 1; 0 where there is none
abbrev pub word_in : List Signal → ℕ → ℕ
word_in [] n = 0
word_in (s ∷ ss) zero = 0
word_in (s ∷ ss) (suc zero) = word_of s
word_in (s ∷ ss) (suc (suc n)) = word_in ss (suc n)

abbrev pub word_no : ℕ → ℕ
word_no n = word_in signals n

-- the shifts
abbrev pub letters : ℕ
letters = word_no 29

abbrev pub figures : ℕ
figures = word_no 30

-- "Service: α .., β .., RQ"  R-020. "Mode B's phasing signal 1 is α, phasing signal 2 is RQ."  R-023
abbrev pub alpha : ℕ
alpha = word_no 33

abbrev pub beta : ℕ
beta = word_no 34

abbrev pub rq : ℕ
rq = word_no 35

-- "Control signals share words with traffic: CS1 = L, CS2 = blank, CS3 = N."  R-021
abbrev pub cs1 : ℕ
cs1 = word_no 12

abbrev pub cs2 : ℕ
cs2 = word_no 32

abbrev pub cs3 : ℕ
cs3 = word_no 14

-- 001, table 2: CS4 has the word of G and CS5 that of H (02, T-05)  R-196
abbrev pub cs4 : ℕ
cs4 = word_no 7

abbrev pub cs5 : ℕ
cs5 = word_no 8

-- "The error mark is byte 255 in a list of signals": printing takes it, and a receiver of mode B prints it.  R-036, R-111
abbrev pub error_mark : ℕ
error_mark = 255
