-- What is proved of tables 3a and 3b, and of the three check-sums: they tell any one wrong letter, and of two letters exchanged all
-- pairs of places but two. 001 says none of this; 2.5 has it as a consequence.
-- Assumes nothing.
use Rattle.std.specs.Prelude.{◌≡◌, true, ◌↔◌, ◌≢◌, ℕ, ◌<◌}
use Rattle.identity.specs.declared.Seven.{Seven}
use Rattle.identity.specs.Table3.{is_identity, number_of, signal_of}
use Rattle.identity.specs.Sums.{check_sum, check_sum1, check_sum2, check_sum3}

-- Table 3b is table 3a read from the number to the signal: each of the numbers 0 to 19 has one letter, and each letter one number
pub record TablesAgree : Type 0 where
  pub number_back : (n : ℕ) → n < 20 → number_of (signal_of n) ≡ n
  pub signal_letter : (n : ℕ) → n < 20 → is_identity (signal_of n) ≡ true
  pub signal_back : (w : ℕ) → is_identity w ≡ true → signal_of (number_of w) ≡ w
  pub number_below : (w : ℕ) → is_identity w ≡ true → number_of w < 20

-- A check-sum signal is always a letter of the tables, also where a signal is none
abbrev pub AlwaysALetter : Type 0
AlwaysALetter = (x y z : ℕ) → is_identity (check_sum x y z) ≡ true

-- the seven places, by 001's names for the signals there
pub data Place7 : Type 0 where
  IS1 IS2 IS3 IS4 IS5 IS6 IS7 : Place7

abbrev pub signal_at : Place7 → Seven → ℕ
signal_at IS1 i = i.0
signal_at IS2 i = i.1
signal_at IS3 i = i.2
signal_at IS4 i = i.3
signal_at IS5 i = i.4
signal_at IS6 i = i.5
signal_at IS7 i = i.6

-- all three check-sums are the same: whoever compares them alone takes one identity for the other
pub record SameSums (i j : Seven) : Type 0 where
  pub sums_1 : check_sum1 i ≡ check_sum1 j
  pub sums_2 : check_sum2 i ≡ check_sum2 j
  pub sums_3 : check_sum3 i ≡ check_sum3 j

-- two identities with unlike letters at one place, and elsewhere the same
pub record DifferAt (p : Place7) (i j : Seven) : Type 0 where
  pub letters : (is_identity (signal_at p i) ≡ true) × (is_identity (signal_at p j) ≡ true)
  pub unlike : signal_at p i ≢ signal_at p j
  pub elsewhere : (r : Place7) → r ≢ p → signal_at r i ≡ signal_at r j

-- One wrong letter, at any place, and at least one of the three check-sums is another
abbrev pub OneLetter : Type 0
OneLetter = (p : Place7) (i j : Seven) → DifferAt p i j → SameSums i j → ⊥

-- the second identity is the first with the letters at two places exchanged, which are unlike
pub record ExchangedAt (p q : Place7) (i j : Seven) : Type 0 where
  pub letters : (is_identity (signal_at p i) ≡ true) × (is_identity (signal_at q i) ≡ true)
  pub unlike : signal_at p i ≢ signal_at q i
  pub there : signal_at p j ≡ signal_at q i
  pub back : signal_at q j ≡ signal_at p i
  pub elsewhere : (r : Place7) → r ≢ p → r ≢ q → signal_at r i ≡ signal_at r j

-- the other place that counts in the same check-sums: the first and the second have one another, and so have the sixth and the
-- seventh; the three in the middle have none but themselves
abbrev pub twin : Place7 → Place7
twin IS1 = IS2
twin IS2 = IS1
twin IS3 = IS3
twin IS4 = IS4
twin IS5 = IS5
twin IS6 = IS7
twin IS7 = IS6

-- No check-sum tells that two unlike letters were exchanged exactly where they are the first and the second, or the sixth and the
-- seventh. (No place in the middle is meant: letters that are unlike stand at two places.)
abbrev pub ExchangeUnseen : Type 0
ExchangeUnseen = (p q : Place7) (i j : Seven) → ExchangedAt p q i j → (SameSums i j ↔ q ≡ twin p)
