-- 001, 2.5, "Check-sum signal derivation".  R-198
-- Assumes nothing.
use Rattle.std.specs.Prelude.{Bool, ◌&&◌, List, [], ◌∷◌, ℕ, ◌+◌, ◌%◌, eqb}
use Rattle.identity.specs.declared.Seven.{Seven}
use Rattle.identity.specs.Table3.{is_identity, number_of, signal_of}

-- "These identification signals IS1, IS2, IS3, IS4, IS5, IS6 and IS7"
abbrev pub signals_of7 : Seven → List ℕ
signals_of7 i = i.0 ∷ i.1 ∷ i.2 ∷ i.3 ∷ i.4 ∷ i.5 ∷ i.6 ∷ []

-- all seven are letters of table 3a
unfoldable pub is_callable7 : Seven → Bool
is_callable7 i =
    is_identity i.0
    && (is_identity i.1 && (is_identity i.2 && (is_identity i.3 && (is_identity i.4 && (is_identity i.5 && is_identity i.6)))))

-- the same in each of the seven
unfoldable pub same_seven : Seven → Seven → Bool
same_seven i j =
    eqb i.0 j.0
    && eqb i.1 j.1
    && eqb i.2 j.2
    && eqb i.3 j.3
    && eqb i.4 j.4
    && eqb i.5 j.5
    && eqb i.6 j.6

-- "where ⊕ denotes modulo 20-addition"
infixl 60 ◌⊕◌
abbrev pub ◌⊕◌ : ℕ → ℕ → ℕ
m ⊕ n = (m + n) % 20

-- "are converted into their equivalent numbers .. The three numbers .. are added and the sum is translated into one check-sum number ..
-- The last conversion is from check-sum numbers .. into check-sum signal .., in accordance with Table 3b"
unfoldable pub check_sum : ℕ → ℕ → ℕ → ℕ
check_sum x y z = signal_of (number_of x ⊕ number_of y ⊕ number_of z)

-- "N1 ⊕ N2 ⊕ N3 = CN1", "N3 ⊕ N4 ⊕ N5 = CN2", "N5 ⊕ N6 ⊕ N7 = CN3": signals 3 and 5 count twice
abbrev pub check_sum1 : Seven → ℕ
check_sum1 i = check_sum i.0 i.1 i.2

abbrev pub check_sum2 : Seven → ℕ
check_sum2 i = check_sum i.2 i.3 i.4

abbrev pub check_sum3 : Seven → ℕ
check_sum3 i = check_sum i.4 i.5 i.6
