-- 02, T-06: the blocks of an answer-back, and which of them is owed.
--     is_owed                              a part of an answer is owed
--     owed_block                          what is owed of the answer of a code that passes is a block
--     owed_for_exists, owed_then_exists   what a block with D makes owed, and what is owed behind a block, is one that the answer has
-- Assumes nothing.
use mathlib.Core.Path.{◌≡◌, refl}
use mathlib.Core.Bool.{Bool, true, false, ◌&&◌, and-eq-true_iff}
use mathlib.Core.List.{List, [], ◌∷◌, ◌++◌}
use Prim.Native.Nat.{ℕ, zero, suc, ◌≤◌}
use native.Mathlib.Omega.{arith}
use lib.Dec.{leb, ltb}
use lib.ListN.{length, get_or}
use borrow.Author.Tests.{leb-true, le-leb}
use Rattle.std.specs.Prelude.{if◌then◌else◌}
use Rattle.signals.specs.Meaning.{meaning_of, traffic_of, beta}
use Rattle.signals.specs.Numbers.{first_not}
use Rattle.signals.proofs.NumberLaws.{all_head}
use Rattle.mode_a.specs.declared.Words.{Words}
use Rattle.mode_a.specs.declared.Code.{Code}
use Rattle.mode_a.specs.declared.Owed.{Owed}
use Rattle.mode_a.specs.declared.Listening.{Listening}
use Rattle.mode_a.specs.Station.{words}
use Rattle.mode_a.specs.Heard.{may_hold, is_block}
use Rattle.mode_a.specs.Answerback.{code_signals, passes, in_threes, βββ, figures+?, answer_keeping, answer_of, owed_from, block_owed, owed_then, owed_exists}
use Rattle.mode_a.specs.Step.{owed_for}

abbrev pub is_owed : Owed → Bool
is_owed Owed.Nothing = false
is_owed (Owed.Back i) = true
is_owed (Owed.Keep i) = true

abbrev AllBlocks : List Words → Type 0
AllBlocks [] = Unit {0}
AllBlocks (b ∷ bs) = (is_block b ≡ true) × AllBlocks bs

all_at : (bs : List Words) (i : ℕ) → AllBlocks bs → is_block (get_or bs i βββ) ≡ true
unfolding is_block may_hold traffic_of meaning_of
all_at [] i a = refl
all_at (b ∷ bs) zero a = a.0
all_at (b ∷ bs) (suc i) a = all_at bs i a.1

all_both : (bs cs : List Words) → AllBlocks bs → AllBlocks cs → AllBlocks (bs ++ cs)
all_both [] cs a c = c
all_both (b ∷ bs) cs a c = (a.0, all_both bs cs a.1 c)

three_held : (a b c : ℕ) → may_hold a ≡ true → may_hold b ≡ true → may_hold c ≡ true → is_block (words a b c) ≡ true
unfolding is_block
three_held a b c p q r = rw (p, q, r)

traffic_held : (w : ℕ) → traffic_of w ≡ true → may_hold w ≡ true
unfolding may_hold
traffic_held w t = rw t

β-held : may_hold beta ≡ true
unfolding may_hold traffic_of meaning_of
β-held = refl

threes_are : (ws : List ℕ) → length ws ≤ first_not traffic_of ws → AllBlocks (in_threes ws)
threes_are [] h = tt
threes_are (a ∷ []) h = (three_held a beta beta (traffic_held a (all_head traffic_of a [] h).0) β-held β-held, tt)
threes_are (a ∷ b ∷ []) h =
    let p = all_head traffic_of a (b ∷ []) h in
    (three_held a b beta (traffic_held a p.0) (traffic_held b (all_head traffic_of b [] p.1).0) β-held, tt)
threes_are (a ∷ b ∷ c ∷ ws) h =
    let p = all_head traffic_of a (b ∷ c ∷ ws) h in
    let q = all_head traffic_of b (c ∷ ws) p.1 in
    let r = all_head traffic_of c ws q.1 in
    (three_held a b c (traffic_held a p.0) (traffic_held b q.0) (traffic_held c r.0), threes_are ws r.1)

keeping_are : (c : Code) → passes c ≡ true → AllBlocks (answer_keeping c)
unfolding passes answer_keeping is_block may_hold traffic_of meaning_of
keeping_are c p =
    all_both (in_threes (code_signals c)) (βββ ∷ βββ ∷ []) (threes_are (code_signals c) (leb-true _ _ (go (leb c.length 20) _ p))) (refl, (refl, tt))
  where
    go : (x y : Bool) → x && (leb (length (code_signals c)) (first_not traffic_of (code_signals c)) && y) ≡ true → leb (length (code_signals c)) (first_not traffic_of (code_signals c)) ≡ true
    go x y e = ((and-eq-true_iff _ y).0 ((and-eq-true_iff x _).0 e).1).0

answer_are : (c : Code) (o : Owed) → passes c ≡ true → AllBlocks (answer_of c o)
unfolding answer_of is_block may_hold traffic_of meaning_of
answer_are c Owed.Nothing p = tt
answer_are c (Owed.Back i) p = all_both (answer_keeping c) (figures+? ∷ []) (keeping_are c p) (refl, tt)
answer_are c (Owed.Keep i) p = keeping_are c p

pub owed_block : (c : Code) (o : Owed) → passes c ≡ true → is_block (block_owed c o) ≡ true
unfolding block_owed
owed_block c o p = all_at (answer_of c o) (owed_from o) (answer_are c o p)

-- an answer is not empty
some_left : (bs : List Words) (b : Words) (cs : List Words) → ltb 0 (length (bs ++ b ∷ cs)) ≡ true
some_left [] b cs = le-leb 1 (length (b ∷ cs)) (omega arith)
some_left (a ∷ bs) b cs = le-leb 1 (length (a ∷ bs ++ b ∷ cs)) (omega arith)

pub owed_for_exists : (c : Code) (l : Listening) → owed_exists c (owed_for l) ≡ true
unfolding owed_exists answer_of answer_keeping
owed_for_exists c l = go l.over
  where
    go : (t : Bool) → owed_exists c (if t then Owed.Keep 0 else Owed.Back 0) ≡ true
    go true = some_left (in_threes (code_signals c)) βββ (βββ ∷ [])
    go false = some_left (in_threes (code_signals c) ++ βββ ∷ βββ ∷ []) figures+? []

pub owed_then_exists : (c : Code) (o : Owed) → owed_exists c (owed_then c o) ≡ true
unfolding owed_exists owed_then answer_of
owed_then_exists c Owed.Nothing = refl
owed_then_exists c (Owed.Back i) = go (ltb (suc i) (length (answer_keeping c ++ figures+? ∷ []))) refl
  where
    go : (t : Bool) → ltb (suc i) (length (answer_keeping c ++ figures+? ∷ [])) ≡ t → owed_exists c (if t then Owed.Back (suc i) else Owed.Nothing) ≡ true
    go true e = e
    go false e = refl
owed_then_exists c (Owed.Keep i) = go (ltb (suc i) (length (answer_keeping c))) refl
  where
    go : (t : Bool) → ltb (suc i) (length (answer_keeping c)) ≡ t → owed_exists c (if t then Owed.Keep (suc i) else Owed.Nothing) ≡ true
    go true e = e
    go false e = refl
