-- What the rows ask of a burst is what they ask of its kind and of what stands beside it: the eighteen kinds are a partition fine enough
-- for every row but Stand-by's, Identifying's and Answering's, which ask one thing more (02, T-02 and T-05). Assumes nothing.
use mathlib.Core.Path.{◌≡◌, refl, ap, sym, subst, ◌∙◌}
use mathlib.Core.Bool.{Bool, true, false, ◌&&◌}
use Prim.Native.Nat.{ℕ}
use native.Mathlib.Omega.{arith}
use lib.Dec.{eqb}
use borrow.Author.Tests.{eqb-true}
use Rattle.std.specs.Prelude.{if◌then◌else◌}
use Rattle.signals.specs.Meaning.{meaning_of, traffic_of, rq, cs1, cs2, cs3, cs4, cs5}
use Rattle.identity.specs.Table3.{is_identity}
use Rattle.mode_a.specs.declared.Number.TheVariants.{One, Two}
use Rattle.mode_a.specs.declared.Words.{Words}
use Rattle.mode_a.specs.declared.Own.{Own}
use Rattle.mode_a.specs.Station.{βαβ, ααα, RQ×3}
use Rattle.mode_a.specs.Heard.{First, Cs, Cs4, Cs5, Letter, Other, further_of, first_of, may_hold, is_block, is_words, heard_of}
use Rattle.mode_a.proofs.HeardLaws.{Says, first_says}
use Rattle.table.specs.declared.Kind.{Kind}
use Rattle.table.specs.Kinds.{Beside, kind_of, beside_of, heard_k, block_kind, rest_kind}

-- a law of every kind, from the law of each
pub by_kind : (P : Kind → Type 0) → P Kind.Cs1Block → P Kind.Cs1 → P Kind.Cs2Block → P Kind.Cs2 → P Kind.Cs3Block → P Kind.Cs3 → P Kind.Cs4Block → P Kind.Cs4 → P Kind.Cs5Block → P Kind.Cs5 → P Kind.LetterBlock → P Kind.Letter → P Kind.Rqs → P Kind.Rq → P Kind.Block → P Kind.Turn → P Kind.Alphas → P Kind.Else → (k : Kind) → P k
by_kind P a b c d e f g h i j k l m n o p q r Kind.Cs1Block = a
by_kind P a b c d e f g h i j k l m n o p q r Kind.Cs1 = b
by_kind P a b c d e f g h i j k l m n o p q r Kind.Cs2Block = c
by_kind P a b c d e f g h i j k l m n o p q r Kind.Cs2 = d
by_kind P a b c d e f g h i j k l m n o p q r Kind.Cs3Block = e
by_kind P a b c d e f g h i j k l m n o p q r Kind.Cs3 = f
by_kind P a b c d e f g h i j k l m n o p q r Kind.Cs4Block = g
by_kind P a b c d e f g h i j k l m n o p q r Kind.Cs4 = h
by_kind P a b c d e f g h i j k l m n o p q r Kind.Cs5Block = i
by_kind P a b c d e f g h i j k l m n o p q r Kind.Cs5 = j
by_kind P a b c d e f g h i j k l m n o p q r Kind.LetterBlock = k
by_kind P a b c d e f g h i j k l m n o p q r Kind.Letter = l
by_kind P a b c d e f g h i j k l m n o p q r Kind.Rqs = m
by_kind P a b c d e f g h i j k l m n o p q r Kind.Rq = n
by_kind P a b c d e f g h i j k l m n o p q r Kind.Block = o
by_kind P a b c d e f g h i j k l m n o p q r Kind.Turn = p
by_kind P a b c d e f g h i j k l m n o p q r Kind.Alphas = q
by_kind P a b c d e f g h i j k l m n o p q r Kind.Else = r

and_left : (a b : Bool) → a && b ≡ true → a ≡ true
and_left true b e = refl
and_left false b e = e

and_right : (a b : Bool) → a && b ≡ true → b ≡ true
and_right true b e = e
and_right false b e = cc

never : true ≡ false → ⊥
never e = let z : ◌≡◌ {A = ℕ} 0 1 = cc in omega arith

-- no block has 0 for its second word
pub no_block_at_0 : (w : ℕ) → w ≡ 0 → may_hold w ≡ false
unfolding may_hold traffic_of meaning_of
no_block_at_0 w e = rw e

pub words_are : (b w : Words) → is_words b w ≡ true → b ≡ w
unfolding is_words
words_are b w e =
    let r = and_right (eqb b.0 w.0) (eqb b.1 w.1 && eqb b.2 w.2) e in
    let x = eqb-true b.0 w.0 (and_left (eqb b.0 w.0) (eqb b.1 w.1 && eqb b.2 w.2) e) in
    let y = eqb-true b.1 w.1 (and_left (eqb b.1 w.1) (eqb b.2 w.2) r) in
    let z = eqb-true b.2 w.2 (and_right (eqb b.1 w.1) (eqb b.2 w.2) r) in
    λ i. record { 0 = x i; 1 = y i; 2 = z i }

-- a block is none of the bursts that are no block
apart : (b w : Words) → is_block b ≡ true → is_block w ≡ false → is_words b w ≡ false
apart b w e f = go (is_words b w) refl
  where
    go : (t : Bool) → is_words b w ≡ t → t ≡ false
    go true p = absurd (never (sym e ∙ ap is_block (words_are b w p) ∙ f))
    go false p = refl

-- and does not begin with RQ
not_rq_lem : (b : Words) → is_block b ≡ true → first_of b.0 ≡ First.Rq → ⊥
unfolding is_block may_hold traffic_of meaning_of
not_rq_lem b e f =
    let r : b.0 ≡ rq = subst (Says b.0) f (first_says b.0) in
    let m = and_left (may_hold b.0) (may_hold b.1 && may_hold b.2) e in
    never (sym m ∙ ap may_hold r)

-- the letter that comes first is the first word
first_letter : (w v : ℕ) → first_of w ≡ First.Else (Letter v) → w ≡ v
unfolding first_of further_of
first_letter w v = go (eqb w cs1) (eqb w cs2) (eqb w cs3) (eqb w rq) (eqb w cs4) (eqb w cs5) (is_identity w)
  where
    go : (a b c d e f g : Bool) → (if a then Cs One else if b then Cs Two else if c then First.Cs3 else if d then First.Rq else First.Else (if e then Cs4 else if f then Cs5 else if g then Letter w else Other)) ≡ First.Else (Letter v) → w ≡ v
    go true b c d e f g q = cc
    go false true c d e f g q = cc
    go false false true d e f g q = cc
    go false false false true e f g q = cc
    go false false false false true f g q = cc
    go false false false false false true g q = cc
    go false false false false false false true q = cc
    go false false false false false false false q = cc

-- s stands beside the kind, and its letter is the one that comes first, if one does
module _ (s : Beside) where
  abbrev Lettered : First → Type 0
  Lettered f = (v : ℕ) → f ≡ First.Else (Letter v) → s.letter ≡ v

  by_block_lem : (f : First) → (f ≡ First.Rq → ⊥) → Lettered f → record { first = f; block = true; RQs = false; alphas = false; turned = false; call = s.call; call3 = s.call3; told = s.told } ≡ heard_k s (block_kind f)
  by_block_lem (Cs One) n l = refl
  by_block_lem (Cs Two) n l = refl
  by_block_lem First.Cs3 n l = refl
  by_block_lem First.Rq n l = absurd (n refl)
  by_block_lem (First.Else Cs4) n l = refl
  by_block_lem (First.Else Cs5) n l = refl
  by_block_lem (First.Else (Letter v)) n l = rw (l v refl)
  by_block_lem (First.Else Other) n l = refl

  by_rest : (f : First) → Lettered f → record { first = f; block = false; RQs = false; alphas = false; turned = false; call = s.call; call3 = s.call3; told = s.told } ≡ heard_k s (rest_kind f)
  by_rest (Cs One) l = refl
  by_rest (Cs Two) l = refl
  by_rest First.Cs3 l = refl
  by_rest First.Rq l = refl
  by_rest (First.Else Cs4) l = refl
  by_rest (First.Else Cs5) l = refl
  by_rest (First.Else (Letter v)) l = rw (l v refl)
  by_rest (First.Else Other) l = refl

module _ (own : Own) (b : Words) where
  -- a burst that is one of the three named
  named : (w : Words) → is_words b w ≡ true → heard_of own w ≡ heard_k (beside_of own w) (kind_of w) → heard_of own b ≡ heard_k (beside_of own b) (kind_of b)
  named w e h = subst (λ (w : Words). heard_of own w ≡ heard_k (beside_of own w) (kind_of w)) (sym (words_are b w e)) h

  cases : (p q r s : Bool) → is_block b ≡ p → is_words b RQ×3 ≡ q → is_words b ααα ≡ r → is_words b βαβ ≡ s → heard_of own b ≡ heard_k (beside_of own b) (kind_of b)
  unfolding heard_of kind_of beside_of is_block may_hold traffic_of meaning_of is_words first_of further_of is_identity
  cases true q r s ep eq er es =
      rw (ep, apart b RQ×3 ep refl, apart b ααα ep refl, apart b βαβ ep refl) (by_block_lem (beside_of own b) (first_of b.0) (not_rq_lem b ep) (first_letter b.0))
  cases false true r s ep eq er es = named RQ×3 eq refl
  cases false false true s ep eq er es = named ααα er refl
  cases false false false true ep eq er es = named βαβ es refl
  cases false false false false ep eq er es =
      rw (ep, eq, er, es) (by_rest (beside_of own b) (first_of b.0) (first_letter b.0))

  pub heard_kind : heard_of own b ≡ heard_k (beside_of own b) (kind_of b)
  heard_kind = cases (is_block b) (is_words b RQ×3) (is_words b ααα) (is_words b βαβ) refl refl refl refl
