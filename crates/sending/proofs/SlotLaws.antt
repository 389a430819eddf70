-- A slot of the list, by number; and the promise of the sender's call at each answer. Assumes nothing.
use mathlib.Core.Path.{◌≡◌, refl, ap, sym, ◌∙◌}
use mathlib.Core.Bool.{Bool, true, false}
use mathlib.Core.List.{List, [], ◌∷◌, ◌++◌, append_assoc}
use Prim.Native.Nat.{ℕ, zero, suc, ◌+◌, ◌*◌, ◌-◌, ◌/◌, ◌%◌, ◌<◌, ◌≤◌}
use native.Mathlib.Omega.{arith}
use lib.Dec.{ltb}
use lib.ListN.{length, get_or, replicate, length-append, length-replicate, get_or-replicate, get_or-append}
use lib.Seq.{get_or-append-add}
use borrow.Author.Tests.{lt-ltb, le-ltb, ltb-true, ltb-false}
use Rattle.std.specs.Prelude.{if◌then◌else◌, Ok, Err}
use Rattle.signals.specs.Meaning.{traffic_of, alpha}
use Rattle.signals.specs.Numbers.{first_not}
use Rattle.mode_b.specs.declared.SlotError.{SlotError}
use Rattle.mode_b.specs.Sender.{Position, phasing, idle, dx_of, rx_of, with_breaks, positions_of, slots_of, slotting, Slots}
use Rattle.mode_b.proofs.SlotLaws.{sent_twice}
use Rattle.sending.specs.declared.At.{At}
use Rattle.sending.specs.Places.{sent_text, count_of, in_group, at_of, by_at}
use Rattle.sending.proofs.BreakLaws.{place_of, place_at, place_count}

-- what is behind the traffic positions is α, and so is what is behind the last
idle_behind : (ps : List Position) (n q : ℕ) → get_or (ps ++ replicate n idle) q idle ≡ get_or ps q idle
idle_behind [] n q = go n q
  where
    go : (n q : ℕ) → get_or (replicate n idle) q idle ≡ idle
    go zero q = refl
    go (suc n) zero = refl
    go (suc n) (suc q) = go n q
idle_behind (p ∷ ps) n zero = refl
idle_behind (p ∷ ps) n (suc q) = idle_behind ps n q

by_place : (text : List ℕ) (a : At) → place_of (sent_text text) a ≡ by_at text a
by_place text At.Phasing = refl
by_place text (At.Traffic i) = refl
by_place text At.Idle = refl

module _ (text : List ℕ) where
  sent_length : length (sent_text text) ≡ length text + 2
  sent_length = omega arith

  pub position_at : (t : ℕ) → get_or (positions_of text) t idle ≡ by_at text (at_of (length text + 2) t)
  unfolding positions_of at_of
  position_at t =
      ap (λ (l : List Position). get_or l t idle) (append_assoc (replicate 16 phasing) (with_breaks 0 (sent_text text)) (replicate 17 idle))
      ∙ go (ltb t 16) refl
    where
      go : (v : Bool) → ltb t 16 ≡ v → get_or (replicate 16 phasing ++ (with_breaks 0 (sent_text text) ++ replicate 17 idle)) t idle ≡ by_at text (if ltb t 16 then At.Phasing else in_group (length text + 2) ((t - 16) / 100) ((t - 16) % 100))
      go true e =
          let h = ltb-true t 16 e in
          rw e
          (get_or-append (replicate 16 phasing) (with_breaks 0 (sent_text text) ++ replicate 17 idle) idle t h
          ∙ get_or-replicate 16 t phasing idle h)
      go false e =
          let h = ltb-false t 16 e in
          let i : 16 + (t - 16) ≡ t = omega arith in
          rw e
          (ap (λ (t : ℕ). get_or (replicate 16 phasing ++ (with_breaks 0 (sent_text text) ++ replicate 17 idle)) t idle) (sym i)
          ∙ get_or-append-add (replicate 16 phasing) (with_breaks 0 (sent_text text) ++ replicate 17 idle) (t - 16) idle
          ∙ idle_behind (with_breaks 0 (sent_text text)) 17 (t - 16)
          ∙ place_at (sent_text text) (t - 16)
          ∙ by_place text (in_group (length (sent_text text)) ((t - 16) / 100) ((t - 16) % 100))
          ∙ ap (λ (n : ℕ). by_at text (in_group n ((t - 16) / 100) ((t - 16) % 100))) sent_length)

  positions_count : length (positions_of text) ≡ count_of (length text + 2)
  unfolding positions_of
  positions_count =
      omega (arith, length-append (replicate 16 phasing ++ with_breaks 0 (sent_text text)) (replicate 17 idle), length-append (replicate 16 phasing) (with_breaks 0 (sent_text text)), place_count (sent_text text), sent_length, length-replicate 16 phasing, length-replicate 17 idle)

  pub slots_count : length (slots_of text) ≡ 2 * count_of (length text + 2)
  slots_count = (sent_twice text).two_slots_each ∙ ap (λ (n : ℕ). 2 * n) positions_count

  -- the word of a slot
  module _ (t : ℕ) (h : t < count_of (length text + 2)) where
    pub dx_word : get_or (slots_of text) (2 * t) 0 ≡ dx_of (by_at text (at_of (length text + 2) t))
    dx_word = (sent_twice text).dx t (omega (arith, positions_count)) ∙ ap dx_of (position_at t)

    pub rx_word : 2 ≤ t → get_or (slots_of text) (2 * t + 1) 0 ≡ rx_of (by_at text (at_of (length text + 2) (t - 2)))
    rx_word g =
        let i : 2 * t + 1 ≡ 2 * (t - 2) + 5 = omega arith in
        ap (λ (m : ℕ). get_or (slots_of text) m 0) i
        ∙ (sent_twice text).rx (t - 2) (omega (arith, slots_count))
        ∙ ap rx_of (position_at (t - 2))

    pub first_rx_word : t < 2 → get_or (slots_of text) (2 * t + 1) 0 ≡ alpha
    first_rx_word g = two t g
      where
        two : (t : ℕ) → t < 2 → get_or (slots_of text) (2 * t + 1) 0 ≡ alpha
        two zero g = (sent_twice text).before_0.0
        two (suc zero) g = (sent_twice text).before_0.1
        two (suc (suc t)) g = absurd (omega arith)

  -- the promise at each answer
  pub too_long : (m : ℕ) → 8192 < length text → Slots text m (Err SlotError.TooLong)
  unfolding slotting
  too_long m a = rw (lt-ltb 8192 (length text) a)

  module _ (a : length text ≤ 8192) (m : ℕ) where
    pub bad_word : (i : ℕ) → i ≡ first_not traffic_of text → i < length text → Slots text m (Err (SlotError.BadWord i))
    unfolding slotting
    bad_word i e b =
        rw (e, le-ltb 8192 (length text) a, lt-ltb (first_not traffic_of text) (length text) (rw e at b))

    module _ (b : length text ≤ first_not traffic_of text) where
      pub past_last : (n : ℕ) → n ≡ 2 * count_of (length text + 2) → n ≤ m → Slots text m (Err (SlotError.PastLast n))
      unfolding slotting
      past_last n e c =
          rw (e, le-ltb 8192 (length text) a, le-ltb (first_not traffic_of text) (length text) b, slots_count, le-ltb m (2 * count_of (length text + 2)) (rw e at c))

      pub word_told : m < 2 * count_of (length text + 2) → (w : ℕ) → w ≡ get_or (slots_of text) m 0 → Slots text m (Ok w)
      unfolding slotting
      word_told c w e =
          rw (e, le-ltb 8192 (length text) a, le-ltb (first_not traffic_of text) (length text) b, slots_count, lt-ltb m (2 * count_of (length text + 2)) c)

-- an index told is one of a traffic signal
pub index_lt : (n t i : ℕ) → at_of n t ≡ At.Traffic i → i < n
unfolding at_of
index_lt n t i e = go (ltb t 16) (ltb ((t - 16) % 100) 96) (ltb ((t - 16) / 100 * 96 + (t - 16) % 100) n) (ltb ((t - 16) / 100 * 96 + 96) n) refl e
  where
    never : {A : Type 0} → ◌≡◌ {A = ℕ} 0 1 → A
    never z = absurd (omega arith)

    go : (a b c d : Bool) → ltb ((t - 16) / 100 * 96 + (t - 16) % 100) n ≡ c → (if a then At.Phasing else if b then (if c then At.Traffic ((t - 16) / 100 * 96 + (t - 16) % 100) else At.Idle) else if d then At.Phasing else At.Idle) ≡ At.Traffic i → i < n
    go true b c d p e = never (cc)
    go false true true d p e =
        let v : (t - 16) / 100 * 96 + (t - 16) % 100 ≡ i = cc in
        let h = ltb-true ((t - 16) / 100 * 96 + (t - 16) % 100) n p in
        omega arith
    go false true false d p e = never (cc)
    go false false c true p e = never (cc)
    go false false c false p e = never (cc)

-- behind return and line feed comes the text
pub text_at : (text : List ℕ) (i : ℕ) → (i ≡ 0 → ⊥) → (i ≡ 1 → ⊥) → get_or (sent_text text) i 0 ≡ get_or text (i - 2) 0
text_at text i a b = let e : i ≡ suc (suc (i - 2)) = omega arith in ap (λ (i : ℕ). get_or (sent_text text) i 0) e

-- the slots by their numbers: even ones are DX, odd ones RX
module _ (text : List ℕ) (m : ℕ) (h : m < 2 * count_of (length text + 2)) where
  pub even_slot : m % 2 ≡ 0 → dx_of (by_at text (at_of (length text + 2) (m / 2))) ≡ get_or (slots_of text) m 0
  even_slot e =
      let i : m ≡ 2 * (m / 2) = omega arith in
      sym (ap (λ (m : ℕ). get_or (slots_of text) m 0) i ∙ dx_word text (m / 2) (omega arith))

  module _ (o : m % 2 ≡ 0 → ⊥) where
    odd : m ≡ 2 * (m / 2) + 1
    odd = omega arith

    pub odd_slot : 2 ≤ m / 2 → rx_of (by_at text (at_of (length text + 2) (m / 2 - 2))) ≡ get_or (slots_of text) m 0
    odd_slot g = sym (ap (λ (m : ℕ). get_or (slots_of text) m 0) odd ∙ rx_word text (m / 2) (omega arith) g)

    pub first_odd_slot : m / 2 < 2 → alpha ≡ get_or (slots_of text) m 0
    first_odd_slot g = sym (ap (λ (m : ℕ). get_or (slots_of text) m 0) odd ∙ first_rx_word text (m / 2) (omega arith) g)
