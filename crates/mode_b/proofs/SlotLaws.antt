-- The slots of every text, by 01's sentences.  R-102, R-104, R-109, R-110
--     sent_twice          each position goes out in slot 2t and again in slot 2t+5
--     sent_twice_unique   no second list of slots does that
-- Assumes nothing.
use mathlib.Core.Path.{◌≡◌, refl, ap, sym, ◌∙◌}
use mathlib.Core.List.{List, [], ◌∷◌, ◌++◌}
use Prim.Native.Nat.{ℕ, zero, suc, ◌+◌, ◌*◌, ◌/◌, ◌%◌, ◌<◌, ◌≤◌}
use native.Mathlib.Omega.{arith}
use lib.ListN.{length, get_or, replicate, length-append, length-replicate}
use lib.Seq.{ext_get_or}
use Rattle.mode_b.specs.Sender.{Position, phasing, idle, dx_of, rx_of, carriage_return, line_feed, with_breaks, positions_of, slots_from, slots_of, SentTwice}

-- two slots a position
slots_length : (b l : Position) (ps : List Position) → length (slots_from b l ps) ≡ 2 * length ps
unfolding slots_from
slots_length b l [] = omega arith
slots_length b l (p ∷ ps) = omega (arith, slots_length l p ps)

slot_dx : (b l : Position) (ps : List Position) (t : ℕ) → t < length ps → get_or (slots_from b l ps) (2 * t) 0 ≡ dx_of (get_or ps t idle)
unfolding slots_from
slot_dx b l [] t h = absurd (omega arith)
slot_dx b l (p ∷ ps) zero h = refl
slot_dx b l (p ∷ ps) (suc t) h =
    let i : 2 * suc t ≡ suc (suc (2 * t)) = omega arith in
    rw i (slot_dx l p ps t (omega arith))

slot_rx : (b l : Position) (ps : List Position) (t : ℕ) → t < length ps → get_or (slots_from b l ps) (2 * t + 1) 0 ≡ rx_of (get_or (b ∷ l ∷ ps) t idle)
unfolding slots_from
slot_rx b l [] t h = absurd (omega arith)
slot_rx b l (p ∷ ps) zero h = refl
slot_rx b l (p ∷ ps) (suc t) h =
    let i : 2 * suc t + 1 ≡ suc (suc (2 * t + 1)) = omega arith in
    rw i (slot_rx l p ps t (omega arith))

module _ (text : List ℕ) where
  -- 16 phasing positions come first
  two_positions : 2 ≤ length (positions_of text)
  unfolding positions_of
  two_positions =
      omega (arith, length-append (replicate 16 phasing ++ with_breaks 0 (carriage_return ∷ line_feed ∷ text)) (replicate 17 idle), length-append (replicate 16 phasing) (with_breaks 0 (carriage_return ∷ line_feed ∷ text)), length-replicate 16 phasing)

  count : length (slots_of text) ≡ 2 * length (positions_of text)
  unfolding slots_of
  count = slots_length idle idle (positions_of text)

  pub sent_twice : SentTwice (positions_of text) (slots_of text)
  unfolding slots_of
  sent_twice =
      record {
        two_slots_each = count;
        dx = slot_dx idle idle (positions_of text);
        rx = λ t h.
            let i : 2 * t + 5 ≡ 2 * suc (suc t) + 1 = omega arith in
            ap (λ (m : ℕ). get_or (slots_from idle idle (positions_of text)) m 0) i ∙ slot_rx idle idle (positions_of text) (suc (suc t)) (omega (arith, count));
        before_0 = (slot_rx idle idle (positions_of text) 0 (omega (arith, two_positions)), slot_rx idle idle (positions_of text) 1 (omega (arith, two_positions)));
        last = λ t h. omega (arith, count);
      }

-- every slot is told by one of the sentences
pub sent_twice_unique : (ps : List Position) (l k : List ℕ) → SentTwice ps l → SentTwice ps k → l ≡ k
sent_twice_unique ps l k s u = ext_get_or 0 l k (s.two_slots_each ∙ sym u.two_slots_each) (λ m h. by m h (m % 2) refl)
  where
    at : (m n : ℕ) → m ≡ n → get_or l n 0 ≡ get_or k n 0 → get_or l m 0 ≡ get_or k m 0
    at m n i e = rw i e

    odd : (t m : ℕ) → m ≡ 2 * t + 1 → m < length l → get_or l m 0 ≡ get_or k m 0
    odd zero m i h = at m 1 (omega arith) (s.before_0.0 ∙ sym u.before_0.0)
    odd (suc zero) m i h = at m 3 (omega arith) (s.before_0.1 ∙ sym u.before_0.1)
    odd (suc (suc t)) m i h =
        at m (2 * t + 5) (omega arith) (s.rx t (omega arith) ∙ sym (u.rx t (omega (arith, s.two_slots_each, u.two_slots_each))))

    by : (m : ℕ) → m < length l → (r : ℕ) → m % 2 ≡ r → get_or l m 0 ≡ get_or k m 0
    by m h zero e =
        at m (2 * (m / 2)) (omega arith) (s.dx (m / 2) (omega (arith, s.two_slots_each)) ∙ sym (u.dx (m / 2) (omega (arith, s.two_slots_each))))
    by m h (suc r) e = odd (m / 2) m (omega arith) h
