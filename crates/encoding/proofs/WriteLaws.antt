-- A text turned into signals, from one character to the next. Assumes nothing.
use mathlib.Core.Path.{◌≡◌, refl, ap, sym, ◌∙◌}
use mathlib.Core.Bool.{true}
use mathlib.Core.List.{List, [], ◌∷◌}
use Prim.Native.Nat.{ℕ, zero, suc, ◌+◌, ◌-◌, ◌*◌, ◌<◌, ◌≤◌}
use native.Mathlib.Omega.{arith}
use lib.ListN.{length, get_or, set, drop}
use lib.Seq.{sets}
use Rattle.laws.specs.Room.{Wrote}
use Rattle.laws.proofs.Writes.{sets_append, wrote_then}
use Rattle.signals.specs.declared.Case.{Case}
use Rattle.signals.specs.declared.Case.TheVariants.{Letters, Figures}
use Rattle.signals.specs.declared.Row.{Row}
use Rattle.signals.specs.Cases.{shift_to, other}
use Rattle.signals.specs.Numbers.{first_not}
use Rattle.signals.proofs.NumberLaws.{all_head}
use Rattle.text.specs.Encoding.{has_signal, character_of, signals_for, case_after, encoded, ends_encoded}
use Rattle.characters.specs.Holder.{HasRow}
use Rattle.characters.proofs.CharacterLaws.{stands, shifts}
use Rattle.text.proofs.WalkLaws.{all_next, length_next, ends_next, all_end, ends_end}
use Rattle.text.proofs.EncodingLaws.{encoded_walk, encode_step, encode_after, encoded_le}

-- where every byte has a signal, the one at i has
pub has_at : (s : List ℕ) (i : ℕ) → length s ≤ first_not has_signal s → i < length s → has_signal (get_or s i 0) ≡ true
has_at [] i a h = absurd (omega arith)
has_at (x ∷ xs) zero a h = (all_head has_signal x xs a).0
has_at (x ∷ xs) (suc i) a h = has_at xs i (all_head has_signal x xs a).1 (omega arith)

other_than : (c d : Case) → (d ≡ c → ⊥) → d ≡ other c
other_than Letters Letters n = absurd (n refl)
other_than Letters Figures n = refl
other_than Figures Letters n = refl
other_than Figures Figures n = absurd (n refl)

-- what is written with a byte's signals, of which the signal is the last: a shift stands before it where the case changes
module _ (x : ℕ) (r : Row) (h : HasRow x r) (c d : Case) (is : d ≡ case_after c (character_of x)) (room : List ℕ) (at to : ℕ) (e : to ≡ at + length (signals_for c (character_of x))) where
  pub put_two : (d ≡ c → ⊥) → Wrote room at (signals_for c (character_of x)) to (set (set room at (shift_to d)) (to - 1) r.0)
  put_two n =
      let o : d ≡ other c = other_than c d n in
      let s : signals_for c (character_of x) ≡ shift_to d ∷ r.0 ∷ [] = shifts x r h c (sym is ∙ o) ∙ ap (λ (k : Case). shift_to k ∷ r.0 ∷ []) (sym o) in
      let l : to ≡ at + 2 = e ∙ ap (λ (s : List ℕ). at + length s) s in
      let p : to - 1 ≡ at + 1 = omega arith in
      rw (s, p)
      (wrote_then room at (shift_to d ∷ []) (r.0 ∷ []) (at + 1) to _ _
      (record { ended = refl; holds = refl })
      (record { ended = omega arith; holds = refl }))

  pub put_one : d ≡ c → Wrote room at (signals_for c (character_of x)) to (set room (to - 1) r.0)
  put_one o =
      let s : signals_for c (character_of x) ≡ r.0 ∷ [] = stands x r h c (sym is ∙ o) in
      let l : to ≡ at + 1 = e ∙ ap (λ (s : List ℕ). at + length s) s in
      let p : to - 1 ≡ at = omega arith in
      rw (s, p) (record { ended = l; holds = refl })

-- Before the character i: `at` signals so far, and the case d in force.
pub record Turning (text : List ℕ) (c : Case) (at : ℕ) (d : Case) (i : ℕ) : Type 0 where
  pub within : i ≤ length text
  pub count : at + length (encoded d (drop i text)) ≡ length (encoded c text)
  pub end : ends_encoded d (drop i text) ≡ ends_encoded c text

pub turn_starts : (text : List ℕ) (c : Case) → Turning text c 0 c 0
turn_starts text c = record { within = omega arith; count = omega arith; end = refl }

module _ (text : List ℕ) (c : Case) (at : ℕ) (d : Case) (i : ℕ) (t : Turning text c at d i) where
  pub turn_small : at ≤ 2 * length text
  turn_small = omega (arith, t.count, encoded_le c text)

  pub turn_count : length text ≤ i → at ≡ length (encoded c text)
  turn_count h =
      let e : i ≡ length text = omega (arith, t.within) in
      omega (arith, rw (e, all_end encoded ends_encoded encode_step encode_after encoded_walk d text) at t.count)

  pub turn_end : length text ≤ i → d ≡ ends_encoded c text
  turn_end h =
      let e : i ≡ length text = omega (arith, t.within) in
      rw (e, ends_end encoded ends_encoded encode_step encode_after encoded_walk d text) at t.end

  module _ (h : i < length text) where
    pub turn_next : (at' : ℕ) → at' ≡ at + length (signals_for d (character_of (get_or text i 0))) → (d' : Case) → d' ≡ case_after d (character_of (get_or text i 0)) → Turning text c at' d' (i + 1)
    turn_next at' ea d' ed =
        record {
          within = omega arith;
          count = rw ed (omega (arith, t.count, ea, length_next encoded ends_encoded encode_step encode_after encoded_walk text i h d));
          end = rw ed (sym (ends_next encoded ends_encoded encode_step encode_after encoded_walk text i h d) ∙ t.end);
        }

    pub turn_room : at + length (signals_for d (character_of (get_or text i 0))) ≤ length (encoded c text)
    turn_room = omega (arith, t.count, length_next encoded ends_encoded encode_step encode_after encoded_walk text i h d)

-- What is still to be written makes of the room what the whole text makes of it at first.
pub record Writing (text : List ℕ) (c : Case) (first : List ℕ) (room : List ℕ) (at : ℕ) (d : Case) (i : ℕ) : Type 0 where
  pub turning : Turning text c at d i
  pub holds : sets room at (encoded d (drop i text)) ≡ sets first 0 (encoded c text)
  pub same : length room ≡ length first

pub write_starts : (text : List ℕ) (c : Case) (room : List ℕ) → Writing text c room room 0 c 0
write_starts text c room = record { turning = turn_starts text c; holds = refl; same = refl }

module _ (text : List ℕ) (c : Case) (first room : List ℕ) (at : ℕ) (d : Case) (i : ℕ) (w : Writing text c first room at d i) where
  pub write_ends : length text ≤ i → Wrote first 0 (encoded c text) at room
  write_ends h =
      let e : i ≡ length text = omega (arith, w.turning.within) in
      record {
        ended = omega (arith, turn_count text c at d i w.turning h);
        holds = rw (e, all_end encoded ends_encoded encode_step encode_after encoded_walk d text) at w.holds;
      }

  pub write_next : i < length text → (at' : ℕ) (room' : List ℕ) → Wrote room at (signals_for d (character_of (get_or text i 0))) at' room' → length room' ≡ length room → (d' : Case) → d' ≡ case_after d (character_of (get_or text i 0)) → Writing text c first room' at' d' (i + 1)
  write_next h at' room' put k d' ed =
      record {
        turning = turn_next text c at d i w.turning h at' put.ended d' ed;
        holds =
            rw (ed, put.holds, put.ended)
            (sets_append room at (signals_for d (character_of (get_or text i 0))) (encoded (case_after d (character_of (get_or text i 0))) (drop (i + 1) text))
            ∙ ap (λ (l : List ℕ). sets room at l) (sym (all_next encoded ends_encoded encode_step encode_after encoded_walk text i h d))
            ∙ w.holds);
        same = k ∙ w.same;
      }
