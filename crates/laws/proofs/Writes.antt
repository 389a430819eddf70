-- Runs of stores: `sets l i vs` of `lib.Seq` is l with vs stored from i on. Assumes nothing.
use mathlib.Core.Path.{◌≡◌, ap, ◌∙◌, sym}
use mathlib.Core.List.{List, [], ◌∷◌, ◌++◌}
use Prim.Native.Nat.{ℕ, suc, ◌+◌, ◌≤◌}
use native.Mathlib.Nat.{add-zero, zero-add, add-suc, suc-add, add_assoc}
use lib.ListN.{length, set, length-append}
use lib.Seq.{sets, sets-eq}
use Rattle.laws.specs.Room.{over, Wrote}

-- one run after the other is the run of both
pub sets_append : (l : List ℕ) (i : ℕ) (vs ws : List ℕ) → sets (sets l i vs) (i + length vs) ws ≡ sets l i (vs ++ ws)
sets_append l i [] ws = ap (λ (k : ℕ). sets l k ws) (add-zero i)
sets_append l i (v ∷ vs) ws =
    ap (λ (k : ℕ). sets (sets (set l i v) (suc i) vs) k ws) (add-suc i (length vs) ∙ sym (suc-add i (length vs)))
    ∙ sets_append (set l i v) (suc i) vs ws

-- a run from the start of room that it fits is the room written over
pub sets_over : (room vs : List ℕ) → length vs ≤ length room → sets room 0 vs ≡ over vs room
sets_over room vs h = sets-eq vs room 0 (rw zero-add h) ∙ rw zero-add

pub wrote_then : (out : List ℕ) (to : ℕ) (l m : List ℕ) (r r' : ℕ) (mid after : List ℕ) → Wrote out to l r mid → Wrote mid r m r' after → Wrote out to (l ++ m) r' after
wrote_then out to l m r r' mid after a b = record {
  ended = b.ended ∙ ap (λ (k : ℕ). k + length m) a.ended ∙ add_assoc to (length l) (length m) ∙ ap (λ (k : ℕ). to + k) (sym (length-append l m));
  holds = b.holds ∙ ap (λ (d : List ℕ). sets d r m) a.holds ∙ ap (λ (k : ℕ). sets (sets out to l) k m) a.ended ∙ sets_append out to l m;
}
