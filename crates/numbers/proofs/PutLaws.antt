-- Bytes put into lent room, one run behind the other. Assumes nothing.
use mathlib.Core.Path.{◌≡◌, refl, ap, sym, ◌∙◌}
use mathlib.Core.Bool.{Bool, true, false}
use mathlib.Core.List.{List, [], ◌∷◌, ◌++◌}
use Prim.Native.Nat.{ℕ, suc, ◌+◌, ◌≤◌, ◌<◌}
use native.Mathlib.Omega.{arith}
use native.Mathlib.Numerals.{add-one}
use lib.Dec.{leb}
use lib.ListN.{length, length-append, get_or, take}
use lib.Seq.{sets, length-sets, set_out, take-suc}
use borrow.Author.Tests.{leb-true, leb-false}
use Rattle.laws.proofs.Writes.{sets_append}
use Rattle.numbers.specs.declared.Room.{Room}
use Rattle.numbers.specs.Writing.{Puts, PutsOn}

-- past the end nothing is stored
pub sets_out : (room : List ℕ) (at : ℕ) (bytes : List ℕ) → length room ≤ at → sets room at bytes ≡ room
sets_out room at [] h = refl
sets_out room at (b ∷ bs) h =
    ap (λ (l : List ℕ). sets l (suc at) bs) (set_out room at b h) ∙ sets_out room (suc at) bs (omega arith)

pub puts_none : (room : List ℕ) (at : ℕ) → Puts room at [] at room
puts_none room at = record { ended = omega arith; holds = refl }

-- two runs that begin at one place, or both past the end
same_store : (room : List ℕ) (at at' : ℕ) (bytes : List ℕ) (fits : Bool) → leb (suc at) (length room) ≡ fits → (at < length room → at' ≡ at) → (length room ≤ at → length room ≤ at') → sets room at' bytes ≡ sets room at bytes
same_store room at at' bytes true t e o = rw (e (leb-true (suc at) (length room) t))
same_store room at at' bytes false t e o =
    let past : length room ≤ at = omega (arith, leb-false (suc at) (length room) t) in
    sets_out room at' bytes (o past) ∙ sym (sets_out room at bytes past)

pub puts_then : {room : List ℕ} {at : ℕ} {l m : List ℕ} {r r' : ℕ} {mid after : List ℕ} → Puts room at l r mid → Puts mid r m r' after → Puts room at (l ++ m) r' after
puts_then {room} {at} {l} {m} {r} {r'} {mid} {after} p q =
    let long : length mid ≡ length room = ap length p.holds ∙ length-sets room at l in
    record {
      ended = omega (arith, p.ended, q.ended, length-append l m);
      holds =
          q.holds
          ∙ same_store mid (at + length l) r m (leb (suc (at + length l)) (length mid)) refl (λ h. omega (arith, p.ended)) (λ h. omega (arith, p.ended))
          ∙ ap (λ (s : List ℕ). sets s (at + length l) m) p.holds
          ∙ sets_append room at l m;
    }

-- the same of a `Room`
pub puts_on_none : (l : Room) → PutsOn l [] l
puts_on_none l = record { puts = puts_none l.room.now l.at; same_reference = refl }

pub puts_on_then : {a b c : Room} {l m : List ℕ} → PutsOn a l b → PutsOn b m c → PutsOn a (l ++ m) c
puts_on_then p q = record { puts = puts_then p.puts q.puts; same_reference = q.same_reference ∙ p.same_reference }

-- one byte more of those that are put
pub put_more : (a b c : Room) (bytes : List ℕ) (i : ℕ) → i < length bytes → PutsOn a (take i bytes) b → PutsOn b (get_or bytes i 0 ∷ []) c → PutsOn a (take (i + 1) bytes) c
put_more a b c bytes i h p q = rw (add-one, take-suc bytes i 0 h) (puts_on_then p q)
