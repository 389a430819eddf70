-- The traffic positions with their breaks, by number: each 100 positions are 96 of traffic and a break of four, while more traffic
-- follows. Assumes nothing.
use mathlib.Core.Path.{◌≡◌, refl, ap, sym, ◌∙◌}
use mathlib.Core.Bool.{Bool, true, false}
use mathlib.Core.List.{List, [], ◌∷◌, ◌++◌, map}
use Prim.Native.Nat.{ℕ, zero, suc, ◌+◌, ◌*◌, ◌-◌, ◌/◌, ◌%◌, ◌<◌, ◌≤◌}
use native.Mathlib.Omega.{arith}
use lib.Dec.{ltb}
use lib.ListN.{length, get_or, take, drop, replicate, length-append, length-take, length-drop, length-map, get_or-replicate, get_or-append}
use lib.Seq.{get_or-append-add, get_or-take, get_or-drop, split_at, drop-cons}
use borrow.Author.Tests.{eq-eqb, ne_eqb, lt-ltb, le-ltb, ltb-true, ltb-false}
use Rattle.mode_b.specs.Sender.{Position, phasing, signal, idle, with_breaks}
use Rattle.sending.specs.declared.At.{At}
use Rattle.sending.specs.Places.{in_group}

-- fewer than fit before the next break
no_break : (k : ℕ) (ws : List ℕ) → k + length ws ≤ 96 → with_breaks k ws ≡ map signal ws
unfolding with_breaks
no_break k [] h = refl
no_break k (w ∷ ws) h =
    rw (ne_eqb k 96 (λ e. omega arith)) (ap (λ (l : List Position). signal w ∷ l) (no_break (k + 1) ws (omega arith)))

-- as many as fit, and more behind them
one_break : (k : ℕ) (us : List ℕ) (v : ℕ) (vs : List ℕ) → k + length us ≡ 96 → with_breaks k (us ++ v ∷ vs) ≡ map signal us ++ (replicate 4 phasing ++ with_breaks 0 (v ∷ vs))
unfolding with_breaks
one_break k [] v vs h = rw (eq-eqb k 96 (omega arith))
one_break k (u ∷ us) v vs h =
    rw (ne_eqb k 96 (λ e. omega arith)) (ap (λ (l : List Position). signal u ∷ l) (one_break (k + 1) us v vs (omega arith)))

-- what stands there, of a list of traffic signals
abbrev pub place_of : List ℕ → At → Position
place_of ws At.Phasing = phasing
place_of ws (At.Traffic i) = signal (get_or ws i 0)
place_of ws At.Idle = idle

abbrev pub place_in : List ℕ → ℕ → Position
place_in ws q = place_of ws (in_group (length ws) (q / 100) (q % 100))

signal_at_lem : (ws : List ℕ) (q : ℕ) → q < length ws → get_or (map signal ws) q idle ≡ signal (get_or ws q 0)
signal_at_lem [] q h = absurd (omega arith)
signal_at_lem (w ∷ ws) zero h = refl
signal_at_lem (w ∷ ws) (suc q) h = signal_at_lem ws q (omega arith)

signal_past : (ws : List ℕ) (q : ℕ) → length ws ≤ q → get_or (map signal ws) q idle ≡ idle
signal_past [] q h = refl
signal_past (w ∷ ws) zero h = absurd (omega arith)
signal_past (w ∷ ws) (suc q) h = signal_past ws q (omega arith)

-- the place by its group and the rest: the four answers
module _ (ws : List ℕ) (g r : ℕ) where
  traffic_place : r < 96 → g * 96 + r < length ws → place_of ws (in_group (length ws) g r) ≡ signal (get_or ws (g * 96 + r) 0)
  traffic_place a b = rw (lt-ltb r 96 a, lt-ltb (g * 96 + r) (length ws) b)

  after_place : r < 96 → length ws ≤ g * 96 + r → place_of ws (in_group (length ws) g r) ≡ idle
  after_place a b = rw (lt-ltb r 96 a, le-ltb (g * 96 + r) (length ws) b)

  break_place : 96 ≤ r → g * 96 + 96 < length ws → place_of ws (in_group (length ws) g r) ≡ phasing
  break_place a b = rw (le-ltb r 96 a, lt-ltb (g * 96 + 96) (length ws) b)

  end_place : 96 ≤ r → length ws ≤ g * 96 + 96 → place_of ws (in_group (length ws) g r) ≡ idle
  end_place a b = rw (le-ltb r 96 a, le-ltb (g * 96 + 96) (length ws) b)

-- a group later is the same place of the list without its first 96
later : (ws : List ℕ) (g r : ℕ) → 96 < length ws → place_of ws (in_group (length ws) (g + 1) r) ≡ place_of (drop 96 ws) (in_group (length (drop 96 ws)) g r)
later ws g r h = go (ltb r 96) refl
  where
    size : length (drop 96 ws) ≡ length ws - 96
    size = length-drop 96 ws

    go : (t : Bool) → ltb r 96 ≡ t → place_of ws (in_group (length ws) (g + 1) r) ≡ place_of (drop 96 ws) (in_group (length (drop 96 ws)) g r)
    go true e = inner (ltb (g * 96 + r) (length ws - 96)) refl
      where
        inner : (v : Bool) → ltb (g * 96 + r) (length ws - 96) ≡ v → place_of ws (in_group (length ws) (g + 1) r) ≡ place_of (drop 96 ws) (in_group (length (drop 96 ws)) g r)
        inner true p =
            let a = ltb-true r 96 e in
            let b = ltb-true (g * 96 + r) (length ws - 96) p in
            let i : (g + 1) * 96 + r ≡ 96 + (g * 96 + r) = omega arith in
            traffic_place ws (g + 1) r a (omega arith)
            ∙ ap signal (ap (λ (i : ℕ). get_or ws i 0) i ∙ sym (get_or-drop 96 ws (g * 96 + r) 0))
            ∙ sym (traffic_place (drop 96 ws) g r a (omega (arith, size)))
        inner false p =
            let a = ltb-true r 96 e in
            let b = ltb-false (g * 96 + r) (length ws - 96) p in
            after_place ws (g + 1) r a (omega arith) ∙ sym (after_place (drop 96 ws) g r a (omega (arith, size)))
    go false e = inner (ltb (g * 96 + 96) (length ws - 96)) refl
      where
        inner : (v : Bool) → ltb (g * 96 + 96) (length ws - 96) ≡ v → place_of ws (in_group (length ws) (g + 1) r) ≡ place_of (drop 96 ws) (in_group (length (drop 96 ws)) g r)
        inner true p =
            let a = ltb-false r 96 e in
            let b = ltb-true (g * 96 + 96) (length ws - 96) p in
            break_place ws (g + 1) r a (omega arith) ∙ sym (break_place (drop 96 ws) g r a (omega (arith, size)))
        inner false p =
            let a = ltb-false r 96 e in
            let b = ltb-false (g * 96 + 96) (length ws - 96) p in
            end_place ws (g + 1) r a (omega arith) ∙ sym (end_place (drop 96 ws) g r a (omega (arith, size)))

-- a list that no break parts
short_at : (ws : List ℕ) (q : ℕ) → length ws ≤ 96 → get_or (map signal ws) q idle ≡ place_in ws q
short_at ws q h = go (ltb q (length ws)) refl
  where
    go : (t : Bool) → ltb q (length ws) ≡ t → get_or (map signal ws) q idle ≡ place_in ws q
    go true e =
        let a = ltb-true q (length ws) e in
        let i : q / 100 * 96 + q % 100 ≡ q = omega arith in
        signal_at_lem ws q a
        ∙ ap (λ (i : ℕ). signal (get_or ws i 0)) (sym i)
        ∙ sym (traffic_place ws (q / 100) (q % 100) (omega arith) (omega arith))
    go false e = rest (ltb (q % 100) 96) refl
      where
        rest : (v : Bool) → ltb (q % 100) 96 ≡ v → get_or (map signal ws) q idle ≡ place_in ws q
        rest true p =
            let a = ltb-false q (length ws) e in
            let b = ltb-true (q % 100) 96 p in
            signal_past ws q a ∙ sym (after_place ws (q / 100) (q % 100) b (omega arith))
        rest false p =
            let a = ltb-false q (length ws) e in
            let b = ltb-false (q % 100) 96 p in
            signal_past ws q a ∙ sym (end_place ws (q / 100) (q % 100) b (omega arith))

append_at : (xs ys : List Position) (n j : ℕ) → length xs ≡ n → get_or (xs ++ ys) (n + j) idle ≡ get_or ys j idle
append_at xs ys n j e = rw (← e) (get_or-append-add xs ys j idle)

-- the list with its first break
module _ (ws : List ℕ) (h : 96 < length ws) where
  first_96 : length (map signal (take 96 ws)) ≡ 96
  first_96 = omega (arith, length-map (take 96 ws) signal, length-take 96 ws)

  parted : with_breaks 0 ws ≡ map signal (take 96 ws) ++ (replicate 4 phasing ++ with_breaks 0 (drop 96 ws))
  parted =
      ap (with_breaks 0) (split_at ws 96 0 h)
      ∙ one_break 0 (take 96 ws) (get_or ws 96 0) (drop 97 ws) (omega (arith, length-take 96 ws))
      ∙ ap (λ (l : List ℕ). map signal (take 96 ws) ++ (replicate 4 phasing ++ with_breaks 0 l)) (sym (drop-cons ws 96 0 h))

  at_first : (q : ℕ) → q < 96 → get_or (with_breaks 0 ws) q idle ≡ place_in ws q
  at_first q a =
      let i : q / 100 * 96 + q % 100 ≡ q = omega arith in
      rw parted
      (get_or-append (map signal (take 96 ws)) (replicate 4 phasing ++ with_breaks 0 (drop 96 ws)) idle q (omega (arith, first_96))
      ∙ signal_at_lem (take 96 ws) q (omega (arith, length-take 96 ws))
      ∙ ap signal (get_or-take 96 ws q 0 a ∙ ap (λ (i : ℕ). get_or ws i 0) (sym i))
      ∙ sym (traffic_place ws (q / 100) (q % 100) (omega arith) (omega arith)))

  at_break : (j : ℕ) → j < 4 → get_or (with_breaks 0 ws) (96 + j) idle ≡ place_in ws (96 + j)
  at_break j a =
      rw parted
      (append_at (map signal (take 96 ws)) (replicate 4 phasing ++ with_breaks 0 (drop 96 ws)) 96 j first_96
      ∙ get_or-append (replicate 4 phasing) (with_breaks 0 (drop 96 ws)) idle j a
      ∙ get_or-replicate 4 j phasing idle a
      ∙ sym (break_place ws ((96 + j) / 100) ((96 + j) % 100) (omega arith) (omega arith)))

  at_later : (j : ℕ) → get_or (with_breaks 0 ws) (96 + (4 + j)) idle ≡ get_or (with_breaks 0 (drop 96 ws)) j idle
  at_later j =
      rw parted
      (append_at (map signal (take 96 ws)) (replicate 4 phasing ++ with_breaks 0 (drop 96 ws)) 96 (4 + j) first_96
      ∙ append_at (replicate 4 phasing) (with_breaks 0 (drop 96 ws)) 4 j refl)

  breaks_length : length (with_breaks 0 ws) ≡ 100 + length (with_breaks 0 (drop 96 ws))
  breaks_length =
      rw parted
      (omega (arith, length-append (map signal (take 96 ws)) (replicate 4 phasing ++ with_breaks 0 (drop 96 ws)), length-append (replicate 4 phasing) (with_breaks 0 (drop 96 ws)), first_96))

-- and so at every place: f bounds the number of groups
places : (f : ℕ) (ws : List ℕ) → length ws ≤ f * 96 → (q : ℕ) → get_or (with_breaks 0 ws) q idle ≡ place_in ws q
places zero ws h q = ap (λ (l : List Position). get_or l q idle) (no_break 0 ws (omega arith)) ∙ short_at ws q (omega arith)
places (suc f) ws h q = go (ltb 96 (length ws)) refl (places f (drop 96 ws))
  where
    go : (t : Bool) → ltb 96 (length ws) ≡ t → (length (drop 96 ws) ≤ f * 96 → (q : ℕ) → get_or (with_breaks 0 (drop 96 ws)) q idle ≡ place_in (drop 96 ws) q) → get_or (with_breaks 0 ws) q idle ≡ place_in ws q
    go false e ih =
        let a = ltb-false 96 (length ws) e in
        ap (λ (l : List Position). get_or l q idle) (no_break 0 ws (omega arith)) ∙ short_at ws q a
    go true e ih = which (ltb q 96) (ltb q 100) refl refl
      where
        which : (x y : Bool) → ltb q 96 ≡ x → ltb q 100 ≡ y → get_or (with_breaks 0 ws) q idle ≡ place_in ws q
        which true y a b = at_first ws (ltb-true 96 (length ws) e) q (ltb-true q 96 a)
        which false true a b =
            let c = ltb-false q 96 a in
            let d = ltb-true q 100 b in
            let i : 96 + (q - 96) ≡ q = omega arith in
            rw i at (at_break ws (ltb-true 96 (length ws) e) (q - 96) (omega arith))
        which false false a b =
            let c = ltb-false q 100 b in
            let l = ltb-true 96 (length ws) e in
            let j : 96 + (4 + (q - 100)) ≡ q = omega arith in
            let g : q / 100 ≡ (q - 100) / 100 + 1 = omega arith in
            let r : q % 100 ≡ (q - 100) % 100 = omega arith in
            (rw j at (at_later ws l (q - 100)))
            ∙ ih (omega (arith, length-drop 96 ws)) (q - 100)
            ∙ sym (ap (λ (g : ℕ). place_of ws (in_group (length ws) g (q % 100))) g ∙ ap (λ (r : ℕ). place_of ws (in_group (length ws) ((q - 100) / 100 + 1) r)) r ∙ later ws ((q - 100) / 100) ((q - 100) % 100) l)

pub place_at : (ws : List ℕ) (q : ℕ) → get_or (with_breaks 0 ws) q idle ≡ place_in ws q
place_at ws q = places (length ws) ws (omega arith) q

-- how many they are
sizes : (f : ℕ) (ws : List ℕ) → length ws ≤ f * 96 → length (with_breaks 0 ws) ≡ length ws + 4 * ((length ws - 1) / 96)
sizes zero ws h = ap (λ (l : List Position). length l) (no_break 0 ws (omega arith)) ∙ omega (arith, length-map ws signal)
sizes (suc f) ws h = go (ltb 96 (length ws)) refl (sizes f (drop 96 ws))
  where
    go : (t : Bool) → ltb 96 (length ws) ≡ t → (length (drop 96 ws) ≤ f * 96 → length (with_breaks 0 (drop 96 ws)) ≡ length (drop 96 ws) + 4 * ((length (drop 96 ws) - 1) / 96)) → length (with_breaks 0 ws) ≡ length ws + 4 * ((length ws - 1) / 96)
    go false e ih =
        let a = ltb-false 96 (length ws) e in
        ap (λ (l : List Position). length l) (no_break 0 ws (omega arith)) ∙ omega (arith, length-map ws signal)
    go true e ih =
        let l = ltb-true 96 (length ws) e in
        let d = length-drop 96 ws in
        omega (arith, breaks_length ws l, ih (omega arith))

pub place_count : (ws : List ℕ) → length (with_breaks 0 ws) ≡ length ws + 4 * ((length ws - 1) / 96)
place_count ws = sizes (length ws) ws (omega arith)
