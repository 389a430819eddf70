-- A station that calls with three blocks, or identifies, does so with letters of table 3a: an offer with other signals is refused.
--     Lettered                    so of a station
--     lettered_step, lettered_run  kept by every step, and in every run
--     Letters, letters_of         each of the seven of an identity that can be called
-- Assumes nothing.
use mathlib.Core.Path.{◌≡◌, refl, sym, subst}
use mathlib.Core.Bool.{Bool, true, false, ◌&&◌, true≢false}
use Prim.Native.Nat.{◌+◌}
use Rattle.signals.specs.Numbers.{answered}
use Rattle.identity.specs.declared.Seven.{Seven}
use Rattle.identity.specs.Table3.{is_identity}
use Rattle.identity.specs.Sums.{is_callable7}
use Rattle.mode_a.specs.declared.Number.TheVariants.{One}
use Rattle.mode_a.specs.declared.Own.{Own}
use Rattle.mode_a.specs.declared.Words.{Words}
use Rattle.mode_a.specs.declared.Peer.TheVariants.{Four, Known}
use Rattle.mode_a.specs.declared.Place.{Place}
use Rattle.mode_a.specs.declared.Place.TheVariants.{Sending, Turning, Opening, Ending, Receiving, Asking, StandBy, Lost, Calling, Calling3, Identifying, Answering}
use Rattle.mode_a.specs.declared.Offer.{Offer}
use Rattle.mode_a.specs.declared.Station.{Station}
use Rattle.mode_a.specs.declared.Doing.{Doing}
use Rattle.mode_a.specs.declared.Reply.{Reply}
use Rattle.mode_a.specs.Station.{single}
use Rattle.mode_a.specs.Heard.{Heard, heard_of}
use Rattle.mode_a.specs.Over.{listened_all}
use Rattle.mode_a.specs.Rows.{row_of}
use Rattle.mode_a.specs.Step.{knowing, is_over, done, stepping}
use Rattle.runs.specs.Runs.{Run, start, ◌▷◌, after, InOrder}
use Rattle.runs.proofs.RowLaws.{by_sending, by_turning, by_opening, by_ending, by_receiving, by_asking, by_standing, by_calling, by_calling3, by_identifying, by_answering}
use Rattle.runs.proofs.StepLaws.{answers, placed, by_repeat, by_again, by_meet, by_take, by_accept, by_listen, keeps}

-- the identity called and the own one, where blocks of them are sent
abbrev pub lettered_at : Own → Place → Type 0
lettered_at own (Sending h) = Unit {0}
lettered_at own (Turning n) = Unit {0}
lettered_at own Opening = Unit {0}
lettered_at own (Ending e) = Unit {0}
lettered_at own (Receiving n) = Unit {0}
lettered_at own Asking = Unit {0}
lettered_at own (StandBy w) = Unit {0}
lettered_at own Lost = Unit {0}
lettered_at own (Calling c) = Unit {0}
lettered_at own (Calling3 c) = (is_callable7 c.to ≡ true) × (is_callable7 own.seven ≡ true)
lettered_at own (Identifying i) = is_callable7 own.seven ≡ true
lettered_at own (Answering g) = Unit {0}

abbrev pub Lettered : Station → Type 0
Lettered s = lettered_at s.own s.place

module _ (s : Station) (b : Words) (o : Offer) (fine : InOrder s.own o) (h : Heard) where
  After : Reply → Type 0
  After r = Lettered r.station

  abbrev Row : Place → Doing → Type 0
  Row p d = After (done (placed s p) b o d)

  by_place : (p : Place) → lettered_at s.own p → Row p (row_of s.own s.role p h)
  unfolding done After
  by_place (Sending x) l =
      by_sending (Row (Sending x)) x h.first (λ c. by_repeat After (placed s (Sending x)) _ (λ u. tt) (λ u. tt)) (λ c. by_take After (placed s (Sending x)) _ o (λ u w t. tt) tt) (λ c. tt) (λ c. by_repeat After (placed s (Sending x)) _ (λ u. tt) (λ u. tt))
  by_place (Turning n) l =
      by_turning (Row (Turning n)) s.role n h tt (by_repeat After (placed s (Turning n)) _ (λ u. tt) (λ u. tt)) (by_repeat After (placed s (Turning n)) _ (λ u. tt) (λ u. tt))
  by_place Opening l =
      by_opening (Row Opening) s.role h.first (λ n. by_take After (placed s Opening) n o (λ u w t. tt) tt) tt (by_repeat After (placed s Opening) _ (λ u. tt) (λ u. tt))
  by_place (Ending x) l = by_ending (Row (Ending x)) x h.first tt (λ m. tt)
  by_place (Receiving n) l =
      by_receiving (Row (Receiving n)) n h (λ y. by_accept After (placed s (Receiving n)) n b o (listened_all s.case s.plus b) (λ w u. tt) tt) (λ y. tt) (λ y. by_repeat After (placed s (Receiving n)) _ (λ u. tt) (λ u. tt))
  by_place Asking l = by_asking (Row Asking) h tt (by_repeat After (placed s Asking) _ (λ u. tt) (λ u. tt))
  by_place (StandBy w) l =
      by_standing (Row (StandBy w)) w h.call h.call3 (λ y. tt) (λ y z. tt) (λ y z. by_listen After (placed s (StandBy w)) _ o (λ x c z. tt) (λ x c z. subst (InOrder s.own) c fine) tt)
  by_place Lost l = tt
  by_place (Calling c) l =
      by_calling (Row (Calling c)) c h.first (λ n f m. by_take After (knowing (placed s (Calling c)) (Four c.to)) n o (λ u w t. tt) tt) tt (λ m. tt)
  by_place (Calling3 c) l = by_calling3 (Row (Calling3 c)) s.own.seven c h.first (λ e. l.1) (λ e. tt) tt (λ m. l)
  by_place (Identifying i) l =
      by_identifying (Row (Identifying i)) s.own.seven i h.first (λ e. by_again After (placed s (Identifying i)) (Identifying i) _ (λ u. tt) (λ u. l)) (λ e m. l) (λ w e m n k. by_again After (placed s (Identifying i)) (Identifying (record { to = i.to; stage = i.stage; wrong = i.wrong + 1; last = w })) _ (λ u. tt) (λ u. l)) (λ w e m n. tt) (λ e m. tt) (λ e m. by_take After (knowing (placed s (Identifying i)) (Known i.to)) One o (λ u w t. tt) tt) (λ e m. tt)
  by_place (Answering g) l =
      by_answering (Row (Answering g)) s.own.seven g h tt (λ m. by_meet After (knowing (placed s (Answering g)) (Known g.got)) (is_over o) tt tt) (λ m x w. tt) (λ x w. by_again After (placed s (Answering g)) (Answering (record { stage = g.stage; got = x })) (single w) (λ u. tt) (λ u. tt))

pub lettered_step : (s : Station) (b : Words) (o : Offer) (r : Reply) → stepping s b o ≡ answered r → Lettered s → Lettered r.station
unfolding After
lettered_step s b o r e l = let a = answers s b o r e in rw a.is_done (by_place s b o a.is_fine (heard_of s.own b) s.place l)

pub lettered_run : (s : Station) → Lettered s → (run : Run) → Lettered (after s run)
lettered_run s l start = l
lettered_run s l (run ▷ e) =
    keeps Lettered (after s run) e (λ r p. lettered_step (after s run) e.burst e.offer r p) (lettered_run s l run)

-- each of the seven
pub record Letters (i : Seven) : Type 0 where
  pub first : is_identity i.0 ≡ true
  pub second : is_identity i.1 ≡ true
  pub third : is_identity i.2 ≡ true
  pub fourth : is_identity i.3 ≡ true
  pub fifth : is_identity i.4 ≡ true
  pub sixth : is_identity i.5 ≡ true
  pub seventh : is_identity i.6 ≡ true

pub letters_of : (i : Seven) → is_callable7 i ≡ true → Letters i
unfolding is_callable7
letters_of i t =
    let x = go (is_identity i.0) (is_identity i.1) (is_identity i.2) (is_identity i.3) (is_identity i.4) (is_identity i.5) (is_identity i.6) t in
    record { first = x.0; second = x.1; third = x.2; fourth = x.3; fifth = x.4; sixth = x.5; seventh = x.6 }
  where
    go : (a b c d e f g : Bool) → a && (b && (c && (d && (e && (f && g))))) ≡ true → (a ≡ true) × (b ≡ true) × (c ≡ true) × (d ≡ true) × (e ≡ true) × (f ≡ true) × (g ≡ true)
    go true true true true true true true t = (refl, refl, refl, refl, refl, refl, refl)
    go true true true true true true false t = absurd (true≢false (sym t))
    go true true true true true false g t = absurd (true≢false (sym t))
    go true true true true false f g t = absurd (true≢false (sym t))
    go true true true false e f g t = absurd (true≢false (sym t))
    go true true false d e f g t = absurd (true≢false (sym t))
    go true false c d e f g t = absurd (true≢false (sym t))
    go false b c d e f g t = absurd (true≢false (sym t))
