-- Where a row takes the offer, told by the place and the first word, and what the answer reports of it.
--     takes_by_row        the test of a place and a first word is that of the row
--     taken_as_reported   where nothing is owed, of every offer but a call: a block is taken exactly where the answer says so and the
--                         station is at Sending
--     text_reported_is_held   a text that the answer reports as taken is held at Sending, and sent
--     owed_unreported     where a part of an answer-back is owed: a row that takes has its next block held, and reports no offer as taken
-- Assumes nothing.
use mathlib.Core.Path.{◌≡◌, refl, ap, sym, ◌∙◌}
use mathlib.Core.Bool.{Bool, true, false, not, ◌&&◌, and-false, true≢false, false≢true}
use Prim.Native.Nat.{ℕ}
use lib.Dec.{leb}
use Rattle.std.specs.Prelude.{if◌then◌else◌}
use Rattle.signals.specs.Numbers.{answered}
use Rattle.mode_a.specs.declared.Role.{Role}
use Rattle.mode_a.specs.declared.Number.{Number}
use Rattle.mode_a.specs.declared.Number.TheVariants.{One, Two}
use Rattle.mode_a.specs.declared.Stage.{Stage}
use Rattle.mode_a.specs.declared.Own.{Own}
use Rattle.mode_a.specs.declared.Owed.{Owed}
use Rattle.mode_a.specs.declared.Peer.TheVariants.{Four, Known}
use Rattle.mode_a.specs.declared.Words.{Words}
use Rattle.mode_a.specs.declared.Place.{Place}
use Rattle.mode_a.specs.declared.Place.TheVariants.{Sending, Turning, Opening, Ending, Receiving, Asking, StandBy, Lost, Calling, Calling3, Identifying, Answering}
use Rattle.mode_a.specs.declared.Offer.{Offer}
use Rattle.mode_a.specs.declared.Station.{Station}
use Rattle.mode_a.specs.declared.Listening.{Listening}
use Rattle.mode_a.specs.declared.Doing.{Doing}
use Rattle.mode_a.specs.declared.Doing.TheVariants.{Repeats, Goes, Takes, Receives, Opens, Accepts, Rests, Answers, Listens, Reaches, Answers3, Bars, Ends, Turns, Meets, Again, Yields}
use Rattle.mode_a.specs.declared.Reply.{Reply}
use Rattle.mode_a.specs.Station.{same, marks, mark_of, other}
use Rattle.mode_a.specs.Heard.{First, Cs, Cs3, Rq, Else, Heard, first_of, heard_of}
use Rattle.mode_a.specs.Over.{listened_all}
use Rattle.mode_a.specs.Answerback.{block_owed}
use Rattle.mode_a.specs.Rows.{row_of, calls_on, comparing, finishing, at_stage, is_last}
use Rattle.mode_a.specs.Step.{takes_offer, takes, accepts_by, accepts_heard, knowing, is_over, done, stepping}
use Rattle.runs.specs.Places.{is_sending}
use Rattle.runs.specs.Runs.{is_call, is_taking, of_cs, taking}
use Rattle.runs.proofs.RowLaws.{by_turning, by_ending, by_receiving, by_asking, by_standing, by_calling3, by_comparing, by_answering}
use Rattle.runs.proofs.CodeLaws.{is_owed}
use Rattle.runs.proofs.StepLaws.{Answers as Answered, answers, by_repeat, by_again, by_meet, by_owed, by_heard, by_accept, by_listen}

Is : Bool → Doing → Type 0
Is t d = t ≡ is_taking d

neither_takes : (t : Bool) (d e : Doing) → is_taking d ≡ false → is_taking e ≡ false → false ≡ is_taking (if t then d else e)
neither_takes true d e p q = sym p
neither_takes false d e p q = sym q

pub takes_by_row : (own : Own) (r : Role) (p : Place) (h : Heard) → taking p h.first ≡ is_taking (row_of own r p h)
unfolding Is
takes_by_row own r (Sending x) h = go h.first
  where
    by_number : (t : Bool) (d e : Doing) → is_taking d ≡ false → is_taking e ≡ true → not t ≡ is_taking (if t then d else e)
    by_number true d e p q = sym p
    by_number false d e p q = sym q

    go : (f : First) → taking (Sending x) f ≡ is_taking (row_of own r (Sending x) (record { first = f; block = h.block; RQs = h.RQs; alphas = h.alphas; turned = h.turned; call = h.call; call3 = h.call3; told = h.told }))
    go (Cs n) = by_number (same n x.number) (Repeats x.block) (Takes (other x.number)) refl refl
    go Cs3 = refl
    go Rq = refl
    go (Else y) = refl
takes_by_row own r (Turning n) h = by_turning (Is false) r n h refl refl refl
takes_by_row own r Opening h = go h.first
  where
    go : (f : First) → taking Opening f ≡ is_taking (row_of own r Opening (record { first = f; block = h.block; RQs = h.RQs; alphas = h.alphas; turned = h.turned; call = h.call; call3 = h.call3; told = h.told }))
    go (Cs n) = refl
    go Cs3 = refl
    go Rq = refl
    go (Else y) = refl
takes_by_row own r (Ending e) h = by_ending (Is false) e h.first refl (λ l. refl)
takes_by_row own r (Receiving n) h = by_receiving (Is false) n h (λ c. refl) (λ c. refl) (λ c. refl)
takes_by_row own r Asking h = by_asking (Is false) h refl refl
takes_by_row own r (StandBy w) h = by_standing (Is false) w h.call h.call3 (λ c. refl) (λ c d. refl) (λ c d. refl)
takes_by_row own r Lost h = refl
takes_by_row own r (Calling c) h = go h.first
  where
    by_mark_lem : (t : Bool) (n : Number) (e : Doing) → is_taking e ≡ false → t ≡ is_taking (if t then Reaches (Four c.to) n else e)
    by_mark_lem true n e p = refl
    by_mark_lem false n e p = sym p

    go : (f : First) → taking (Calling c) f ≡ is_taking (row_of own r (Calling c) (record { first = f; block = h.block; RQs = h.RQs; alphas = h.alphas; turned = h.turned; call = h.call; call3 = h.call3; told = h.told }))
    go (Cs n) = by_mark_lem (marks c.last n) n (calls_on c (mark_of n)) (sym (neither_takes (leb 128 c.sent) _ _ refl refl))
    go Cs3 = refl
    go Rq = neither_takes (leb 128 c.sent) _ _ refl refl
    go (Else y) = neither_takes (leb 128 c.sent) _ _ refl refl
takes_by_row own r (Calling3 c) h = by_calling3 (Is false) own.seven c h.first (λ e. refl) (λ e. refl) refl (λ e. refl)
takes_by_row own r (Identifying i) h = go i.stage h.first
  where
    never : (n : Number) → same n One && false ≡ false
    never n = and-false (same n One)

    by_sum : (e : ℕ) (t : Stage) (f : First) → false ≡ is_taking (comparing own.seven i e t f)
    by_sum e t f = by_comparing (Is false) own.seven i e t f (λ l. refl) (λ l. refl) (λ w l m n k. refl) (λ w l m n. refl) (λ l m. refl)

    none : (f : First) → of_cs (λ n. same n One && false) f ≡ false
    none (Cs n) = never n
    none Cs3 = refl
    none Rq = refl
    none (Else x) = refl

    last : (f : First) → of_cs (λ n. same n One && true) f ≡ is_taking (finishing own.seven i f)
    last (Cs One) = refl
    last (Cs Two) = refl
    last Cs3 = refl
    last Rq = refl
    last (Else x) = refl

    go : (t : Stage) (f : First) → of_cs (λ n. same n One && is_last t) f ≡ is_taking (at_stage own.seven i f t)
    go Stage.One f = none f ∙ by_sum _ _ f
    go Stage.Two f = none f ∙ by_sum _ _ f
    go Stage.Three f = none f ∙ by_sum _ _ f
    go Stage.Four f = last f
takes_by_row own r (Answering g) h =
    by_answering (Is false) own.seven g h refl (λ l. refl) (λ l x w. refl) (λ x w. refl)

-- what is reported: at Sending afterwards, exactly that a row took
Told : Bool → Reply → Type 0
Told t r = (t && is_sending r.station.place) ≡ (r.taken && is_sending r.station.place)

by_offer : (s : Station) (n : Number) (o : Offer) → is_call o ≡ false → Told true (takes_offer s n o)
unfolding Told
by_offer s n (Offer.Text w) c = refl
by_offer s n Offer.Over c = refl
by_offer s n Offer.End c = refl
by_offer s n Offer.Nothing c = refl
by_offer s n (Offer.Call i) c = absurd (true≢false c)
by_offer s n (Offer.Call3 i) c = absurd (true≢false c)

not_both : (w : Owed) → w ≡ Owed.Nothing → is_owed w ≡ true → ⊥
not_both w e t = true≢false (sym t ∙ ap is_owed e)

by_taking : (s : Station) (n : Number) (o : Offer) → s.owed ≡ Owed.Nothing → is_call o ≡ false → Told true (takes s n o)
by_taking s n o w c = by_owed (Told true) s n o (λ e. by_offer s n o c) (λ t. absurd (not_both s.owed w t))

by_doing : (s : Station) (b : Words) (o : Offer) (d : Doing) → s.owed ≡ Owed.Nothing → is_call o ≡ false → Told (is_taking d) (done s b o d)
unfolding Told done
by_doing s b o (Repeats w) n c = by_repeat (Told false) s w (λ e. refl) (λ e. refl)
by_doing s b o (Goes p w) n c = refl
by_doing s b o (Takes k) n c = by_taking s k o n c
by_doing s b o (Receives k) n c = refl
by_doing s b o Opens n c = refl
by_doing s b o (Accepts k) n c = by_accept (Told false) s k b o (listened_all s.case s.plus b) (λ w u. sym (and-false u)) refl
by_doing s b o (Rests k w) n c = refl
by_doing s b o Answers n c = refl
by_doing s b o (Listens w) n c = by_listen (Told false) s w o (λ i e z. refl) (λ i e z. refl) refl
by_doing s b o (Reaches p k) n c = by_taking (knowing s p) k o n c
by_doing s b o Answers3 n c = refl
by_doing s b o (Bars i) n c = refl
by_doing s b o (Ends i) n c = refl
by_doing s b o (Turns i) n c = refl
by_doing s b o (Meets i) n c = by_meet (Told false) (knowing s (Known i)) (is_over o) refl refl
by_doing s b o (Again p w) n c = by_again (Told false) s p w (λ e. refl) (λ e. refl)
by_doing s b o (Yields k) n c = refl

pub taken_as_reported : (s : Station) (b : Words) (o : Offer) (r : Reply) → Answered s b o r → s.owed ≡ Owed.Nothing → is_call o ≡ false → (taking s.place (first_of b.0) && is_sending r.station.place) ≡ (r.taken && is_sending r.station.place)
unfolding Told heard_of
taken_as_reported s b o r a n c = rw (a.is_done, takes_by_row s.own s.role s.place (heard_of s.own b)) (by_doing s b o (row_of s.own s.role s.place (heard_of s.own b)) n c)

-- a text that is reported as taken is held, with a number, and sent
abbrev TextHeld : Words → Reply → Type 0
TextHeld w r =
    r.taken ≡ true → ((n : Number) × (r.station.place ≡ Sending (record { number = n; block = w }))) × (r.sent ≡ w)

text_taken : (s : Station) (n : Number) (w : Words) → TextHeld w (takes s n (Offer.Text w))
text_taken s n w = by_owed (TextHeld w) s n (Offer.Text w) (λ e t. ((n, refl), refl)) (λ e t. absurd (false≢true t))

text_unaccepted : (s : Station) (n : Number) (b w : Words) (l : Listening) → TextHeld w (accepts_heard s n b (Offer.Text w) l)
text_unaccepted s n b w l =
    by_heard (TextHeld w) s n b (Offer.Text w) l (λ e t. absurd (false≢true t)) (λ e. go l.over)
  where
    go : (u : Bool) → TextHeld w (accepts_by s n b false (record { case = l.case; plus = l.plus; over = u; asked = l.asked }))
    go true t = absurd (false≢true t)
    go false t = absurd (false≢true t)

text_held : (s : Station) (b w : Words) (d : Doing) → TextHeld w (done s b (Offer.Text w) d)
unfolding done
text_held s b w (Repeats x) t = by_repeat (TextHeld w) s x (λ e u. absurd (false≢true u)) (λ e u. absurd (false≢true u)) t
text_held s b w (Goes p x) t = absurd (false≢true t)
text_held s b w (Takes n) t = text_taken s n w t
text_held s b w (Receives n) t = absurd (false≢true t)
text_held s b w Opens t = absurd (false≢true t)
text_held s b w (Accepts n) t = text_unaccepted s n b w (listened_all s.case s.plus b) t
text_held s b w (Rests n x) t = absurd (false≢true t)
text_held s b w Answers t = absurd (false≢true t)
text_held s b w (Listens x) t = absurd (false≢true t)
text_held s b w (Reaches p n) t = text_taken (knowing s p) n w t
text_held s b w Answers3 t = absurd (false≢true t)
text_held s b w (Bars i) t = absurd (false≢true t)
text_held s b w (Ends i) t = absurd (false≢true t)
text_held s b w (Turns i) t = absurd (false≢true t)
text_held s b w (Meets i) t = absurd (false≢true t)
text_held s b w (Again p x) t = by_again (TextHeld w) s p x (λ e u. absurd (false≢true u)) (λ e u. absurd (false≢true u)) t
text_held s b w (Yields n) t = absurd (false≢true t)

-- "Text gives that block", and no place takes a text in another way: not at Receiving, nor at Stand-by, nor while a part of an answer-back is
-- owed  R-054, R-238
pub text_reported_is_held : (s : Station) (b : Words) (w : Words) (r : Reply) → stepping s b (Offer.Text w) ≡ answered r → r.taken ≡ true → ((n : Number) × (r.station.place ≡ Sending (record { number = n; block = w }))) × (r.sent ≡ w)
text_reported_is_held s b w r e =
    rw (answers s b (Offer.Text w) r e).is_done (text_held s b w (row_of s.own s.role s.place (heard_of s.own b)))

-- the next block of the answer is held, and the offer waits, whatever is offered
abbrev Waits : Station → Reply → Type 0
Waits s r = ((n : Number) × (r.station.place ≡ Sending (record { number = n; block = block_owed s.own.code s.owed }))) × (r.taken ≡ false)

by_owing : (s : Station) (n : Number) (o : Offer) → is_owed s.owed ≡ true → Waits s (takes s n o)
by_owing s n o t = by_owed (Waits s) s n o (λ e. absurd (not_both s.owed e t)) (λ u. ((n, refl), refl))

waits : (s : Station) (b : Words) (o : Offer) (d : Doing) → is_owed s.owed ≡ true → is_taking d ≡ true → Waits s (done s b o d)
unfolding done
waits s b o (Repeats w) t i = absurd (true≢false (sym i))
waits s b o (Goes p w) t i = absurd (true≢false (sym i))
waits s b o (Takes n) t i = by_owing s n o t
waits s b o (Receives n) t i = absurd (true≢false (sym i))
waits s b o Opens t i = absurd (true≢false (sym i))
waits s b o (Accepts n) t i = absurd (true≢false (sym i))
waits s b o (Rests n w) t i = absurd (true≢false (sym i))
waits s b o Answers t i = absurd (true≢false (sym i))
waits s b o (Listens w) t i = absurd (true≢false (sym i))
waits s b o (Reaches p n) t i = by_owing (knowing s p) n o t
waits s b o Answers3 t i = absurd (true≢false (sym i))
waits s b o (Bars x) t i = absurd (true≢false (sym i))
waits s b o (Ends x) t i = absurd (true≢false (sym i))
waits s b o (Turns x) t i = absurd (true≢false (sym i))
waits s b o (Meets x) t i = absurd (true≢false (sym i))
waits s b o (Again p w) t i = absurd (true≢false (sym i))
waits s b o (Yields n) t i = absurd (true≢false (sym i))

pub owed_unreported : (s : Station) (b : Words) (o : Offer) (r : Reply) → Answered s b o r → is_owed s.owed ≡ true → taking s.place (first_of b.0) ≡ true → ((n : Number) × (r.station.place ≡ Sending (record { number = n; block = block_owed s.own.code s.owed }))) × (r.taken ≡ false)
unfolding heard_of
owed_unreported s b o r a t i =
    rw a.is_done (waits s b o (row_of s.own s.role s.place (heard_of s.own b)) t (sym (takes_by_row s.own s.role s.place (heard_of s.own b)) ∙ i))
