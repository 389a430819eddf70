-- 01, The station, and 02, T-02 and T-05: what is asked of a place, whatever the place carries.  R-046
--
-- All of it but the stage of identification is made from `known`: a place more is entered there, and in `losing` or `telling` if its
-- repetitions count.
-- Assumes nothing.
use Rattle.std.specs.Prelude.{Bool, not, ◌||◌, ℕ, eqb}
use Rattle.mode_a.specs.declared.Held.{Held}
use Rattle.mode_a.specs.declared.Ended.{Ended}
use Rattle.mode_a.specs.declared.Waiting.{Waiting}
use Rattle.mode_a.specs.declared.Called.{Called}
use Rattle.mode_a.specs.declared.Called3.{Called3}
use Rattle.mode_a.specs.declared.Stage.{Stage}
use Rattle.mode_a.specs.declared.Place.{Place}
use Rattle.mode_a.specs.declared.Place.TheVariants.{Sending, Turning, Opening, Ending, Receiving, Asking, StandBy, Lost, Calling, Calling3, Identifying, Answering}

-- what a place carries, as far as it is asked for here: the block held at Sending, the total of Ending, what Stand-by and calls keep
pub data Inner : Type 0 where
  with_block_lem : Held → Inner
  with_total : Ended → Inner
  with_waiting : Waiting → Inner
  with_called : Called → Inner
  with_called3 : Called3 → Inner
  neither : Inner

-- the number of a place, in 01's order and then 02's, and what it carries
abbrev pub known : Place → ℕ × Inner
known (Sending h) = (0, with_block_lem h)
known (Turning n) = (1, neither)
known Opening = (2, neither)
known (Ending e) = (3, with_total e)
known (Receiving n) = (4, neither)
known Asking = (5, neither)
known (StandBy w) = (6, with_waiting w)
known Lost = (7, neither)
known (Calling c) = (8, with_called c)
known (Calling3 c) = (9, with_called3 c)
known (Identifying i) = (10, neither)
known (Answering g) = (11, neither)

abbrev pub place_no : Place → ℕ
place_no p = (known p).0

abbrev pub inner_of : Place → Inner
inner_of p = (known p).1

abbrev pub is_sending : Place → Bool
is_sending p = eqb (place_no p) 0

abbrev pub is_turning : Place → Bool
is_turning p = eqb (place_no p) 1

abbrev pub is_opening : Place → Bool
is_opening p = eqb (place_no p) 2

abbrev pub is_ending : Place → Bool
is_ending p = eqb (place_no p) 3

abbrev pub is_receiving : Place → Bool
is_receiving p = eqb (place_no p) 4

abbrev pub is_asking : Place → Bool
is_asking p = eqb (place_no p) 5

abbrev pub is_stand_by : Place → Bool
is_stand_by p = eqb (place_no p) 6

abbrev pub is_lost : Place → Bool
is_lost p = eqb (place_no p) 7

abbrev pub is_calling : Place → Bool
is_calling p = eqb (place_no p) 8

-- Calling with three blocks
abbrev pub is_calling3 : Place → Bool
is_calling3 p = eqb (place_no p) 9

abbrev pub is_identifying : Place → Bool
is_identifying p = eqb (place_no p) 10

abbrev pub is_answering : Place → Bool
is_answering p = eqb (place_no p) 11

-- a step from Stand-by that leads here answers no call, of two blocks or of three
abbrev pub none_answered : Place → Bool
none_answered p = not (is_receiving p || is_answering p)

-- "changes place"
abbrev pub changed : Place → Place → Bool
changed p p' = not (eqb (place_no p) (place_no p'))

-- how far identification has come at a place, 0 where there is none; and whether it goes on to another stage
abbrev pub stage_no : Stage → ℕ
stage_no Stage.One = 1
stage_no Stage.Two = 2
stage_no Stage.Three = 3
stage_no Stage.Four = 4

abbrev pub stage_in : Place → ℕ
stage_in (Sending h) = 0
stage_in (Turning n) = 0
stage_in Opening = 0
stage_in (Ending e) = 0
stage_in (Receiving n) = 0
stage_in Asking = 0
stage_in (StandBy w) = 0
stage_in Lost = 0
stage_in (Calling c) = 0
stage_in (Calling3 c) = 0
stage_in (Identifying i) = stage_no i.stage
stage_in (Answering g) = stage_no g.stage

abbrev pub advanced : Place → Place → Bool
advanced p p' = not (eqb (stage_in p) (stage_in p'))

-- "at Sending, Turning, Opening, Receiving or Asking"  R-096; "Ending has its four instead."  R-100. A call has its 128.
abbrev pub losing : Place → Bool
losing p = is_sending p || is_turning p || is_opening p || is_receiving p || is_asking p

-- and in identification: "32 successive repetitions lead to stand-by" (02, T-05)  R-222
abbrev pub telling : Place → Bool
telling p = is_identifying p || is_answering p

-- where repetitions count
abbrev pub counting : Place → Bool
counting p = losing p || telling p

-- at Sending told by what is held there, at Ending by its total, and so of the others; the same at every other place
abbrev pub of_held {ℓ} : {A : Type ℓ} → (Held → A) → A → Inner → A
of_held f a (with_block_lem h) = f h
of_held f a (with_total e) = a
of_held f a (with_waiting w) = a
of_held f a (with_called c) = a
of_held f a (with_called3 c) = a
of_held f a neither = a

abbrev pub at_sending {ℓ} : {A : Type ℓ} → (Held → A) → A → Place → A
at_sending f a p = of_held f a (inner_of p)

abbrev pub of_ended {ℓ} : {A : Type ℓ} → (Ended → A) → A → Inner → A
of_ended f a (with_block_lem h) = a
of_ended f a (with_total e) = f e
of_ended f a (with_waiting w) = a
of_ended f a (with_called c) = a
of_ended f a (with_called3 c) = a
of_ended f a neither = a

abbrev pub at_ending {ℓ} : {A : Type ℓ} → (Ended → A) → A → Place → A
at_ending f a p = of_ended f a (inner_of p)

abbrev pub of_waiting {ℓ} : {A : Type ℓ} → (Waiting → A) → A → Inner → A
of_waiting f a (with_block_lem h) = a
of_waiting f a (with_total e) = a
of_waiting f a (with_waiting w) = f w
of_waiting f a (with_called c) = a
of_waiting f a (with_called3 c) = a
of_waiting f a neither = a

abbrev pub at_stand_by {ℓ} : {A : Type ℓ} → (Waiting → A) → A → Place → A
at_stand_by f a p = of_waiting f a (inner_of p)

abbrev pub of_called {ℓ} : {A : Type ℓ} → (Called → A) → A → Inner → A
of_called f a (with_block_lem h) = a
of_called f a (with_total e) = a
of_called f a (with_waiting w) = a
of_called f a (with_called c) = f c
of_called f a (with_called3 c) = a
of_called f a neither = a

abbrev pub at_calling {ℓ} : {A : Type ℓ} → (Called → A) → A → Place → A
at_calling f a p = of_called f a (inner_of p)

abbrev pub of_called3 {ℓ} : {A : Type ℓ} → (Called3 → A) → A → Inner → A
of_called3 f a (with_block_lem h) = a
of_called3 f a (with_total e) = a
of_called3 f a (with_waiting w) = a
of_called3 f a (with_called c) = a
of_called3 f a (with_called3 c) = f c
of_called3 f a neither = a

abbrev pub at_calling3 {ℓ} : {A : Type ℓ} → (Called3 → A) → A → Place → A
at_calling3 f a p = of_called3 f a (inner_of p)
