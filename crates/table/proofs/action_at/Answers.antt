-- `table::action_at` meets its contract: the table, kind by kind and place by place, is the definition's, which antt computes.
-- Assumes nothing.
use mathlib.Core.Path.{◌≡◌, refl, ap, ap₂, ◌∙◌}
use mathlib.Core.List.{List, [], ◌∷◌}
use Prim.Native.Nat.{ℕ, ◌<◌}
use native.Mathlib.Omega.{arith}
use lib.Dec.{lit<}
use lib.ListN.{get_or}
use Rattle.mode_a.specs.declared.Number.TheVariants.{One}
use Rattle.mode_a.specs.declared.Mark.{Mark}
use Rattle.mode_a.specs.declared.Stage.{Stage}
use Rattle.mode_a.specs.declared.Place.{Place}
use Rattle.mode_a.specs.declared.Place.TheVariants.{Sending, Turning, Opening, Ending, Receiving, Asking, StandBy, Lost, Calling, Calling3, Identifying, Answering}
use Rattle.mode_a.specs.Station.{silence, no_identity, no_seven, resting}
use Rattle.table.specs.declared.Kind.{Kind}
use Rattle.table.specs.declared.Action.{Action}
use Rattle.table.specs.Kinds.{column_of}
use Rattle.table.specs.Actions.{action_of, row_no}
use Rattle.table.proofs.KindLaws.{by_kind}
use Rattle.table.proofs.action_at.Goals as goal

column-lt : (k : Kind) → column_of k < 18
column-lt =
    by_kind (λ k. column_of k < 18)
    (lit< tt) (lit< tt) (lit< tt) (lit< tt) (lit< tt) (lit< tt) (lit< tt) (lit< tt) (lit< tt)
    (lit< tt) (lit< tt) (lit< tt) (lit< tt) (lit< tt) (lit< tt) (lit< tt) (lit< tt) (lit< tt)

-- one value for each place, in the order of the rows; what a place carries changes no action
abbrev by_place : (Place → Action) → List Action
by_place f =
    f (Sending (record { number = One; block = silence }))
    ∷ f (Turning One)
    ∷ f Opening
    ∷ f (Ending (record { number = One; total = 0 }))
    ∷ f (Receiving One)
    ∷ f Asking
    ∷ f (resting 0)
    ∷ f Lost
    ∷ f (Calling (record { to = no_identity.four; sent = 0; last = Mark.None }))
    ∷ f (Calling3 (record { to = no_seven; sent = 0 }))
    ∷ f (Identifying (record { to = no_seven; stage = Stage.One; wrong = 0; last = 0 }))
    ∷ f (Answering (record { stage = Stage.One; got = no_seven }))
    ∷ []

at_place : (k : Kind) (p : Place) → get_or (by_place (λ p. action_of p k)) (row_no p) Action.Asked1 ≡ action_of p k
unfolding action_of
at_place k (Sending h) = refl
at_place k (Turning n) = refl
at_place k Opening = refl
at_place k (Ending e) = refl
at_place k (Receiving n) = refl
at_place k Asking = refl
at_place k (StandBy w) = refl
at_place k Lost = refl
at_place k (Calling c) = refl
at_place k (Calling3 c) = refl
at_place k (Identifying i) = refl
at_place k (Answering g) = refl

-- a line of the code for each kind, in the order of the columns
abbrev line : Kind → List Action
line k = by_place (λ p. action_of p k)

abbrev table : List (List Action)
table =
    line Kind.Cs1Block
    ∷ line Kind.Cs1
    ∷ line Kind.Cs2Block
    ∷ line Kind.Cs2
    ∷ line Kind.Cs3Block
    ∷ line Kind.Cs3
    ∷ line Kind.Cs4Block
    ∷ line Kind.Cs4
    ∷ line Kind.Cs5Block
    ∷ line Kind.Cs5
    ∷ line Kind.LetterBlock
    ∷ line Kind.Letter
    ∷ line Kind.Rqs
    ∷ line Kind.Rq
    ∷ line Kind.Block
    ∷ line Kind.Turn
    ∷ line Kind.Alphas
    ∷ line Kind.Else
    ∷ []

at-line : (k : Kind) → get_or table (column_of k) [] ≡ line k
at-line =
    by_kind (λ k. get_or table (column_of k) [] ≡ line k)
    refl refl refl refl refl refl refl refl refl refl refl refl refl refl refl refl refl refl

at_both : (p : Place) (k : Kind) → get_or (get_or table (column_of k) []) (row_no p) Action.Asked1 ≡ action_of p k
at_both p k = ap (λ (l : List Action). get_or l (row_no p) Action.Asked1) (at-line k) ∙ at_place k p

pub offset_bounds-cells-column : goal.offset_bounds-cells-column
offset_bounds-cells-column c = omega (arith, c.column_of-column.ensures, column-lt c.args.kind)

pub bounds-cells-column : goal.bounds-cells-column
bounds-cells-column c = omega (arith, c.column_of-column.ensures, column-lt c.args.kind)

pub bounds-cells-row : goal.bounds-cells-row
bounds-cells-row c = omega arith

pub returns : goal.returns
unfolding action_of
returns c =
    ap₂ (λ (k p : ℕ). get_or (get_or table k []) p Action.Asked1) c.column_of-column.ensures c.row_no-row.ensures.row
    ∙ at_both c.args.place c.args.kind
