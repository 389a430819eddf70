-- The table and its actions are the rows of `mode_a`: at each place, for each kind of burst. Assumes nothing.
use mathlib.Core.Path.{◌≡◌, refl, ap, sym, ◌∙◌}
use Prim.Native.Nat.{ℕ}
use Rattle.identity.specs.declared.Seven.{Seven}
use Rattle.mode_a.specs.declared.Role.{Role}
use Rattle.mode_a.specs.declared.Role.TheVariants.{Master, Slave}
use Rattle.mode_a.specs.declared.Number.TheVariants.{Two}
use Rattle.mode_a.specs.declared.Words.{Words}
use Rattle.mode_a.specs.declared.Stage.{Stage}
use Rattle.mode_a.specs.declared.Identified.{Identified}
use Rattle.mode_a.specs.declared.Own.{Own}
use Rattle.mode_a.specs.declared.Place.{Place}
use Rattle.mode_a.specs.declared.Place.TheVariants.{Sending, Turning, Opening, Ending, Receiving, Asking, StandBy, Lost, Calling, Calling3, Identifying, Answering}
use Rattle.mode_a.specs.Heard.{First, Cs, Cs4, Cs5, Other, heard_of}
use Rattle.mode_a.specs.Rows.{row_of, same_block, comparing, finishing, at_stage, identifying}
use Rattle.table.specs.declared.Kind.{Kind}
use Rattle.table.specs.Kinds.{kind_of, beside_of, heard_k}
use Rattle.table.specs.Actions.{action_of}
use Rattle.table.proofs.KindLaws.{by_kind, heard_kind}
use Rattle.doings.specs.Doings.{doing_of}

-- at Identifying, a first word that is neither compared before the fourth stage nor counts at it has the block sent again at each stage
again : (y : Seven) (i : Identified) (f : First) → ((e : ℕ) (s : Stage) → same_block y i ≡ comparing y i e s f) → same_block y i ≡ finishing y i f →
    same_block y i ≡ identifying y i f
again y i f before last = go i.stage
  where
    go : (s : Stage) → same_block y i ≡ at_stage y i f s
    go Stage.One = before _ _
    go Stage.Two = before _ _
    go Stage.Three = before _ _
    go Stage.Four = last

abbrev Agrees : Own → Words → Role → Place → Kind → Type 0
Agrees own b r p k = doing_of (action_of p k) r p own b ≡ row_of own r p (heard_k (beside_of own b) k)

-- the rows, over the kinds; of these only Turning asks for the role
over_kinds : (own : Own) (b : Words) (r : Role) (p : Place) (k : Kind) → Agrees own b r p k
unfolding doing_of action_of beside_of
over_kinds own b r (Sending h) = by_kind (Agrees own b r (Sending h)) refl refl refl refl refl refl refl refl refl refl refl refl refl refl refl refl refl refl
over_kinds own b Master (Turning n) = by_kind (Agrees own b Master (Turning n)) refl refl refl refl refl refl refl refl refl refl refl refl refl refl refl refl refl refl
over_kinds own b Slave (Turning n) = by_kind (Agrees own b Slave (Turning n)) refl refl refl refl refl refl refl refl refl refl refl refl refl refl refl refl refl refl
over_kinds own b r Opening = by_kind (Agrees own b r Opening) refl refl refl refl refl refl refl refl refl refl refl refl refl refl refl refl refl refl
over_kinds own b r (Ending e) = by_kind (Agrees own b r (Ending e)) refl refl refl refl refl refl refl refl refl refl refl refl refl refl refl refl refl refl
over_kinds own b r (Receiving n) = by_kind (Agrees own b r (Receiving n)) refl refl refl refl refl refl refl refl refl refl refl refl refl refl refl refl refl refl
over_kinds own b r Asking = by_kind (Agrees own b r Asking) refl refl refl refl refl refl refl refl refl refl refl refl refl refl refl refl refl refl
over_kinds own b r (StandBy w) = by_kind (Agrees own b r (StandBy w)) refl refl refl refl refl refl refl refl refl refl refl refl refl refl refl refl refl refl
over_kinds own b r Lost = by_kind (Agrees own b r Lost) refl refl refl refl refl refl refl refl refl refl refl refl refl refl refl refl refl refl
over_kinds own b r (Calling c) = by_kind (Agrees own b r (Calling c)) refl refl refl refl refl refl refl refl refl refl refl refl refl refl refl refl refl refl
over_kinds own b r (Calling3 c) = by_kind (Agrees own b r (Calling3 c)) refl refl refl refl refl refl refl refl refl refl refl refl refl refl refl refl refl refl
over_kinds own b r (Identifying i) = by_kind (Agrees own b r (Identifying i)) refl refl (again own.seven i (Cs Two) (λ e s. refl) refl) (again own.seven i (Cs Two) (λ e s. refl) refl) refl refl (again own.seven i (First.Else Cs4) (λ e s. refl) refl) (again own.seven i (First.Else Cs4) (λ e s. refl) refl) (again own.seven i (First.Else Cs5) (λ e s. refl) refl) (again own.seven i (First.Else Cs5) (λ e s. refl) refl) refl refl (again own.seven i First.Rq (λ e s. refl) refl) (again own.seven i First.Rq (λ e s. refl) refl) (again own.seven i (First.Else Other) (λ e s. refl) refl) (again own.seven i (First.Else Other) (λ e s. refl) refl) (again own.seven i (First.Else Other) (λ e s. refl) refl) (again own.seven i (First.Else Other) (λ e s. refl) refl)
over_kinds own b r (Answering g) = by_kind (Agrees own b r (Answering g)) refl refl refl refl refl refl refl refl refl refl refl refl refl refl refl refl refl refl

-- and so over the bursts: what the code does is what the row says
pub rows_agree : (r : Role) (p : Place) (own : Own) (b : Words) → doing_of (action_of p (kind_of b)) r p own b ≡ row_of own r p (heard_of own b)
rows_agree r p own b = over_kinds own b r p (kind_of b) ∙ ap (row_of own r p) (sym (heard_kind own b))
