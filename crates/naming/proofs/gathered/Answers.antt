-- `naming::gathered` meets its contract, by the block that the burst is. Assumes nothing.
use mathlib.Core.Path.{◌≡◌, ◌∙◌}
use mathlib.Core.Bool.{true}
use mathlib.Core.Logic.{◌⊎◌, inl, inr}
use Rattle.mode_a.specs.declared.Part.{Part}
use Rattle.naming.specs.Places.{judged_all}
use Rattle.naming.proofs.DueLaws.{is_told, due_named}
use Rattle.naming.proofs.gathered.Goals as goal

is_block : (p : Part) → (p ≡ Part.One) ⊎ ((p ≡ Part.Two) ⊎ (p ≡ Part.Three)) → is_told p ≡ true
is_block p (inl e) = rw e
is_block p (inr (inl e)) = rw e
is_block p (inr (inr e)) = rw e

pub returns-in-One : goal.returns-in-One
returns-in-One c = let a = c.args in rw (← c.told_in-block.ensures) (c.told.ensures ∙ due_named a.late a.b (judged_all a.b) a.stage c.told_in-block.result c.due_at-due.result (is_block _ c.in-One.is) c.due_at-due.ensures)
