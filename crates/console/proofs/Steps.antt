-- The steps of a turn refuse by the turn's first fault, and else give the turned lane.
use Rattle.std.proofs.Common.{◌≡◌, ℕ, ◌+◌, List, Some, None, Ok, Option, Result, refl, ap, ◌∙◌}
use Rattle.rounding.specs.declared.Figure.{Figure}
use Rattle.rounding.specs.Refusals.{first, unless, after}
use Rattle.figures.specs.Figures.{opposite}
use Rattle.bounds.specs.Fours.{fault, faults}
use Rattle.bounds.specs.Methods.{Function}
use Rattle.phasors.specs.declared.Phasor.{Phasor}
use Rattle.phasors.specs.Phasors.{product_by}
use Rattle.lanes.specs.declared.Lane.{Lane}
use Rattle.lanes.specs.Lanes.{at}
use Rattle.lanes.specs.Turning.{no_lane, full, strayed, turned_by, lane_fault, turn_fault}
use Rattle.console.specs.Steps.{phasor_of, lane_steps, turn_steps}

-- one step more: its fault comes before those of the steps behind it
before : {X Y : Type 0} (o u : Option ℕ) (x : X) (y : Y) (next : X → Result Y ℕ) → next x ≡ unless u y
    → after (unless o x) next ≡ unless (first o u) y
before (Some e) u x y next h = refl
before None u x y next h = h

-- the last step
last : {X Y : Type 0} (o : Option ℕ) (x : X) (f : X → Y) → after (unless o x) (λ z. Ok (f z)) ≡ unless o (f x)
last (Some e) x f = refl
last None x f = refl

module _ (β p : ℕ) (m : Function) where
  lane_steps_lem : (l : Lane) (c d : Figure)
      → lane_steps β p m l c d ≡ unless (lane_fault β p m l c d) (turned_by m l c d)
  lane_steps_lem l c d =
      before (full l) (first taken (strayed (product_by m w c d))) l (turned_by m l c d) _
      (ap (λ (r : Result Phasor ℕ). after r (λ v. after (unless (strayed v) v) settled)) (last taken pair phasor_of)
      ∙ before taken (strayed (product_by m w c d)) (product_by m w c d) (turned_by m l c d) _
      (last (strayed (product_by m w c d)) (product_by m w c d) lane_of))
    where
      w : Phasor
      w = l.phasor

      taken : Option ℕ
      taken = faults β p w.real w.imaginary c d

      pair : Figure × Figure
      pair = (m w.real c (opposite w.imaginary) d, m w.real d w.imaginary c)

      lane_of : Phasor → Lane
      lane_of v = record { phasor = v; count = l.count + 1 }

      settled : Phasor → Result Lane ℕ
      settled v = Ok (lane_of v)

  pub turn_steps_lem : (ls : List Lane) (i : ℕ) (c d : Figure)
      → turn_steps β p m ls i c d ≡ unless (turn_fault β p m ls i c d) (turned_by m (at ls i) c d)
  unfolding turn_fault
  turn_steps_lem ls i c d =
      let new : Lane = turned_by m (at ls i) c d in
      before (no_lane i) _ (at ls i) new _
      (before (fault β p c) _ c new _ (before (fault β p d) _ d new _ (lane_steps_lem (at ls i) c d)))
