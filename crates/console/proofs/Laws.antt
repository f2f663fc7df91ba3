-- What is proved of the calls of a console: their outcomes are decided by their faults, and they keep track.
use Rattle.std.proofs.Common.{◌≡◌, ℕ, ◌+◌, List, Some, None, Ok, Err, Result, refl, ap, ◌∙◌}
use Rattle.rounding.specs.declared.Figure.{Figure}
use Rattle.rounding.specs.Refusals.{unless}
use Rattle.kinds.specs.Kinds.{IsKind}
use Rattle.bounds.specs.Methods.{Function, IsReliable}
use Rattle.lanes.specs.declared.Lane.{Lane}
use Rattle.lanes.specs.Lanes.{at, put, fresh_lane}
use Rattle.lanes.specs.Turning.{no_lane, turned_by, turn_fault, after_turn, after_restart}
use Rattle.histories.proofs.Tracking.{still, restart_keeps_track, turn_keeps_track}
use Rattle.console.specs.Steps.{turn_steps}
use Rattle.console.specs.Laws.{FourLaw, TurnLaw, RestartLaw}
use Rattle.console.proofs.Outcomes.{refused, answered, refused_alike, refused_keeps, answered_alike, answered_sets}
use Rattle.console.proofs.Steps.{turn_steps_lem}

module _ (β p : ℕ) (kind : IsKind β p) (N D : ℕ) (ls : List Lane) where
  pub four_law : (m : Function) (a b c d : Figure) → FourLaw β p N D m ls a b c d
  four_law m a b c d = record {
    sum = still β p kind N D _ _ ls (λ i s. refl);
    determinant = still β p kind N D _ _ ls (λ i s. refl);
    product = still β p kind N D _ _ ls (λ i s. refl);
  }

  module _ (i : ℕ) where
    there : (l : Lane) → Ok l ≡ unless (no_lane i) (at ls i) → no_lane i ≡ None
    there l e = (answered (no_lane i) (at ls i) l e).0

    pub restart_law : RestartLaw β p N D ls i
    unfolding after_restart
    restart_law = record {
      answered = λ l e. answered_alike (no_lane i) 0 (there l e);
      left = λ n e. refused_keeps (no_lane i) ls (put ls i (fresh_lane β p)) n (refused (no_lane i) (at ls i) n e);
      placed = λ l e. answered_sets (no_lane i) ls (put ls i (fresh_lane β p)) (there l e);
      track = restart_keeps_track β p kind N D 0 ls i;
    }

    module _ (m : Function) (law : IsReliable β p N D m) (c d : Figure) where
      stopped : (n : ℕ) → Err n ≡ turn_steps β p m ls i c d → turn_fault β p m ls i c d ≡ Some n
      stopped n e =
          refused (turn_fault β p m ls i c d) (turned_by m (at ls i) c d) n (e ∙ turn_steps_lem β p m ls i c d)

      went : (l : Lane) → Ok l ≡ turn_steps β p m ls i c d
          → (turn_fault β p m ls i c d ≡ None) × (l ≡ turned_by m (at ls i) c d)
      went l e = answered (turn_fault β p m ls i c d) (turned_by m (at ls i) c d) l (e ∙ turn_steps_lem β p m ls i c d)

      pub turn_law : TurnLaw β p N D m ls i c d
      unfolding after_turn
      turn_law = record {
        refused = λ n e. refused_alike (turn_fault β p m ls i c d) ((at ls i).count + 1) n (stopped n e);
        left = λ n e.
            refused_keeps (turn_fault β p m ls i c d) ls (put ls i (turned_by m (at ls i) c d)) n (stopped n e);
        turned = λ l e.
            ap (λ (k : Lane). counted k.count) (went l e).1
            ∙ answered_alike (turn_fault β p m ls i c d) ((at ls i).count + 1) (went l e).0;
        placed = λ l e.
            ap (put ls i) (went l e).1
            ∙ answered_sets (turn_fault β p m ls i c d) ls (put ls i (turned_by m (at ls i) c d)) (went l e).0;
        track = turn_keeps_track β p kind N D m law ((at ls i).count + 1) ls i c d;
      }
        where
          counted : ℕ → Result ℕ ℕ
          counted n = Ok n
