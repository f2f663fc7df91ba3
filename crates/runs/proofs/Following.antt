-- The answer to every call keeps track and follows from the calls before it.
use Rattle.std.proofs.Common.{◌≡◌, ℕ, ◌+◌, ◌<◌, Bool, true, false, cond, nat_lt, ◌⊎◌, List, Some, None, Ok, Err}
use Rattle.std.proofs.Common.{Option, Result, sym, refl, ap, ◌∙◌, subst, inl, inr}
use Rattle.rounding.specs.declared.Figure.{Figure}
use Rattle.rounding.specs.declared.Refusal.TheVariants.{LaneFull, PhasorRange}
use Rattle.rounding.specs.Operations.{reaches}
use Rattle.rounding.specs.Refusals.{number, first, unless}
use Rattle.kinds.specs.Kinds.{IsKind}
use Rattle.bounds.specs.Fours.{fault, faults}
use Rattle.bounds.proofs.Operands.{none_first}
use Rattle.bounds.proofs.Orders.{together}
use Rattle.bounds.specs.Methods.{Function, IsReliable}
use Rattle.phasors.specs.declared.Phasor.{Phasor}
use Rattle.phasors.specs.Phasors.{product_by}
use Rattle.lanes.specs.declared.Lane.{Lane}
use Rattle.lanes.specs.Lanes.{at}
use Rattle.lanes.specs.Turning.{no_lane, far, strayed, turn_fault}
use Rattle.histories.specs.declared.Call.{Call}
use Rattle.histories.specs.declared.Call.TheVariants.{Sum, Determinant, Product, Turn, Restart, Read}
use Rattle.histories.specs.Histories.{History, course}
use Rattle.histories.specs.Tracking.{TrackHistory, event, is_refused, KeepsTrack}
use Rattle.histories.proofs.Faults.{lane_there}
use Rattle.histories.proofs.Tracking.{still, restart_keeps_track, turn_keeps_track}
use Rattle.console.specs.Readings.{reading_of}
use Rattle.runs.specs.declared.Answer.{Answer}
use Rattle.runs.specs.declared.Answer.TheVariants.{Count, Shown}
use Rattle.runs.specs.Answers.{mapped, answer_to, lanes_after}
use Rattle.runs.specs.Following.{foreseen, TurnFollows, ReadingFollows, Follows, CallLaw}

-- a case of `Answer` changes nothing of a refusal
mapped_refused : {X : Type 0} (f : X → Answer) (r : Result X ℕ) → is_refused (mapped f r) ≡ is_refused r
mapped_refused f (Ok x) = refl
mapped_refused f (Err e) = refl

-- the faults of a turn: first those that the calls foresee, then those of the phasor
faults_in_two : (a b c f r : Option ℕ)
    → first a (first b (first c (first f r))) ≡ first (first a (first b (first c f))) r
faults_in_two (Some e) b c f r = refl
faults_in_two None (Some e) c f r = refl
faults_in_two None None (Some e) f r = refl
faults_in_two None None None f r = refl

-- a phasor strays by one refusal alone
strays : (w : Phasor) → (strayed w ≡ None) ⊎ (strayed w ≡ Some (number PhasorRange))
strays w = go (reaches 200 w.real) (reaches 200 w.imaginary)
  where
    far_fault : Bool → Option ℕ
    far_fault x = cond x None (Some (number PhasorRange))

    go : (x y : Bool) → (first (far_fault x) (far_fault y) ≡ None)
        ⊎ (first (far_fault x) (far_fault y) ≡ Some (number PhasorRange))
    go true true = inl refl
    go true false = inr refl
    go false y = inr refl

module _ (β p : ℕ) (kind : IsKind β p) (N D : ℕ) (m : Function) (law : IsReliable β p N D m) (ls : List Lane) where
  keeps : {X : Type 0} (call : Call) (f : X → Answer) (r : Result X ℕ) (after : List Lane)
      → KeepsTrack β p N D (event call r) ls after → KeepsTrack β p N D (event call (mapped f r)) ls after
  keeps call f r after h =
      subst (λ (b : Bool). KeepsTrack β p N D (record { call = call; refused = b }) ls after)
      (sym (mapped_refused f r)) h

  pub track : (call : Call) → KeepsTrack β p N D (event call (answer_to β p m ls call)) ls (lanes_after β p m ls call)
  track (Sum a b c d) = still β p kind N D (Sum a b c d) _ ls (λ i s. refl)
  track (Determinant a b c d) = still β p kind N D (Determinant a b c d) _ ls (λ i s. refl)
  track (Product a b c d) = still β p kind N D (Product a b c d) _ ls (λ i s. refl)
  track (Turn i c d) = keeps (Turn i c d) Count (unless (turn_fault β p m ls i c d) ((at ls i).count + 1)) _
      (turn_keeps_track β p kind N D m law ((at ls i).count + 1) ls i c d)
  track (Restart i) = keeps (Restart i) Count (unless (no_lane i) 0) _ (restart_keeps_track β p kind N D 0 ls i)
  track (Read i) = still β p kind N D (Read i) _ ls (λ j s. refl)

  module _ (h : History) (tracked : TrackHistory β p N D h ls) where
    -- what is foreseen from the calls is what the lane's own count says
    same_foreseen : (i : ℕ) (c d : Figure)
        → foreseen β p (at ls i).count i c d ≡ foreseen β p (course β i h).turns i c d
    same_foreseen i c d = go (no_lane i) refl
      where
        rest : ℕ → Option ℕ
        rest n = first (fault β p c) (first (fault β p d) (cond (nat_lt n 1000000) None (Some (number LaneFull))))

        go : (o : Option ℕ) → no_lane i ≡ o → first o (rest (at ls i).count) ≡ first o (rest (course β i h).turns)
        go (Some e) is = refl
        go None is = ap rest (tracked.each i (lane_there i is)).count

    -- where nothing is foreseen, only the new phasor can stop a turn
    only_strays : (i : ℕ) (c d : Figure) → foreseen β p (course β i h).turns i c d ≡ None
        → turn_fault β p m ls i c d ≡ strayed (product_by m (at ls i).phasor c d)
    unfolding turn_fault
    only_strays i c d none =
        let w = (at ls i).phasor in
        let late = first (faults β p w.real w.imaginary c d) (strayed (product_by m w c d)) in
        let full = cond (nat_lt (course β i h).turns 1000000) None (Some (number LaneFull)) in
        let outer = none_first (no_lane i) (first (fault β p c) (first (fault β p d) full)) none in
        let inner = none_first (fault β p c) (first (fault β p d) full) outer.1 in
        let last = none_first (fault β p d) full inner.1 in
        let lane = tracked.each i (lane_there i outer.0) in
        faults_in_two (no_lane i) (fault β p c) (fault β p d) _ late
        ∙ ap (λ (o : Option ℕ). first o late) (same_foreseen i c d ∙ none)
        ∙ ap (λ (o : Option ℕ). first o (strayed (product_by m w c d)))
        (together β p w.real w.imaginary c d lane.real lane.imaginary inner.0 last.0)

    turn_follows : (i : ℕ) (c d : Figure) → TurnFollows β p (course β i h) i c d (answer_to β p m ls (Turn i c d))
    unfolding turn_fault
    turn_follows i c d = record {
      refused = λ e is. ap (λ (o : Option ℕ). told o (at ls i).count)
          (faults_in_two (no_lane i) (fault β p c) (fault β p d) _ _
          ∙ ap (λ (o : Option ℕ). first o late) (same_foreseen i c d ∙ is));
      accepted = λ none.
          let there : i < 10 = lane_there i (none_first (no_lane i) _ none).0 in
          let count : (at ls i).count ≡ (course β i h).turns = (tracked.each i there).count in
          elim (strays (product_by m (at ls i).phasor c d)) [
            | inl near ↦ inl (ap (λ (o : Option ℕ). told o (at ls i).count) (only_strays i c d none ∙ near)
                ∙ ap (told None) count)
            | inr far ↦ inr (ap (λ (o : Option ℕ). told o (at ls i).count) (only_strays i c d none ∙ far))
          ];
    }
      where
        told : Option ℕ → ℕ → Result Answer ℕ
        told o n = mapped Count (unless o (n + 1))

        late : Option ℕ
        late = first (faults β p (at ls i).phasor.real (at ls i).phasor.imaginary c d)
            (strayed (product_by m (at ls i).phasor c d))

    reading_follows : (i : ℕ) → ReadingFollows β p N D (course β i h) i (answer_to β p m ls (Read i))
    reading_follows i = record {
      refused = λ e is. ap told is;
      accepted = λ none. (reading_of (at ls i), (ap told none, tracked.each i (lane_there i none)));
    }
      where
        told : Option ℕ → Result Answer ℕ
        told o = mapped Shown (unless o (reading_of (at ls i)))

    follows : (call : Call) → Follows β p N D m h call (answer_to β p m ls call)
    follows (Sum a b c d) = refl
    follows (Determinant a b c d) = refl
    follows (Product a b c d) = refl
    follows (Turn i c d) = turn_follows i c d
    follows (Restart i) = refl
    follows (Read i) = reading_follows i

  pub call_law : (call : Call) → CallLaw β p N D m ls call
  call_law call = record { track = track call; follows = record { follows = λ h tracked. follows h tracked call } }
