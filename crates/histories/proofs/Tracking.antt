-- The lanes of a new console track the empty history, and every call keeps track.
use Rattle.std.proofs.Common.{◌≡◌, ℕ, ◌+◌, ◌<◌, Bool, true, false, cond, if◌then◌else◌, ◌==◌, nat_lt, ◌≢◌, List, []}
use Rattle.std.proofs.Common.{◌∷◌, length, set, replicate, Some, None, Option, sym, refl, ap, ◌∙◌, subst, ⊎_elim}
use Rattle.std.proofs.Common.{arith, length-set, get_or-set_other, get_or-set_same}
use lib.ListN.{get_or-replicate}
use Rattle.std.proofs.lemmas.Bool.Decides.{eqb_tells, nat_tests}
use Rattle.rounding.specs.declared.Figure.{Figure}
use Rattle.rounding.specs.Refusals.{first, unless, kept}
use Rattle.kinds.specs.Kinds.{IsKind}
use Rattle.kinds.proofs.Sizes.{radix_two}
use Rattle.bounds.specs.Fours.{fault}
use Rattle.bounds.proofs.Operands.{none_first}
use Rattle.bounds.proofs.Orders.{real_accepted, imaginary_accepted}
use Rattle.bounds.specs.Methods.{Function, IsReliable}
use Rattle.phasors.specs.Phasors.{product_by}
use Rattle.phasors.proofs.Fresh.{one_accepted, unit_near}
use Rattle.phasors.proofs.Turns.{near_more}
use Rattle.lanes.specs.declared.Lane.{Lane}
use Rattle.lanes.specs.Lanes.{at, put, fresh_lane}
use Rattle.lanes.specs.Turning.{no_lane, lane_fault, turned_by, turn_fault, after_turn, after_restart}
use Rattle.histories.specs.declared.Call.{Call}
use Rattle.histories.specs.declared.Call.TheVariants.{Turn, Restart}
use Rattle.histories.specs.Histories.{History, Course, begun, further, moved, course}
use Rattle.histories.specs.Tracking.{Tracks, TrackHistory, event, KeepsTrack}
use Rattle.histories.proofs.Faults.{lane_there, Turnable, turnable}

module _ (β p : ℕ) (kind : IsKind β p) (N D : ℕ) where
  fresh_tracks : Tracks β p N D begun (fresh_lane β p)
  fresh_tracks = record {
    count = refl;
    real = one_accepted β p kind;
    imaginary = refl;
    near = unit_near β p kind N D;
  }

  pub fresh_track : TrackHistory β p N D [] (replicate 10 (fresh_lane β p))
  fresh_track = record {
    ten = refl;
    each = λ i lt. subst (Tracks β p N D begun) (sym (get_or-replicate 10 i (fresh_lane β p) _ lt)) fresh_tracks;
  }

  -- a call that changes no course, or is refused
  pub still : (call : Call) (r : Bool) (ls : List Lane) → ((i : ℕ) (s : Course) → moved β i call s ≡ s)
      → KeepsTrack β p N D (record { call = call; refused = r }) ls ls
  still call true ls same = record { keeps = λ h track. record { ten = track.ten; each = track.each } }
  still call false ls same = record {
    keeps = λ h track. record {
      ten = track.ten;
      each = λ i lt.
          subst (λ (s : Course). Tracks β p N D s (at ls i)) (sym (same i (course β i h))) (track.each i lt);
    };
  }

  -- a call that was refused exactly where something was at fault
  by_fault : {X : Type 0} (call : Call) (x : X) (old new : List Lane) (o : Option ℕ)
      → (o ≡ None → (h : History) → TrackHistory β p N D h old
      → TrackHistory β p N D (record { call = call; refused = false } ∷ h) new)
      → KeepsTrack β p N D (event call (unless o x)) old (kept o old new)
  by_fault call x old new (Some e) done = record { keeps = λ h track. record { ten = track.ten; each = track.each } }
  by_fault call x old new None done = record { keeps = done refl }

  -- the lane j is replaced by one that tracks its course, moved by f
  replaced : (ls : List Lane) (j : ℕ) (l : Lane) (f : Course → Course) (h : History) → j < 10
      → TrackHistory β p N D h ls → Tracks β p N D (f (course β j h)) l
      → (i : ℕ) → i < 10 → Tracks β p N D (if i == j then f (course β i h) else course β i h) (at (put ls j l) i)
  replaced ls j l f h there track new i lt = subst
      (λ (ms : List Lane). Tracks β p N D (if i == j then f (course β i h) else course β i h) (at ms i))
      (sym (put_is ls j l there)) (⊎_elim same other (eqb_tells i j))
    where
      put_is : (ls : List Lane) (j : ℕ) (l : Lane) → j < 10 → put ls j l ≡ set ls j l
      put_is ls j l there =
          let t : nat_lt j 10 ≡ true = grind (arith, nat_tests) in ap (λ (b : Bool). cond b (set ls j l) ls) t

      same : ((i == j) ≡ true) × (i ≡ j)
          → Tracks β p N D (if i == j then f (course β i h) else course β i h) (at (set ls j l) i)
      same e =
          let ten = track.ten in
          let inside : j < length ls = omega arith in
          rw (e.0, e.1, get_or-set_same) new

      other : ((i == j) ≡ false) × (i ≡ j → ⊥)
          → Tracks β p N D (if i == j then f (course β i h) else course β i h) (at (set ls j l) i)
      other e =
          let apart : i ≢ j = e.1 in
          rw (e.0, get_or-set_other) (track.each i lt)

  ten_put : (ls : List Lane) (j : ℕ) (l : Lane) → length ls ≡ 10 → length (put ls j l) ≡ 10
  ten_put ls j l ten = elim (nat_lt j 10) as (λ (b : Bool). length (cond b (set ls j l) ls) ≡ 10) [
    | true ↦ length-set ls j l ∙ ten
    | false ↦ ten
  ]

  pub restart_keeps_track : {X : Type 0} (x : X) (ls : List Lane) (j : ℕ)
      → KeepsTrack β p N D (event (Restart j) (unless (no_lane j) x)) ls (after_restart β p ls j)
  unfolding after_restart
  restart_keeps_track x ls j =
      by_fault (Restart j) x ls (put ls j (fresh_lane β p)) (no_lane j) (λ none h track. record {
        ten = ten_put ls j (fresh_lane β p) track.ten;
        each = replaced ls j (fresh_lane β p) (λ s. begun) h (lane_there j none) track fresh_tracks;
      })

  module _ (m : Function) (law : IsReliable β p N D m) where
    -- an accepted turn by c + di
    turned_tracks : (s : Course) (l : Lane) (c d : Figure) → lane_fault β p m l c d ≡ None → Tracks β p N D s l
        → Tracks β p N D (further β c d s) (turned_by m l c d)
    turned_tracks s l c d none before =
        let can : Turnable β p m l c d = turnable β p m l c d none in
        let w = l.phasor in
        let real = real_accepted β p kind w.real w.imaginary c d can.accepted in
        let imaginary = imaginary_accepted β p kind w.real w.imaginary c d can.accepted in
        record {
          count = ap (λ (n : ℕ). n + 1) before.count;
          real = can.real (law.figure _ _ _ _ real);
          imaginary = can.imaginary (law.figure _ _ _ _ imaginary);
          near = near_more β (radix_two β p kind) N D s.turns w (product_by m w c d) c d s.product before.near
              (law.near _ _ _ _ real) (law.near _ _ _ _ imaginary);
        }

    pub turn_keeps_track : {X : Type 0} (x : X) (ls : List Lane) (j : ℕ) (c d : Figure)
        → KeepsTrack β p N D (event (Turn j c d) (unless (turn_fault β p m ls j c d) x)) ls (after_turn β p m ls j c d)
    unfolding turn_fault after_turn
    turn_keeps_track x ls j c d =
        by_fault (Turn j c d) x ls (put ls j (turned_by m (at ls j) c d)) (turn_fault β p m ls j c d)
        (λ none h track.
        let rest : Option ℕ = lane_fault β p m (at ls j) c d in
        let outer = none_first (no_lane j) (first (fault β p c) (first (fault β p d) rest)) none in
        let inner = none_first (fault β p c) (first (fault β p d) rest) outer.1 in
        let last = none_first (fault β p d) rest inner.1 in
        let there : j < 10 = lane_there j outer.0 in
        record {
          ten = ten_put ls j (turned_by m (at ls j) c d) track.ten;
          each = replaced ls j (turned_by m (at ls j) c d) (further β c d) h there track
              (turned_tracks (course β j h) (at ls j) c d last.1 (track.each j there));
        })
