-- Calls made one after the other keep track, since each of them does.
use Rattle.std.proofs.Common.{ℕ, List, [], ◌∷◌}
use Rattle.kinds.specs.Kinds.{IsKind}
use Rattle.bounds.specs.Methods.{Function, IsReliable}
use Rattle.lanes.specs.declared.Lane.{Lane}
use Rattle.histories.specs.declared.Call.{Call}
use Rattle.runs.specs.Answers.{lanes_after}
use Rattle.runs.specs.Entries.{AllKeepTrack}
use Rattle.runs.proofs.Following.{track}

module _ (β p : ℕ) (kind : IsKind β p) (N D : ℕ) (m : Function) (law : IsReliable β p N D m) where
  pub all_keep_track : (ls : List Lane) (calls : List Call) → AllKeepTrack β p N D m ls calls
  all_keep_track ls [] = record { keep = λ h tracked. tracked }
  all_keep_track ls (c ∷ cs) = record {
    keep = λ h tracked.
        (all_keep_track (lanes_after β p m ls c) cs).keep _ ((track β p kind N D m law ls c).keeps h tracked);
  }
