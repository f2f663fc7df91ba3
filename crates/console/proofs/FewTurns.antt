-- Where no lane has been turned too often and another lane has not either, none has once that lane is put in a place.
use Rattle.std.proofs.Common.{◌≡◌, ℕ, zero, suc, ◌≤◌, List, [], ◌∷◌, nat_lt, slice_set}
use Rattle.std.proofs.lemmas.Bool.{cond_both}
use Rattle.lanes.specs.declared.Lane.{Lane}
use Rattle.lanes.specs.Lanes.{put}
use Rattle.lanes.specs.Turning.{FewTurns}

few_set : (ls : List Lane) (i : ℕ) (l : Lane) → FewTurns ls → l.count ≤ 1000000 → FewTurns (slice_set ls i l)
few_set [] i l few here k = few k
few_set (x ∷ xs) zero l few here zero = here
few_set (x ∷ xs) zero l few here (suc k) = few (suc k)
few_set (x ∷ xs) (suc i) l few here zero = few zero
few_set (x ∷ xs) (suc i) l few here (suc k) = few_set xs i l (λ j. few (suc j)) here k

pub few_put : (ls new : List Lane) (i : ℕ) (l : Lane) → new ≡ put ls i l → FewTurns ls → l.count ≤ 1000000
    → FewTurns new
few_put ls new i l is few here =
    rw is (cond_both (nat_lt i 10) (slice_set ls i l) ls FewTurns (λ _. few_set ls i l few here) (λ _. few))
