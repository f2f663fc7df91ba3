-- Lists of entries: one answer more in a loop over them, and the law over a whole run.
use Rattle.std.proofs.Common.{◌≡◌, ℕ, zero, suc, ◌+◌, ◌<◌, ◌≤◌, List, [], ◌∷◌, ◌++◌, length, get_or, take, drop, set}
use Rattle.std.proofs.Common.{replicate, Ok, Result, sym, refl, ap, ◌∙◌, subst, append-nil, le_of_suc-le-suc}
use Rattle.std.proofs.Common.{not-suc-le-zero, add-one, take_all}
use Rattle.std.proofs.lemmas.List.{drop_all}
use Rattle.rounding.specs.declared.Refusal.{Refusal}
use Rattle.rounding.specs.Refusals.{coded}
use Rattle.rounding.specs.Rounding.{zero_figure}
use Rattle.kinds.specs.Kinds.{IsKind}
use Rattle.bounds.specs.Methods.{Function, IsReliable}
use Rattle.lanes.specs.declared.Lane.{Lane}
use Rattle.lanes.specs.Lanes.{fresh_lane}
use Rattle.histories.specs.declared.Call.{Call}
use Rattle.histories.specs.declared.Call.TheVariants.{Sum}
use Rattle.histories.specs.Histories.{History}
use Rattle.histories.specs.Tracking.{TrackHistory, event}
use Rattle.histories.proofs.Tracking.{fresh_track}
use Rattle.runs.specs.declared.Answer.{Answer}
use Rattle.runs.specs.declared.Answer.TheVariants.{Value}
use Rattle.runs.specs.declared.Entry.{Entry}
use Rattle.runs.specs.Answers.{answer_to, lanes_after}
use Rattle.runs.specs.Following.{Follows}
use Rattle.runs.specs.Entries.{calls_of, answers_of, answers_to, lanes_after_all, history_of, AllFollow, RunTracked}
use Rattle.runs.proofs.Following.{call_law}

-- of a run of the calls cs from the lanes from, the calls before i are made: es are the entries now, and ls the lanes
pub record MadeBefore (β p : ℕ) (m : Function) (from : List Lane) (cs : List Call) (i : ℕ) (es : List Entry)
    (ls : List Lane) : Type 0 where
  pub calls : calls_of es ≡ cs
  pub answers : answers_of (take i es) ++ answers_to β p m ls (calls_of (drop i es)) ≡ answers_to β p m from cs
  pub lanes : lanes_after_all β p m ls (calls_of (drop i es)) ≡ lanes_after_all β p m from cs

-- the entry that is read past the end of a list
abbrev pub blank : Entry
blank = record { call = Sum zero_figure zero_figure zero_figure zero_figure; answer = Ok (Value zero_figure) }

-- the entry at i is given its answer; d stands for an entry past the end
abbrev pub given : Entry → Result Answer Refusal → List Entry → ℕ → List Entry
given d a es i = set es i (record { call = (get_or es i d).call; answer = a })

module _ (d : Entry) (a : Result Answer Refusal) where
  calls_given : (es : List Entry) (i : ℕ) → calls_of (given d a es i) ≡ calls_of es
  calls_given [] i = refl
  calls_given (e ∷ es) zero = refl
  calls_given (e ∷ es) (suc i) = ap (λ (cs : List Call). e.call ∷ cs) (calls_given es i)

  module _ (β p : ℕ) (m : Function) (ls : List Lane) where
    answers_given : (es : List Entry) (i : ℕ) → i < length es → coded a ≡ answer_to β p m ls (get_or es i d).call
        → answers_of (take (suc i) (given d a es i))
        ++ answers_to β p m (lanes_after β p m ls (get_or es i d).call) (calls_of (drop (suc i) (given d a es i)))
        ≡ answers_of (take i es) ++ answers_to β p m ls (calls_of (drop i es))
    answers_given [] i h is = absurd (not-suc-le-zero h)
    answers_given (e ∷ es) zero h is =
        ap (λ (r : Result Answer ℕ). r ∷ answers_to β p m (lanes_after β p m ls e.call) (calls_of es)) is
    answers_given (e ∷ es) (suc i) h is =
        ap (λ (rs : List (Result Answer ℕ)). coded e.answer ∷ rs) (answers_given es i (le_of_suc-le-suc h) is)

    lanes_given : (es : List Entry) (i : ℕ) → i < length es
        → lanes_after_all β p m (lanes_after β p m ls (get_or es i d).call) (calls_of (drop (suc i) (given d a es i)))
        ≡ lanes_after_all β p m ls (calls_of (drop i es))
    lanes_given [] i h = absurd (not-suc-le-zero h)
    lanes_given (e ∷ es) zero h = refl
    lanes_given (e ∷ es) (suc i) h = lanes_given es i (le_of_suc-le-suc h)

module _ (β p : ℕ) (m : Function) (from : List Lane) (cs : List Call) where
  pub made_more : (d : Entry) (a : Result Answer Refusal) (i : ℕ) (es : List Entry) (ls to : List Lane)
      → MadeBefore β p m from cs i es ls → i < length es → coded a ≡ answer_to β p m ls (get_or es i d).call
      → to ≡ lanes_after β p m ls (get_or es i d).call → MadeBefore β p m from cs (i + 1) (given d a es i) to
  made_more d a i es ls to made h answer lanes =
      subst (λ (n : ℕ). MadeBefore β p m from cs n (given d a es i) to) (sym (add-one i))
      (subst (MadeBefore β p m from cs (suc i) (given d a es i)) (sym lanes) (record {
        calls = calls_given d a es i ∙ made.calls;
        answers = answers_given d a β p m ls es i h answer ∙ made.answers;
        lanes = lanes_given d a β p m ls es i h ∙ made.lanes;
      }))

  pub made_all : (i : ℕ) (es : List Entry) (ls : List Lane) → MadeBefore β p m from cs i es ls → length es ≤ i
      → (answers_of es ≡ answers_to β p m from cs) × (ls ≡ lanes_after_all β p m from cs)
  made_all i es ls made h =
      let none : calls_of (drop i es) ≡ [] = ap calls_of (drop_all i es h) in
      let made_answers : answers_of es ++ answers_to β p m ls [] ≡ answers_to β p m from cs =
      subst (λ (l : List Entry). answers_of l ++ answers_to β p m ls [] ≡ answers_to β p m from cs) (take_all i es h)
      (subst (λ (l : List Call). answers_of (take i es) ++ answers_to β p m ls l ≡ answers_to β p m from cs) none
      made.answers) in (
        sym (append-nil (answers_of es)) ∙ made_answers,
        subst (λ (l : List Call). lanes_after_all β p m ls l ≡ lanes_after_all β p m from cs) none made.lanes,
      )

-- the law over a run whose answers are those to its calls
module _ (β p : ℕ) (kind : IsKind β p) (N D : ℕ) (m : Function) (law : IsReliable β p N D m) where
  run_tracks : (es : List Entry) (ls : List Lane) (h : History) → answers_of es ≡ answers_to β p m ls (calls_of es)
      → TrackHistory β p N D h ls
      → TrackHistory β p N D (history_of es h) (lanes_after_all β p m ls (calls_of es)) × AllFollow β p N D m h es
  run_tracks [] ls h is track = (track, tt)
  run_tracks (e ∷ es) ls h is track =
      let told = call_law β p kind N D m law ls e.call in
      let here : coded e.answer ≡ answer_to β p m ls e.call = cc in
      let rest : answers_of es ≡ answers_to β p m (lanes_after β p m ls e.call) (calls_of es) = cc in
      let after = subst (λ (r : Result Answer ℕ).
      TrackHistory β p N D (event e.call r ∷ h) (lanes_after β p m ls e.call)) (sym here)
      (told.track.keeps h track) in
      let next = run_tracks es (lanes_after β p m ls e.call) (event e.call (coded e.answer) ∷ h) rest after in (
        next.0,
        (subst (Follows β p N D m h e.call) (sym here) (told.follows.follows h track), next.1),
      )

  -- and so of a new console
  pub run_tracked : (es : List Entry) (cs : List Call) (from ls : List Lane) → calls_of es ≡ cs
      → answers_of es ≡ answers_to β p m from cs → ls ≡ lanes_after_all β p m from cs
      → from ≡ replicate 10 (fresh_lane β p) → RunTracked β p N D m es ls
  run_tracked es cs from ls calls answers lanes fresh =
      let tracked = run_tracks es from []
      (answers ∙ sym (ap (answers_to β p m from) calls))
      (subst (TrackHistory β p N D []) (sym fresh) (fresh_track β p kind N D)) in
      record {
        lanes = subst (TrackHistory β p N D (history_of es []))
            (ap (lanes_after_all β p m from) calls ∙ sym lanes) tracked.0;
        answers = tracked.1;
      }
