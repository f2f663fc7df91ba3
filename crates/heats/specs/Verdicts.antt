-- What a difference of two times says of the heat.
use Rattle.std.specs.Prelude.{List, ℕ, ℤ, pos, negsuc, codes, ◌==◌, if◌then◌else◌}
use Rattle.heats.specs.declared.verdict.Verdict.{Verdict}
use Rattle.heats.specs.declared.verdict.Verdict.TheVariants.{FirstLane, DeadHeat, SecondLane}

-- who touched first, by the sign of the difference
abbrev pub verdict_of : ℤ → Verdict
verdict_of (pos n) = if n == 0 then DeadHeat else SecondLane
verdict_of (negsuc n) = FirstLane

abbrev pub verdict_text : Verdict → List ℕ
verdict_text FirstLane = codes "below zero: the first lane touched first"
verdict_text DeadHeat = codes "zero: a dead heat"
verdict_text SecondLane = codes "above zero: the second lane touched first"
