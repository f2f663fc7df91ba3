-- The constants of the two kinds keep the rules of a kind. (Proofs: sources may cite those of specs/ alone.)
use Rattle.std.proofs.Common.{rules}
use Rattle.kinds.specs.Kinds.{IsKind, IsMark}

pub binary_is_kind : IsKind 2 24
binary_is_kind = search rules

pub decimal_is_kind : IsKind 10 7
decimal_is_kind = search rules

pub p_is_mark : IsMark 112
p_is_mark = search rules

pub e_is_mark : IsMark 101
e_is_mark = search rules
