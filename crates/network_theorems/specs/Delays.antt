-- The delays of both relations, by one number: the rules S27 and T13 of docs/RULES.md.
use Rattle.std.specs.Prelude.{ℕ, suc}
use Rattle.settings.specs.declared.Relation.{Relation}
use Rattle.settings.specs.declared.Relation.TheVariants.{Above, AtOrAbove}

-- S27: the least count that brings the long delay: one more than the threshold, or by the newer relation the threshold itself
abbrev pub least_long : Relation → ℕ → ℕ
least_long Above threshold = suc threshold
least_long AtOrAbove threshold = threshold
