-- `copying::halve` finds the line of a copy in which a flat line lies.
-- It is the last of the lines that start at or before the flat line. Assumes nothing.
use Rattle.std.proofs.Common.{rules, ◌≡◌, refl, ℕ, ◌-◌, true, false, leb}
use Rattle.std.specs.List.Sorted.{IsPartitionPoint}
use Rattle.std.proofs.lemmas.List.Sorted.{IsPartitionPoint-from_clause}
use Rattle.flatten.proofs.Finding.{at_or_below, some_are_below, line_before_fits, line_of_the_partition}
use Rattle.flatten.proofs.copying.halve.Goals as goal

module _ (c : goal.After-partition_point-behind) where
  abbrev x : ℕ
  x = c.args.p.0 - c.args.copy.base.0

  point : IsPartitionPoint (λ n. leb n x ≡ true) (λ n. leb n x ≡ false) c.of.result.now c.partition_point-behind.result
  point = IsPartitionPoint-from_clause (λ n. leb n x) _ _ c.partition_point-behind.ensures.partitioned (search at_or_below) (λ a r q k. search rules)

pub overflow_sub-result : goal.overflow_sub-result
overflow_sub-result c = some_are_below _ _ c.args.starts.now.filled _ _ _ c.requires (x c) refl _ c.of.ensures _ c.partition_point-behind.ensures.bound (point c)

pub overflow_cast-result : goal.overflow_cast-result
overflow_cast-result c = line_before_fits _ _ c.args.starts.now.filled _ _ _ c.requires (x c) refl _ c.of.ensures _ c.partition_point-behind.ensures.bound (point c)

pub returns : goal.returns
returns c = line_of_the_partition _ _ c.args.starts.now.filled _ _ _ c.requires (x c) refl _ c.of.ensures _ c.partition_point-behind.ensures.bound (point c)
