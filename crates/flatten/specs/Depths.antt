-- 11 DEPTH: where the row of depths stops. Only contracts inside this crate cite it. Assumes nothing.
use Rattle.std.specs.Prelude.{ℕ, ◌+◌}
use Rattle.scope.specs.Flattening.{most_open}

-- Depths stop above 32: the test of 11 tells no more.
abbrev pub depth_cap : ℕ
depth_cap = most_open + 1
