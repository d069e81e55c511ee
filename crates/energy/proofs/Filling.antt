-- The loop of `fill`: below the entry i of the part that is filled, the whole ones of the parts were added. Assumes nothing.
use mathlib.Core.Path.{◌≡◌}
use mathlib.Core.List.{List}
use Prim.Native.Nat.{ℕ, ◌+◌, ◌*◌}
use lib.ListN.{length}
use Rattle.energy.specs.Table.{Added, wholes}

module _ (first step : ℕ) (before : List ℕ) where
  pub record Filling (entries : List ℕ) (parts i : ℕ) : Type 0 where
    pub long : length entries ≡ length before
    pub parts_are : parts ≡ first + step * i
    pub so_far : Added 0 i (wholes first step) before entries
