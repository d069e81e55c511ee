-- The points of a capability as bytes: room and capability of each, four bytes with the lowest first. Assumes nothing.
use Rattle.std.specs.Prelude.{◌&&◌, cond, List, ℕ, ◌/◌, ◌%◌, leb, eqb, length}
use Rattle.common.specs.Answer.{Answer, refused}
use Rattle.capability.specs.declared.Limits.{Limits}
use Rattle.capability.specs.declared.Point.{Point}
use Rattle.capability.specs.declared.Energies.{Energies}
use Rattle.capability.specs.Quantity.{quantity_answer}
use Rattle.host.specs.Pairs.{first_pairs}

abbrev pub point : ℕ → ℕ → Point
point room capability = record { room = room; capability = capability }

abbrev pub points_in : List ℕ → List Point
points_in bytes = first_pairs point (length bytes / 8) bytes

-- whole points, five at most; any other length breaks the rule
unfoldable pub quantity_in : ℕ → ℕ → Energies → Limits → List ℕ → ℕ → Answer ℕ
quantity_in direction available e l bytes limit =
    cond (eqb (length bytes % 8) 0 && leb (length bytes) 40) (quantity_answer direction available e l (points_in bytes) limit)
    (refused 12)
