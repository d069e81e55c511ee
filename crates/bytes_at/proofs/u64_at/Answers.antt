-- `bytes_at::u64_at` meets its contract. Assumes nothing.
use mathlib.Core.Path.{◌≡◌, ◌∙◌}
use borrow.Author.Rules.{rules}
use lib.ListN.{length}
use Rattle.bytes_at.proofs.Numbers.{from_le_8}
use Rattle.bytes_at.proofs.u64_at.Goals as goal

pub returns : goal.returns
returns c =
    let long : length c.bytes_from.result ≡ 8 = search rules in
    c.from_le_bytes.ensures ∙ from_le_8 c.bytes_from.result long ∙ c.bytes_from.ensures
