-- `host::machine_bytes::Fields::write` meets its contract. Assumes nothing.
use lib.Dec.{lit≤}
use Rattle.common.proofs.Placing.{nothing, more, whole}
use Rattle.bytes_at.specs.Numbers.{bytes_of}
use Rattle.bytes_at.proofs.Numbers.{length-bytes}
use Rattle.host.specs.MachineBytes.{field_bytes}
use Rattle.host.proofs.machine_bytes.Fields.write.Goals as goal

pub returns : goal.returns
unfolding field_bytes
returns c =
    let f = c.args.self in
    let p₁ = more (nothing 32 c.args.bytes.now c.requires) (bytes_of 4 f.state) 4 (length-bytes 4 f.state) (lit≤ tt) c.put_u32.ensures in
    let p₂ = more p₁ (bytes_of 4 f.accepted) 4 (length-bytes 4 f.accepted) (lit≤ tt) c.put_u32-2.ensures in
    let p₃ = more p₂ (bytes_of 8 f.last) 8 (length-bytes 8 f.last) (lit≤ tt) c.put_u64.ensures in
    let p₄ = more p₃ (bytes_of 8 f.issue) 8 (length-bytes 8 f.issue) (lit≤ tt) c.put_u64-2.ensures in
    let p₅ = more p₄ (bytes_of 8 f.at) 8 (length-bytes 8 f.at) (lit≤ tt) c.put_u64-3.ensures in
    whole p₅ (lit≤ tt)
