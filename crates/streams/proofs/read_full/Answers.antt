-- `streams::read_full` meets its contract: what a turn reads comes behind what was there. Assumes nothing.
use Rattle.std.proofs.Common.{◌≡◌, ℕ, ◌+◌, ◌-◌, ◌≤◌, List, ◌++◌, rules, length, take, sym, ap, ◌∙◌, subst, length-take-le}
use Rattle.std.specs.Io.KnownBytes.{Consumes}
use Rattle.std.proofs.KnownBytes.{Consumes-trans}
use borrow.Rule.Slice.PartMut.{put_mid, post_of}
use lib.Seq.{take-append-add, take-append-le}
use Rattle.streams.proofs.read_full.Goals as goal

-- the first bytes are those that were there and the first n of the part that was read into
take-read : (at n : ℕ) (buffer part : List ℕ) → at ≤ length buffer → n ≤ length part
    → take (at + n) (put_mid at (length buffer - at) buffer part) ≡ take at buffer ++ take n part
take-read at n buffer part within fits =
    let after = post_of at (length buffer - at) buffer in
    ap (λ i. take (i + n) (take at buffer ++ (part ++ after))) (sym (length-take-le at buffer within))
    ∙ take-append-add (take at buffer) (part ++ after) n
    ∙ ap (λ l. take at buffer ++ l) (take-append-le n part after fits)

pub loop-count-preserved : goal.loop-count-preserved
loop-count-preserved g c =
    let l = c.loop-count in
    let read = take-read l.count c.in_ok-n.n l.buffer c.read.new.buf l.invariant.0 c.in_ok-n.ensures.bound.0 in
    (search rules, subst (Consumes _ _) (sym read) (Consumes-trans _ _ _ _ _ l.invariant.1 c.in_ok-n.ensures.bytes.0))
