-- Following an event from C. Assumes nothing.
use mathlib.Core.Path.{◌≡◌, refl}
use mathlib.Core.Bool.{Bool, true, false, cond, ◌&&◌}
use mathlib.Core.List.{List}
use Prim.Native.Nat.{ℕ}
use native.Mathlib.Omega.{arith}
use borrow.Author.Tests.{eqb-true}
use lib.Dec.{eqb}
use lib.ListN.{length}
use Rattle.common.proofs.Tests.{both_true}
use Rattle.common.specs.Answer.{refused, given}
use Rattle.instructions.specs.Instructions.{following}
use Rattle.host.specs.declared.Call.{Call}
use Rattle.host.specs.MachineBytes.{fields_in, fields_rule, machine_rule, machine_in}
use Rattle.host.specs.Instruction.{is_event, event_of, in_bytes, instructing}

module _ (bytes : List ℕ) (c : Call) where
  pub not_good : machine_rule bytes && is_event c ≡ false → instructing bytes c ≡ refused 13
  unfolding instructing
  not_good h = rw h

  pub is-followed : machine_rule bytes && is_event c ≡ true → instructing bytes c ≡ in_bytes (following (machine_in bytes) (event_of c))
  unfolding instructing
  is-followed h = rw h

-- bytes that are a machine are 32
pub given-long : (bytes : List ℕ) (c : Call) (x : List ℕ) → instructing bytes c ≡ given x → length bytes ≡ 32
unfolding instructing
given-long bytes c x e = by (machine_rule bytes && is_event c) refl e
  where
    by : (b : Bool) → machine_rule bytes && is_event c ≡ b → cond b (in_bytes (following (machine_in bytes) (event_of c))) (refused 13) ≡ given x → length bytes ≡ 32
    by true good e =
        let m = both_true (machine_rule bytes) (is_event c) good in
        eqb-true (length bytes) 32 (both_true (eqb (length bytes) 32) (fields_rule (fields_in bytes)) m.0).0
    by false bad e = let o : ◌≡◌ {A = ℕ} 0 1 = cc in absurd (omega arith)
