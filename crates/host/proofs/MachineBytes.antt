-- The machine's 32 bytes: reading what was written gives the machine back, and writing what was read the bytes. Assumes nothing.
use mathlib.Core.Path.{◌≡◌, refl, sym}
use mathlib.Core.Bool.{Bool, true, false, ◌&&◌, ◌||◌}
use mathlib.Core.List.{List, [], ◌++◌, append_assoc, append-nil}
use Prim.Native.Nat.{ℕ, ◌≤◌, ◌<◌, ◌^◌}
use native.Mathlib.Omega.{arith}
use borrow.Author.Tests.{leb-true, eqb-true, eqb-false}
use lib.Dec.{leb, eqb}
use lib.ListN.{length, get_or, replicate, length-append}
use lib.Seq.{take-add, take_all}
use Rattle.common.proofs.Tests.{both_true}
use Rattle.bytes_at.specs.Numbers.{bytes_of, number_at}
use Rattle.bytes_at.proofs.Numbers.{length-bytes, read_back, write-back}
use Rattle.instructions.specs.declared.State.{State}
use Rattle.instructions.specs.declared.State.TheVariants.{Idle, StartPending, Delivering, CeasePending}
use Rattle.instructions.specs.declared.Machine.{Machine}
use Rattle.instructions.specs.Instructions.{fresh}
use Rattle.host.specs.declared.machine_bytes.Fields.{Fields}
use Rattle.host.specs.MachineBytes.{field_bytes, fields_in, flag, state_fields, fields_of, fields_rule, state_of, machine_of, machine_bytes, TimesFit, ReadBack, WrittenBack}

-- ---- the bytes of five numbers
module _ (f : Fields) where
  abbrev to-accepted : List ℕ
  to-accepted = bytes_of 4 f.state ++ bytes_of 4 f.accepted

  abbrev to_last : List ℕ
  to_last = to-accepted ++ bytes_of 8 f.last

  abbrev to-issue : List ℕ
  to-issue = to_last ++ bytes_of 8 f.issue

  fields-long : length (field_bytes f) ≡ 32
  unfolding field_bytes
  fields-long = simp (length-append, length-bytes)

  module _ (s : f.state < 2 ^ 32) (a : f.accepted < 2 ^ 32) (t : TimesFit f) where
    state-back : number_at 4 0 (field_bytes f) ≡ f.state
    unfolding field_bytes
    state-back = simp append_assoc (read_back 4 f.state [] (bytes_of 4 f.accepted ++ (bytes_of 8 f.last ++ (bytes_of 8 f.issue ++ bytes_of 8 f.at))) 0 refl s)

    accepted-back : number_at 4 4 (field_bytes f) ≡ f.accepted
    unfolding field_bytes
    accepted-back = simp append_assoc (read_back 4 f.accepted (bytes_of 4 f.state) (bytes_of 8 f.last ++ (bytes_of 8 f.issue ++ bytes_of 8 f.at)) 4 (length-bytes 4 f.state) a)

    last-back : number_at 8 8 (field_bytes f) ≡ f.last
    unfolding field_bytes
    last-back =
        simp append_assoc
        (simp append_assoc at (read_back 8 f.last to-accepted (bytes_of 8 f.issue ++ bytes_of 8 f.at) 8 (simp (length-append, length-bytes)) t.last))

    issue-back : number_at 8 16 (field_bytes f) ≡ f.issue
    unfolding field_bytes
    issue-back =
        simp append_assoc
        (simp append_assoc at (read_back 8 f.issue to_last (bytes_of 8 f.at) 16 (simp (length-append, length-bytes)) t.issue))

    at_back : number_at 8 24 (field_bytes f) ≡ f.at
    unfolding field_bytes
    at_back = rw (append-nil (bytes_of 8 f.at)) at (read_back 8 f.at to-issue [] 24 (simp (length-append, length-bytes)) t.at)

    fields_back : fields_in (field_bytes f) ≡ f
    unfolding fields_in
    fields_back = rw (state-back, accepted-back, last-back, issue-back, at_back)

-- ---- the numbers of a machine
flag-in : (b : Bool) → leb (flag b) 1 ≡ true
flag-in true = refl
flag-in false = refl

flag-back : (b : Bool) → eqb (flag b) 1 ≡ b
flag-back true = refl
flag-back false = refl

rule-holds : (s : State) (last : ℕ) → fields_rule (state_fields s last) ≡ true
unfolding fields_rule
rule-holds Idle last = refl
rule-holds (StartPending p) last = rw (flag-in p.accepted)
rule-holds Delivering last = refl
rule-holds (CeasePending p) last = rw (flag-in p.accepted)

state-is : (s : State) (last : ℕ) → state_of (state_fields s last) ≡ s
unfolding state_of
state-is Idle last = refl
state-is (StartPending p) last = rw (flag-back p.accepted)
state-is Delivering last = refl
state-is (CeasePending p) last = rw (flag-back p.accepted)

last-is : (s : State) (last : ℕ) → (state_fields s last).last ≡ last
last-is Idle last = refl
last-is (StartPending p) last = refl
last-is Delivering last = refl
last-is (CeasePending p) last = refl

-- ---- numbers that are a machine
module _ (f : Fields) (rule : fields_rule f ≡ true) where
  abbrev blank : Bool
  blank = eqb f.accepted 0 && eqb f.issue 0 && eqb f.at 0

  in-range : (f.state ≤ 3) × (f.accepted ≤ 1)
  unfolding fields_rule
  in-range =
      let w = both_true (leb f.state 3) (leb f.accepted 1) (both_true (leb f.state 3 && leb f.accepted 1) (eqb f.state 1 || eqb f.state 3 || blank) rule).0 in
      (leb-true f.state 3 w.0, leb-true f.accepted 1 w.1)

  has-fields : eqb f.state 1 || eqb f.state 3 || blank ≡ true
  unfolding fields_rule
  has-fields = (both_true (leb f.state 3 && leb f.accepted 1) (eqb f.state 1 || eqb f.state 3 || blank) rule).1

  accepted-is : flag (eqb f.accepted 1) ≡ f.accepted
  accepted-is = by (eqb f.accepted 1) refl
    where
      by : (b : Bool) → eqb f.accepted 1 ≡ b → flag b ≡ f.accepted
      by true e = sym (eqb-true f.accepted 1 e)
      by false e = let n = eqb-false f.accepted 1 e in omega (arith, in-range)

  blank-is : blank ≡ true → (f.accepted ≡ 0) × (f.issue ≡ 0) × (f.at ≡ 0)
  blank-is e =
      let w = both_true (eqb f.accepted 0 && eqb f.issue 0) (eqb f.at 0) e in
      let v = both_true (eqb f.accepted 0) (eqb f.issue 0) w.0 in
      (eqb-true f.accepted 0 v.0, eqb-true f.issue 0 v.1, eqb-true f.at 0 w.1)

  fields-whole : fields_of (machine_of f) ≡ f
  unfolding state_of
  fields-whole = by (eqb f.state 0) (eqb f.state 1) (eqb f.state 2) refl refl refl
    where
      by : (x y z : Bool) → eqb f.state 0 ≡ x → eqb f.state 1 ≡ y → eqb f.state 2 ≡ z → fields_of (machine_of f) ≡ f
      by true y z e g h =
          let k = eqb-true f.state 0 e in
          let b = blank-is (rw k at has-fields) in
          rw e (λ i. record { state = sym k i; accepted = sym b.0 i; last = f.last; issue = sym b.1 i; at = sym b.2 i })
      by false true z e g h = rw (e, g) (λ i. record { state = sym (eqb-true f.state 1 g) i; accepted = accepted-is i; last = f.last; issue = f.issue; at = f.at })
      by false false true e g h =
          let k = eqb-true f.state 2 h in
          let b = blank-is (rw k at has-fields) in
          rw (e, g, h) (λ i. record { state = sym k i; accepted = sym b.0 i; last = f.last; issue = sym b.1 i; at = sym b.2 i })
      by false false false e g h =
          let k : f.state ≡ 3 = omega (arith, in-range, eqb-false f.state 0 e, eqb-false f.state 1 g, eqb-false f.state 2 h) in
          rw (e, g, h) (λ i. record { state = sym k i; accepted = accepted-is i; last = f.last; issue = f.issue; at = f.at })

bytes_whole : (bytes : List ℕ) → ((i : ℕ) → get_or bytes i 0 < 256) → length bytes ≡ 32 → field_bytes (fields_in bytes) ≡ bytes
unfolding field_bytes fields_in
bytes_whole bytes each long =
    rw (
      write-back 4 0 bytes each (omega arith),
      write-back 4 4 bytes each (omega arith),
      write-back 8 8 bytes each (omega arith),
      write-back 8 16 bytes each (omega arith),
      write-back 8 24 bytes each (omega arith),
      ← take-add 4 4 bytes,
      ← take-add 8 8 bytes,
      ← take-add 16 8 bytes,
      ← take-add 24 8 bytes,
    )
    (take_all 32 bytes (omega arith))

-- ---- the laws

pub machine-back : (m : Machine) → ReadBack m
machine-back m t =
    let f = fields_of m in
    let range = in-range f (rule-holds m.state m.last) in
    let back = fields_back f (omega (arith, range)) (omega (arith, range)) t in (
      rw (fields-long f, back) (rule-holds m.state m.last),
      rw back (λ i. record { state = state-is m.state m.last i; last = last-is m.state m.last i }),
    )

pub bytes_back : (bytes : List ℕ) → WrittenBack bytes
bytes_back bytes each rule =
    let w = both_true (eqb (length bytes) 32) (fields_rule (fields_in bytes)) rule in
    rw (fields-whole (fields_in bytes) w.1) (bytes_whole bytes each (eqb-true (length bytes) 32 w.0))

-- 32 zero bytes are a fresh machine
pub zeros-fresh : machine_bytes fresh ≡ replicate 32 0
unfolding field_bytes bytes_of
zeros-fresh = refl
