-- The machine of paper 02, No. 2, as a C host keeps it: five numbers in 32 bytes. Assumes nothing.
use Rattle.std.specs.Prelude.{◌≡◌, Bool, true, false, cond, ◌&&◌, ◌||◌, List, ◌++◌, ℕ, ◌<◌, ◌^◌, leb, eqb, length, get_or}
use Rattle.bytes_at.specs.Numbers.{bytes_of, number_at}
use Rattle.instructions.specs.declared.Pending.{Pending}
use Rattle.instructions.specs.declared.State.{State}
use Rattle.instructions.specs.declared.State.TheVariants.{Idle, StartPending, Delivering, CeasePending}
use Rattle.instructions.specs.declared.Machine.{Machine}
use Rattle.host.specs.declared.machine_bytes.Fields.{Fields}

-- ---- the bytes of the numbers

-- state and accepted in four bytes each, then last, issue and start or cease time in eight
unfoldable pub field_bytes : Fields → List ℕ
field_bytes f = bytes_of 4 f.state ++ bytes_of 4 f.accepted ++ bytes_of 8 f.last ++ bytes_of 8 f.issue ++ bytes_of 8 f.at

unfoldable pub fields_in : List ℕ → Fields
fields_in bytes =
    record {
      state = number_at 4 0 bytes;
      accepted = number_at 4 4 bytes;
      last = number_at 8 8 bytes;
      issue = number_at 8 16 bytes;
      at = number_at 8 24 bytes;
    }

-- ---- the numbers of a machine

abbrev pub flag : Bool → ℕ
flag true = 1
flag false = 0

abbrev pub pending_fields : ℕ → Pending → ℕ → Fields
pending_fields state p last = record { state = state; accepted = flag p.accepted; last = last; issue = p.issue; at = p.at }

-- fields that a state does not have are 0
abbrev pub other_fields : ℕ → ℕ → Fields
other_fields state last = record { state = state; accepted = 0; last = last; issue = 0; at = 0 }

-- 0 idle, 1 start pending, 2 delivering, 3 cease pending
abbrev pub state_fields : State → ℕ → Fields
state_fields Idle last = other_fields 0 last
state_fields (StartPending p) last = pending_fields 1 p last
state_fields Delivering last = other_fields 2 last
state_fields (CeasePending p) last = pending_fields 3 p last

abbrev pub fields_of : Machine → Fields
fields_of m = state_fields m.state m.last

-- of a machine: state 0 to 3, accepted 0 or 1, and 0 in the fields that a state does not have
unfoldable pub fields_rule : Fields → Bool
fields_rule f =
    leb f.state 3
    && leb f.accepted 1
    && (eqb f.state 1 || eqb f.state 3 || eqb f.accepted 0 && eqb f.issue 0 && eqb f.at 0)

abbrev pub pending_of : Fields → Pending
pending_of f = record { issue = f.issue; at = f.at; accepted = eqb f.accepted 1 }

unfoldable pub state_of : Fields → State
state_of f =
    cond (eqb f.state 0) Idle
    (cond (eqb f.state 1) (StartPending (pending_of f))
    (cond (eqb f.state 2) Delivering
    (CeasePending (pending_of f))))

abbrev pub machine_of : Fields → Machine
machine_of f = record { state = state_of f; last = f.last }

-- ---- the bytes of a machine

abbrev pub machine_bytes : Machine → List ℕ
machine_bytes m = field_bytes (fields_of m)

abbrev pub machine_rule : List ℕ → Bool
machine_rule bytes = eqb (length bytes) 32 && fields_rule (fields_in bytes)

abbrev pub machine_in : List ℕ → Machine
machine_in bytes = machine_of (fields_in bytes)

-- ---- the laws

-- times that a u64 holds
pub record TimesFit (f : Fields) : Type 0 where
  pub last : f.last < 2 ^ 64
  pub issue : f.issue < 2 ^ 64
  pub at : f.at < 2 ^ 64

-- reading what was written gives the machine back
abbrev pub ReadBack : Machine → Type 0
ReadBack m = TimesFit (fields_of m) → (machine_rule (machine_bytes m) ≡ true) × (machine_in (machine_bytes m) ≡ m)

-- bytes that are a machine are the bytes of that machine
abbrev pub WrittenBack : List ℕ → Type 0
WrittenBack bytes = ((i : ℕ) → get_or bytes i 0 < 256) → machine_rule bytes ≡ true → machine_bytes (machine_in bytes) ≡ bytes
