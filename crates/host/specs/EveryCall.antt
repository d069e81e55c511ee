-- Every list of calls of soe_instruction on 32 bytes that were 0 at first. `BytesFollow`, at the end, is the statement, and
-- `bytes-follow` in proofs/EveryCall.antt its proof: the bytes are those of the machine after the events of the calls, so that
-- what `AfterEveryList` of instructions says of that machine is true of them, and the next call gets that machine's answer. The
-- calls' times are any u64. Assumes nothing.
use Rattle.std.specs.Prelude.{◌≡◌, Bool, cond, ◌&&◌, ℕ, ◌^◌, ltb, replicate}
use mathlib.Core.List.{List, [], ◌∷◌, ◌++◌, foldl}
use Rattle.common.specs.Answer.{refused}
use Rattle.instructions.specs.declared.Event.{Event}
use Rattle.instructions.specs.Instructions.{fresh, following}
use Rattle.instructions.specs.EveryList.{run}
use Rattle.host.specs.MachineBytes.{machine_bytes}
use Rattle.host.specs.declared.Call.{Call}
use Rattle.host.specs.Instruction.{is_event, event_of, in_bytes, instructing, machine_after}

-- both times are any u64
abbrev pub call_fits : Call → Bool
call_fits c = ltb c.time (2 ^ 64) && ltb c.at (2 ^ 64)

-- each call gets the bytes that the last one left
abbrev pub bytes_after : List Call → List ℕ
bytes_after calls = foldl machine_after (replicate 32 0) calls

-- the events of the calls whose numbers are one
unfoldable pub events_of : List Call → List Event
events_of [] = []
events_of (c ∷ calls) = cond (is_event c) (event_of c ∷ []) [] ++ events_of calls

pub record BytesFollow (calls : List Call) : Type 0 where
  pub bytes : bytes_after calls ≡ machine_bytes (run fresh (events_of calls))
  pub answer : (c : Call) → instructing (bytes_after calls) c
      ≡ cond (is_event c) (in_bytes (following (run fresh (events_of calls)) (event_of c))) (refused 13)
