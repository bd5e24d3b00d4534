-- What a network replies to a call that names it: its refusals with their numbers, and which requests it takes. The rules R1, R13 to R15, R22, R23
-- and N15 of docs/RULES.md.
use Rattle.std.specs.Prelude.{ℕ, Bool, true, false, Result, Ok, Err}
use Rattle.records.specs.declared.Mode.{Mode}
use Rattle.steps.specs.declared.Step.{Step}
use Rattle.steps.specs.declared.Phase.{Phase}
use Rattle.steps.specs.Steps.{phase_of}
use Rattle.steps.specs.Decision.{by_mode}
use Rattle.network.specs.declared.Refusal.{Refusal}

-- R13 to R15, R22, R23, K6: the number of each refusal
abbrev pub refusal_number : Refusal → ℕ
refusal_number Refusal.OutOfRange = 0x21
refusal_number Refusal.Asleep = 0x08
refusal_number Refusal.ComingUp = 0x24
refusal_number Refusal.GoingDown = 0x25
refusal_number Refusal.NotTaken = 0x22

-- R1: the number of a reply, 0 where it is taken
abbrev pub reply_number : Result Unit Refusal → ℕ
reply_number (Ok tt) = 0x00
reply_number (Err refusal) = refusal_number refusal

-- the one reply that is no refusal
abbrev pub is_taken : Result Unit Refusal → Bool
is_taken (Ok tt) = true
is_taken (Err refusal) = false

-- N15, R14, R22, R23: silent is taken where the network is up; it is refused with 08 in step 0, with 24 where the network comes up, and with 25 where
-- it goes down
abbrev pub silent_reply : Phase → Result Unit Refusal
silent_reply Phase.Off = Err Refusal.Asleep
silent_reply Phase.Rising = Err Refusal.ComingUp
silent_reply Phase.Checking = Ok tt
silent_reply Phase.Full = Ok tt
silent_reply Phase.Recovering = Ok tt
silent_reply Phase.Silent = Ok tt
silent_reply Phase.Falling = Err Refusal.GoingDown
silent_reply Phase.Resetting = Ok tt

-- N15: no and full are taken in every step, also during a recovery
abbrev pub request_reply : Step → Mode → Result Unit Refusal
request_reply step mode = by_mode mode (Ok tt) (silent_reply (phase_of step)) (Ok tt)
