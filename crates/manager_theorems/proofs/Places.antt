-- R4: where a reading of the manager is refused for its bytes, its place points at what is wrong in them.
use Rattle.std.specs.Prelude.{Result, Ok, Err}
use Rattle.lists.proofs.Basics.{ℕ, ◌≡◌, refl, subst, List}
use Rattle.slots.specs.declared.CallRefusal.{CallRefusal}
use Rattle.entries.specs.declared.Fault.{Fault}
use Rattle.sheet.specs.Reading.{decode}
use Rattle.sheet.specs.Pointing.{Points}
use Rattle.sheet.proofs.Theorems.{refused_points}
use Rattle.slots.specs.declared.Stage.{Stage}
use Rattle.slots.specs.declared.Manager.{Manager}
use Rattle.slots.specs.declared.Outcome.{Outcome}
use Rattle.slots.specs.Manager.{refused}
use Rattle.slots.specs.Calls.{read, by_stage, after_reading, read_into, outcome}

module _ (m : Manager) (bytes : List ℕ) (fault : Fault) where
  -- an outcome that is refused for this fault points at it
  abbrev Pointing : Outcome → Type 0
  Pointing o = o.answer ≡ Err (CallRefusal.Sheet fault) → Points fault bytes o.place

  by_verdict : (a : Result Unit Fault) → (decode bytes).answer ≡ a → Pointing (after_reading m (decode bytes) a)
  by_verdict (Ok done) e x = absurd cc
  by_verdict (Err other) e x =
      let same : other ≡ fault = cc in subst (λ (f : Fault). Points f bytes (decode bytes).place) same (refused_points bytes other e)

  by_stage_lem : (stage : Stage) → Pointing (by_stage stage (read_into m bytes) (read_into m bytes) (refused m CallRefusal.Running))
  unfolding read_into
  by_stage_lem Stage.Empty = by_verdict (decode bytes).answer refl
  by_stage_lem Stage.Loaded = by_verdict (decode bytes).answer refl
  by_stage_lem Stage.Started = λ x. absurd cc

  pub read_points : (outcome m (read bytes)).answer ≡ Err (CallRefusal.Sheet fault) → Points fault bytes (outcome m (read bytes)).place
  unfolding outcome
  read_points = by_stage_lem m.stage
