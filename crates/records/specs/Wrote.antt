-- What everything that hands out records promises: room for them in the lent buffer before, and every byte of it after. The rules H2, H3 and L2 of
-- docs/RULES.md.
use Rattle.std.specs.Prelude.{ℕ, ◌+◌, ◌*◌, ◌≤◌, ◌≡◌, List, map, Bool, length}
use Rattle.std.proofs.lemmas.List.Edits.{sets}
use Rattle.records.specs.declared.Record.{Record}
use Rattle.records.specs.Records.{bytes, records_at, turned}

-- H2, H3: a buffer with these records stored one after the other from record number k on; all its other bytes are as they were
unfoldable pub stored : List ℕ → ℕ → List Record → List ℕ
stored before k rs = sets before (3 * k) (bytes rs)

-- there is room for the records from record number k on
pub record Room (before : List ℕ) (k : ℕ) (rs : List Record) : Type 0 where
  pub fits : 3 * (k + length rs) ≤ length before

-- H2: the records were written from record number k on; the number of the next, and the buffer after it
pub record Wrote (before after : List ℕ) (k next : ℕ) (rs : List Record) : Type 0 where
  pub count : next ≡ k + length rs
  pub buffer : after ≡ stored before k rs

-- L2: a buffer whose first records go out as they do where the manager listens, or does not; all its other bytes are as they were
unfoldable pub heeded : List ℕ → ℕ → Bool → List ℕ
heeded before count listening = stored before 0 (map (turned listening) (records_at count before))
