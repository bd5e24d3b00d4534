-- Reading from a place on, by what stands there; and that an entry that is taken brings the reader further.
use Rattle.lists.proofs.Basics.{ℕ, ◌+◌, ◌-◌, ◌^◌, ◌≤◌, ◌<◌, arith, leb-false, ◌≡◌, refl, subst, List, eqb, leb, length}
use Rattle.lists.proofs.Basics.{length-drop, drop}
use Rattle.lists.proofs.Tests.{split}
use Rattle.fields.specs.declared.Reader.{Reader}
use Rattle.fields.specs.declared.Field.{Field}
use Rattle.fields.specs.declared.Field.TheVariants.{Stub, Overrun, Whole}
use Rattle.fields.specs.Fields.{front, row_at, next_of, ReadAt}
use Rattle.fields.proofs.Laws.{Lies, front_lies, row_further, row_from, row_from_lem}
use Rattle.settings.specs.declared.Network.{Network}
use Rattle.settings.specs.declared.Settings.{Settings}
use Rattle.settings.specs.declared.Id.TheVariants.{OfNetwork}
use Rattle.settings.specs.Settings.{networks_of, used}
use Rattle.entries.specs.declared.Fault.{Fault}
use Rattle.entries.specs.declared.Fault.TheVariants.{Cut, UnknownTag, WrongLength, OutOfOrder, OutOfRange, UsedBefore, TooMany, NoTransceiver}
use Rattle.entries.specs.declared.Fault.TheVariants.{Empty}
use Rattle.entries.specs.declared.Entry.{Entry}
use Rattle.entries.specs.declared.Entry.TheVariants.{End, Bad}
use Rattle.entries.specs.declared.Progress.{Progress}
use Rattle.entries.specs.declared.Progress.TheVariants.{Named}
use Rattle.entries.specs.declared.Opening.{Opening}
use Rattle.entries.specs.declared.Opening.TheVariants.{Closes, Begins, Amends}
use Rattle.std.specs.Prelude.{Result, Ok, Err}
use Rattle.entries.specs.declared.Filled.{Filled}
use Rattle.entries.specs.Entries.{entry_at}
use Rattle.entries.proofs.Laws.{some_before}
use Rattle.entries.specs.Grammar.{begun, opens_with, takes_relation, on_relation, opens, fills}
use Rattle.sheet.specs.Reading.{pushed, first_zero, number_in, place_of, after_opening, after_filling, sheet, network}

-- ---- from a place on
-- a next place is further on, and within the bytes
abbrev pub Further : List ℕ → ℕ → ℕ → Type 0
Further s at next = (at < next) × (next ≤ length s)

-- a field that is whole and laid out as its tag asks
abbrev Taken : Entry → Type 0
Taken End = ⊥
Taken (Bad fault) = ⊥
Taken (Entry.Handle handle) = Unit
Taken (Entry.Controller id) = Unit
Taken (Entry.Transceiver id) = Unit
Taken (Entry.Times x y z) = Unit
Taken (Entry.Threshold x) = Unit
Taken (Entry.Partial x) = Unit
Taken (Entry.Relation x) = Unit

taken_from : (s : List ℕ) (at : ℕ) (f : Field) → front at (drop at s) ≡ f → Taken (entry_at (row_from s at f)) → Further s at (next_of f at)
unfolding entry_at
taken_from s at Field.End e t = absurd t
taken_from s at (Stub tag) e t = absurd t
taken_from s at (Overrun tag n) e t = absurd t
taken_from s at (Whole tag n next) e t = let r = row_further s at tag n next e in (omega arith, r.2)

sheet_from : (s : List ℕ) (at : ℕ) (S : Settings) (f : Field) → sheet (row_from s at f) S ≡ after_opening
    (opens S (entry_at (row_from s at f))) S (entry_at (row_from s at f)) at (λ handle. network (row_at s (next_of f at)) S (begun handle) Named)
    (λ more. sheet (row_at s (next_of f at)) more)
unfolding sheet after_opening opens entry_at
sheet_from s at S Field.End = refl
sheet_from s at S (Stub tag) = refl
sheet_from s at S (Overrun tag n) = refl
sheet_from s at S (Whole tag n next) = refl

network_from : (s : List ℕ) (at : ℕ) (S : Settings) (N : Network) (P : Progress) (f : Field) → network (row_from s at f) S N P ≡
    after_filling (fills S N P (entry_at (row_from s at f))) (entry_at (row_from s at f)) at
    (λ m progress. network (row_at s (next_of f at)) S m progress) (λ m. sheet (row_at s (next_of f at)) (pushed S m))
unfolding network after_filling fills entry_at
network_from s at S N P Field.End = refl
network_from s at S N P (Stub tag) = refl
network_from s at S N P (Overrun tag n) = refl
network_from s at S N P (Whole tag n next) = refl

-- an entry with which a network begins is taken, and there is room for the network; so is field 07, and there is a network before
abbrev Started : Settings → Entry → Result Opening Fault → Type 0
Started S entry (Ok Closes) = Unit
Started S entry (Ok (Begins handle)) = Taken entry × (S.count < 8)
Started S entry (Ok Amends) = Taken entry × (0 < S.count)
Started S entry (Err fault) = Unit

started : (S : Settings) (entry : Entry) → Started S entry (opens S entry)
unfolding opens opens_with on_relation
started S End = tt
started S (Bad fault) = tt
started S (Entry.Handle handle) =
    split (Started S (Entry.Handle handle)) (used (OfNetwork handle) (networks_of S)) (λ u. tt)
    (λ u. split (Started S (Entry.Handle handle)) (leb 8 S.count) (λ k. tt) (λ k. (tt, leb-false 8 S.count k)))
started S (Entry.Controller id) = tt
started S (Entry.Transceiver id) = tt
started S (Entry.Times x y z) = tt
started S (Entry.Threshold x) = tt
started S (Entry.Partial x) = tt
started S (Entry.Relation x) =
    split (Started S (Entry.Relation x)) (takes_relation (networks_of S))
    (λ t. split (Started S (Entry.Relation x)) (eqb x 1) (λ _. (tt, some_before S t)) (λ _. tt)) (λ _. tt)

-- a refusal points at most seven bytes on from the tag
first_zero_near : (x y z : ℕ) → first_zero x y z ≤ 4
unfolding first_zero
first_zero_near x y z =
    split (λ (k : ℕ). k ≤ 4) (eqb x 0) (λ _. omega arith)
    (λ _. split (λ (k : ℕ). k ≤ 4) (eqb y 0) (λ _. omega arith) (λ _. split (λ (k : ℕ). k ≤ 4) (eqb z 0) (λ _. omega arith) (λ _. omega arith)))

number_near : (entry : Entry) → number_in entry ≤ 4
number_near End = omega arith
number_near (Bad fault) = omega arith
number_near (Entry.Handle handle) = omega arith
number_near (Entry.Controller id) = omega arith
number_near (Entry.Transceiver id) = omega arith
number_near (Entry.Times x y z) = first_zero_near x y z
number_near (Entry.Threshold x) = omega arith
number_near (Entry.Partial x) = omega arith
number_near (Entry.Relation x) = omega arith

place_near : (fault : Fault) (entry : Entry) (at : ℕ) → place_of fault entry at ≤ at + 7
place_near Cut entry at = omega arith
place_near UnknownTag entry at = omega arith
place_near WrongLength entry at = omega arith
place_near OutOfOrder entry at = omega arith
place_near OutOfRange entry at = let k = number_near entry in omega arith
place_near UsedBefore entry at = omega arith
place_near TooMany entry at = omega arith
place_near NoTransceiver entry at = omega arith
place_near Empty entry at = omega arith

-- a refusal has a place that is a number of the machine, since the bytes are few enough
module _ (s : List ℕ) (at : ℕ) (few : length s < 2 ^ 63) (S : Settings) (fault : Fault) where
  -- of what stands there
  abbrev Fits : Field → Type 0
  Fits f = front at (drop at s) ≡ f → place_of fault (entry_at (row_from s at f)) at < 2 ^ 64

  inside_fits : (entry : Entry) → at < length s → place_of fault entry at < 2 ^ 64
  inside_fits entry inside = omega (arith, place_near fault entry at, inside, few)

  stub_fits : (tag : ℕ) → Fits (Stub tag)
  stub_fits tag e =
      let l : 0 < length (drop at s) = subst (Lies at (drop at s)) e (front_lies at (drop at s)) in
      inside_fits (entry_at (row_from s at (Stub tag))) (omega (arith, length-drop at s, l))

  overrun_fits : (tag n : ℕ) → Fits (Overrun tag n)
  overrun_fits tag n e =
      let l : 3 ≤ length (drop at s) = subst (Lies at (drop at s)) e (front_lies at (drop at s)) in
      inside_fits (entry_at (row_from s at (Overrun tag n))) (omega (arith, length-drop at s, l))

  whole_fits : (tag n next : ℕ) → Fits (Whole tag n next)
  whole_fits tag n next e =
      let r = row_further s at tag n next e in inside_fits (entry_at (row_from s at (Whole tag n next))) (omega arith)

  -- the end is not refused where a network may begin
  opened_fits : (f : Field) → Err fault ≡ opens S (entry_at (row_from s at f)) → Fits f
  unfolding opens entry_at
  opened_fits Field.End x = absurd cc
  opened_fits (Stub tag) x = stub_fits tag
  opened_fits (Overrun tag n) x = overrun_fits tag n
  opened_fits (Whole tag n next) x = whole_fits tag n next

  -- within a network it is, and told where it is
  filled_fits : (N : Network) (P : Progress) (f : Field) → Err fault ≡ fills S N P (entry_at (row_from s at f)) → at < 2 ^ 64 → Fits f
  unfolding fills entry_at
  filled_fits N P Field.End x fits = λ _. let same : Cut ≡ fault = cc in rw (← same) fits
  filled_fits N P (Stub tag) x fits = stub_fits tag
  filled_fits N P (Overrun tag n) x fits = overrun_fits tag n
  filled_fits N P (Whole tag n next) x fits = whole_fits tag n next

-- an entry that is not refused in a network
filled_taken : (S : Settings) (N : Network) (P : Progress) (entry : Entry) →
    (filled : Filled) → Ok filled ≡ fills S N P entry → Taken entry
unfolding fills
filled_taken S N P End m e = absurd cc
filled_taken S N P (Bad fault) m e = absurd cc
filled_taken S N P (Entry.Handle x) m e = tt
filled_taken S N P (Entry.Controller id) m e = tt
filled_taken S N P (Entry.Transceiver id) m e = tt
filled_taken S N P (Entry.Times x y z) m e = tt
filled_taken S N P (Entry.Threshold x) m e = tt
filled_taken S N P (Entry.Partial x) m e = tt
filled_taken S N P (Entry.Relation x) m e = tt

-- as the code has it: the entry, what it does, and the next place
module _ {s : List ℕ} {at : ℕ} {entry : Entry} {next : ℕ} (r : ReadAt entry_at s at entry next) (S : Settings) where
  here : row_at s at ≡ row_from s at (front at (drop at s))
  here = row_from_lem s at (front at (drop at s)) refl

  further : Taken entry → Further s at next
  further t = rw r.where_next (taken_from s at (front at (drop at s)) refl (rw (r.what, here) at t))

  pub opens_fits : (fault : Fault) → Err fault ≡ opens S entry → length s < 2 ^ 63 → place_of fault entry at < 2 ^ 64
  opens_fits fault e few = rw (r.what, here) (opened_fits s at few S fault (front at (drop at s)) (rw (r.what, here) at e) refl)

  pub sheet_by : (o : Result Opening Fault) → o ≡ opens S entry →
      sheet (row_at s at) S ≡ after_opening o S entry at (λ handle. network (row_at s next) S (begun handle) Named) (λ more. sheet (row_at s next) more)
  sheet_by o e = rw (e, r.what, r.where_next, here) (sheet_from s at S (front at (drop at s)))

  pub begins_further : (handle : ℕ) → Ok (Begins handle) ≡ opens S entry → Further s at next × (S.count < 8)
  begins_further handle e = let m = rw (← e) at (started S entry) in (further m.0, m.1)

  pub amends_further : Ok Amends ≡ opens S entry → Further s at next × (0 < S.count)
  amends_further e = let m = rw (← e) at (started S entry) in (further m.0, m.1)

  module _ (N : Network) (P : Progress) where
    pub network_by : (m : Result Filled Fault) → m ≡ fills S N P entry → network (row_at s at) S N P ≡
        after_filling m entry at (λ n progress. network (row_at s next) S n progress) (λ n. sheet (row_at s next) (pushed S n))
    network_by m e = rw (e, r.what, r.where_next, here) (network_from s at S N P (front at (drop at s)))

    pub fills_fits : (fault : Fault) → Err fault ≡ fills S N P entry → at < 2 ^ 64 → length s < 2 ^ 63 → place_of fault entry at < 2 ^ 64
    fills_fits fault e fits few =
        rw (r.what, here) (filled_fits s at few S fault N P (front at (drop at s)) (rw (r.what, here) at e) fits refl)

    pub fills_further : (filled : Filled) → Ok filled ≡ fills S N P entry → Further s at next
    fills_further filled e = further (filled_taken S N P entry filled e)

-- a reader that was moved further has fewer bytes unread
pub fewer_left : (d moved : Reader) (next : ℕ) → (moved.bytes ≡ d.bytes) × (moved.place ≡ next) → Further d.bytes.now d.place next →
    length moved.bytes.now - moved.place < length d.bytes.now - d.place
fewer_left d moved next m further = rw (m.0, m.1) (let l = further.0 in let r = further.1 in omega (arith, l, r))
