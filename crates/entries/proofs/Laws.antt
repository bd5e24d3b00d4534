-- Laws of entries: the value of a field at its place, and what its layout says.
use Rattle.lists.proofs.Basics.{ℕ, ◌+◌, ◌≤◌, ◌<◌, arith, eqb-true, eqb-false, ltb-true, ltb-false, ◌≡◌, refl, ap, ◌∙◌, List, [], ◌∷◌, true, cond, eqb, ltb}
use Rattle.lists.proofs.Basics.{length, get_or, take, drop, length-drop, length-take, length-append, get_or-take, get_or-drop, length-take-le}
use Rattle.lists.proofs.Tests.{split}
use Rattle.lists.proofs.Any.{ending}
use Rattle.settings.specs.declared.Settings.{Settings}
use Rattle.settings.specs.Settings.{networks_of}
use Rattle.entries.specs.declared.Entry.{Entry}
use Rattle.entries.specs.declared.Layout.{Layout}
use Rattle.entries.specs.declared.Layout.TheVariants.{Byte}
use Rattle.entries.specs.declared.Fault.{Fault}
use Rattle.entries.specs.declared.Fault.TheVariants.{Cut, UnknownTag, WrongLength, OutOfOrder, OutOfRange, UsedBefore, TooMany, NoTransceiver}
use Rattle.entries.specs.declared.Fault.TheVariants.{Empty}
use Rattle.std.specs.Prelude.{Result, Ok, Err}
use Rattle.entries.specs.Entries.{layout_of, wide, times_entry, whole_entry, field_entry}
use Rattle.entries.specs.Grammar.{takes_relation}

-- ---- the value of a field, at its place
-- the byte at i of a value that begins at a place
pub value_byte : (s : List ℕ) (at n i : ℕ) → i < n → get_or (take n (drop at s)) i 0 ≡ get_or s (at + i) 0
value_byte s at n i h = get_or-take n (drop at s) i 0 h ∙ get_or-drop at s i 0

-- the number at i of a value of 6 bytes that begins at a place
pub value_wide : (s : List ℕ) (at i : ℕ) → i + 1 < 6 → wide (take 6 (drop at s)) i ≡ wide s (at + i)
value_wide s at i h =
    let e : at + (i + 1) ≡ at + i + 1 = omega arith in
    rw (value_byte s at 6 i (omega arith), value_byte s at 6 (i + 1) h, e) refl

pub times_at : (s : List ℕ) (at x y z : ℕ) →
    x ≡ wide s at → y ≡ wide s (at + 2) → z ≡ wide s (at + 2 + 2) → Entry.Times x y z ≡ times_entry (take 6 (drop at s))
unfolding times_entry
times_at s at x y z p q r =
    let first : at + 0 ≡ at = omega arith in
    let last : at + 2 + 2 ≡ at + 4 = omega arith in
    rw (value_wide s at 0 (omega arith), value_wide s at 2 (omega arith), value_wide s at 4 (omega arith), first, p, q, r, last) refl

-- ---- layout_of
-- a layout says which tag it can be, and whether the length is the tag's; no other refusal than two comes of it
abbrev pub Says : ℕ → ℕ → Result Layout Fault → Type 0
Says tag n (Ok Byte) = (n ≡ 1) × (1 ≤ tag) × (tag ≤ 7) × (tag ≡ 4 → ⊥)
Says tag n (Ok Layout.Times) = (n ≡ 6) × (tag ≡ 4)
Says tag n (Err UnknownTag) = (1 ≤ tag) × (tag ≤ 7) → ⊥
Says tag n (Err WrongLength) = ((1 ≤ tag) × (tag ≤ 7)) × (n ≡ cond (eqb tag 4) 6 1 → ⊥)
Says tag n (Err Cut) = ⊥
Says tag n (Err OutOfOrder) = ⊥
Says tag n (Err OutOfRange) = ⊥
Says tag n (Err UsedBefore) = ⊥
Says tag n (Err TooMany) = ⊥
Says tag n (Err NoTransceiver) = ⊥
Says tag n (Err Empty) = ⊥

pub layout_says : (tag n : ℕ) → Says tag n (layout_of tag n)
unfolding layout_of
layout_says tag n =
    split (Says tag n) (eqb tag 4)
    (λ a. let t = eqb-true tag 4 a in
    split (Says tag n) (eqb n 6) (λ e. (eqb-true n 6 e, t)) (λ e. ((omega arith, omega arith), rw a (eqb-false n 6 e))))
    (λ a. split (Says tag n) (ltb tag 1) (λ b k. let h = ltb-true tag 1 b in omega (arith, k.0))
    (λ b. split (Says tag n) (ltb 7 tag) (λ d k. let h = ltb-true 7 tag d in omega (arith, k.1))
    (λ d. split (Says tag n) (eqb n 1) (λ e. (eqb-true n 1 e, ltb-false tag 1 b, ltb-false 7 tag d, eqb-false tag 4 a))
    (λ e. ((ltb-false tag 1 b, ltb-false 7 tag d), rw a (eqb-false n 1 e))))))

pub layout_byte : (tag n : ℕ) → layout_of tag n ≡ Ok Byte → n ≡ 1
layout_byte tag n e = (rw e at (layout_says tag n)).0

pub layout_times : (tag n : ℕ) → layout_of tag n ≡ Ok Layout.Times → n ≡ 6
layout_times tag n e = (rw e at (layout_says tag n)).0

-- ---- field_entry
-- a whole field whose value begins at a place, by its layout
pub entry_whole : (s : List ℕ) (at tag n : ℕ) (layout : Result Layout Fault) →
    at + n ≤ length s → layout_of tag n ≡ layout → field_entry tag (take n (drop at s)) ≡ whole_entry layout tag (take n (drop at s))
unfolding field_entry
entry_whole s at tag n layout h e =
    let m : length (take n (drop at s)) ≡ n = length-take-le n (drop at s) (simp length-drop (omega arith)) in
    rw (m, e) refl

-- ---- field 07
-- it is taken only where there is a network
pub some_before : (S : Settings) → takes_relation (networks_of S) ≡ true → 0 < S.count
unfolding takes_relation
some_before S t =
    let e = ending _ (networks_of S) t in
    omega (arith, length-take S.count S.networks, ap length e.parts ∙ length-append e.before (e.end ∷ []))
