-- The names of the toolchain's library that proofs of every crate use, so that a proof brings them in by one line. Definitions and contracts
-- bring them in from the library itself.
pub use Prim.Native.Nat.{ℕ, zero, suc, ◌+◌, ◌-◌, ◌*◌, ◌/◌, ◌%◌, ◌^◌, ◌≤◌, ◌<◌, min, max}
pub use native.Mathlib.Nat.{div-add-mod'}
pub use native.Mathlib.Numerals.{add-one, towards_suc}
pub use native.Mathlib.Omega.{arith}
pub use mathlib.Core.Path.{◌≡◌, refl, sym, ap, subst, ◌∙◌}
pub use mathlib.Core.Bool.{Bool, true, false, cond, not, ◌&&◌, ◌||◌, false≢true, true≢false, or-false, or-true, and-false}
pub use mathlib.Core.List.{List, [], ◌∷◌, ◌++◌, append_assoc, append-nil, map, map-append}
pub use lib.Dec.{eqb, ltb, leb}
pub use lib.ListN.{length, take, drop, get_or, set, replicate, length-take, length-drop, length-append, length-set, length-map, length-replicate}
pub use lib.ListN.{take-append-drop, get_or-eq_default}
pub use lib.Seq.{sets, sets-eq, length-sets, length-take-le, take_all, take-append_seam, drop-append_seam, drop-drop, append_snoc}
pub use lib.Seq.{get_or-set_same, get_or-set_other, get_or-take, get_or-drop}
pub use borrow.Author.Rules.{rules}
pub use borrow.Author.Tests.{eq-eqb, ne_eqb, lt-ltb, le-ltb, lt-leb, le-leb, eqb-true, eqb-false, ltb-true, ltb-false, leb-true, leb-false}
