-- Listening taken out of the records of a call: what is left is what the rules of the networks make, and no test of other records is misled by it.
use Rattle.lists.proofs.Basics.{ℕ, eqb-true, ◌≡◌, refl, sym, ap, ◌∙◌, List, [], ◌∷◌, map, Bool, true, false, not, ◌&&◌, ◌||◌, cond, true≢false}
use Rattle.lists.proofs.Basics.{eqb}
use Rattle.lists.specs.Lists.{any, every}
use Rattle.lists.proofs.Any.{and_both, every_cons}
use Rattle.records.specs.declared.Record.{Record}
use Rattle.records.specs.Records.{handed, listens, is_online, turned}
use Rattle.settings.specs.declared.Network.{Network}
use Rattle.handing.specs.Handing.{own_record}
use Rattle.calls.specs.Histories.{Entry, Switch, turns, leaves, switch_of}
use Rattle.demands.specs.View.{keep, is_turned, unturned, plainly, view_of}

-- ---- a record
-- of kind 3, by its argument
of_kind_3 : (r : Record) (argument : ℕ) → eqb 3 r.kind && eqb argument r.argument ≡ true → r ≡ handed 3 r.target argument
of_kind_3 r argument e =
    let p = and_both (eqb 3 r.kind) _ e in
    λ i. record { kind = sym (eqb-true 3 r.kind p.0) i; target = r.target; argument = sym (eqb-true argument r.argument p.1) i }

-- a record of the rules is found again behind what goes out
pub unturned_turned : (listening : Bool) (r : Record) → is_turned r ≡ false → unturned (turned listening r) ≡ r
unfolding turned unturned
unturned_turned listening r plain = by_test (listening && is_online r) refl
  where
    by_test : (b : Bool) → listening && is_online r ≡ b → unturned (cond b (listens r.target) r) ≡ r
    by_test true e = sym (of_kind_3 r 0 (and_both listening _ e).1)
    by_test false e = rw plain refl

-- ---- the records of a call
pub plainly_none : (x : Switch) → plainly x [] ≡ []
unfolding keep
plainly_none (turns listening) = refl
plainly_none leaves = refl

-- what the rules make, and nothing of it turned before
pub plain_again : (listening : Bool) (rs : List Record) → any is_turned rs ≡ false → plainly leaves (map (turned listening) rs) ≡ rs
unfolding any
plain_again listening [] e = refl
plain_again listening (r ∷ rs) e = by_test (is_turned r) refl e (plain_again listening rs)
  where
    by_test : (b : Bool) → is_turned r ≡ b → b || any is_turned rs ≡ false → (any is_turned rs ≡ false → map unturned (map (turned listening) rs) ≡ rs)
        → map unturned (map (turned listening) (r ∷ rs)) ≡ r ∷ rs
    by_test true p f later = absurd (true≢false f)
    by_test false p f later = rw (unturned_turned listening r p, later f) refl

-- online alone, so that nothing is left
pub online_left_out : (x listening : Bool) (rs : List Record) → every is_online rs ≡ true → plainly (turns x) (map (turned listening) rs) ≡ []
unfolding keep
online_left_out x listening [] e = refl
online_left_out x listening (r ∷ rs) e =
    let p = and_both (is_online r) (every is_online rs) (sym (every_cons is_online r rs) ∙ e) in
    rw (gone p.0) (online_left_out x listening rs p.1)
  where
    plain : is_online r ≡ true → is_turned r ≡ false
    plain o = rw (of_kind_3 r 0 o) refl

    gone : is_online r ≡ true → not (is_online (unturned (turned listening r))) ≡ false
    gone o = rw (unturned_turned listening r (plain o), o) refl

-- ---- what the view hides
-- no online record in either form
abbrev is_other : Record → Bool
is_other r = not (is_online (unturned r))

-- online with argument 2 is none of them, and neither is what it stands for
turned_online : (r : Record) → is_turned r ≡ true → is_other r ≡ false
unfolding unturned
turned_online r e = rw e refl

again : (r : Record) → is_turned r ≡ true → is_other (unturned r) ≡ false
unfolding unturned
again r e = rw e refl

as_it_is : (r : Record) → is_turned r ≡ false → unturned r ≡ r
unfolding unturned
as_it_is r e = rw e refl

module _ (n : Network) where
  -- one record more, which is kept or not on either side
  more : (own : Bool) (r : Record) (l m : List Record) → keep is_other l ≡ keep is_other m
      → keep is_other (cond own (r ∷ l) l) ≡ keep is_other (cond own (r ∷ m) m)
  unfolding keep
  more true r l m f = ap (λ (x : List Record). cond (is_other r) (r ∷ x) x) f
  more false r l m f = f

  -- one that is online, which is kept on neither
  less : (own : Bool) (r : Record) → is_other r ≡ false → (m : List Record) → keep is_other m ≡ keep is_other (cond own (r ∷ m) m)
  unfolding keep
  less true r e m = rw e refl
  less false r e m = refl

  others_alike : (x : Switch) (rs : List Record) → keep is_other (keep (own_record n) (plainly x rs)) ≡ keep is_other (keep (own_record n) rs)
  unfolding keep
  others_alike (turns listening) [] = refl
  others_alike (turns listening) (r ∷ rs) = by_test (is_other r) refl (others_alike (turns listening) rs)
    where
      by_test : (b : Bool) → is_other r ≡ b → keep is_other (keep (own_record n) (keep is_other rs)) ≡ keep is_other (keep (own_record n) rs)
          → keep is_other (keep (own_record n) (cond b (r ∷ keep is_other rs) (keep is_other rs))) ≡ keep is_other (keep (own_record n) (r ∷ rs))
      by_test true e later = more (own_record n r) r _ _ later
      by_test false e later = later ∙ less (own_record n r) r e _
  others_alike leaves [] = refl
  others_alike leaves (r ∷ rs) = by_test (is_turned r) refl (others_alike leaves rs)
    where
      -- online that goes out with argument 2 is kept on neither side
      by_test : (b : Bool) → is_turned r ≡ b → keep is_other (keep (own_record n) (map unturned rs)) ≡ keep is_other (keep (own_record n) rs)
          → keep is_other (keep (own_record n) (unturned r ∷ map unturned rs)) ≡ keep is_other (keep (own_record n) (r ∷ rs))
      by_test true e later =
          let online = turned_online r e in
          sym (less (own_record n (unturned r)) (unturned r) (again r e) (keep (own_record n) (map unturned rs))) ∙ later ∙ less (own_record n r) r online _
      by_test false e later = rw (as_it_is r e) (more (own_record n r) r _ _ later)

  -- of the records of an entry that name the network's ids the view has every other one, as it is and in its place: it hides which form online has,
  -- and that a call to listen hands it out
  pub hides_online_alone : (e : Entry) → keep (λ (r : Record). not (is_online (unturned r))) (view_of n e).records
      ≡ keep (λ (r : Record). not (is_online (unturned r))) (keep (own_record n) e.records)
  hides_online_alone e = others_alike (switch_of e.number e.call) e.records
