-- Runs appended to a line, one after the other.
use Rattle.lists.proofs.Basics.{ℕ, ◌+◌, ◌-◌, ◌≤◌, arith, ◌≡◌, refl, sym, ◌∙◌, List, ◌++◌, [], ◌∷◌, append-nil, length, take, take_all, sets-eq}
use Rattle.std.proofs.lemmas.Slice.{put_mid-paste}
use borrow.Rule.Slice.PartMut.{put_mid}
use Rattle.lists.specs.Stores.{Stored}
use Rattle.lists.proofs.Stores.{stored_none, stored_then}
use Rattle.text.specs.declared.Line.{Line}
use Rattle.records.specs.declared.Record.{Record}
use Rattle.text.specs.Line.{Appended}
use Rattle.text.specs.Text.{blank, colon, decimal, record_text, records_text}

-- a run copied over the elements from a place on
pub stored_over : (b : List ℕ) (i : ℕ) (vs ws : List ℕ) → ws ≡ vs → i + length vs ≤ length b
    → Stored b i vs (i + length vs) (put_mid i (i + length vs - i) b ws)
stored_over b i vs ws e h =
    let copied = put_mid-paste i (i + length vs - i) b ws vs (length vs) e (omega arith) refl in
    let whole : take (length vs) vs ≡ vs = take_all (length vs) vs (omega arith) in
    record { place = refl; buffer = copied ∙ rw whole (sym (sets-eq vs b i h)) }

pub appended_none : (a : Line) → Appended a [] a
appended_none a = record { same = refl; size = refl; stored = stored_none _ _ }

-- a run right after another
pub appended_then : {a b c : Line} {vs ws : List ℕ} → Appended a vs b → Appended b ws c → Appended a (vs ++ ws) c
appended_then s t = record { same = t.same ∙ s.same; size = t.size ∙ s.size; stored = stored_then s.stored t.stored }

-- a record is appended piece by piece
pub record_appended : (r : Record) {a a₁ a₂ a₃ a₄ a₅ a₆ : Line} → Appended a (blank ∷ []) a₁ → Appended a₁ (decimal r.kind) a₂ → Appended a₂ (colon ∷ []) a₃
    → Appended a₃ (decimal r.target) a₄ → Appended a₄ (colon ∷ []) a₅ → Appended a₅ (decimal r.argument) a₆ → Appended a (records_text (r ∷ [])) a₆
unfolding records_text record_text
record_appended r s s₁ s₂ s₃ s₄ s₅ =
    rw (append-nil (record_text r)) (appended_then s (appended_then s₁ (appended_then s₂ (appended_then s₃ (appended_then s₄ s₅)))))
