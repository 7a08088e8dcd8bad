-- The deciding line is the one that marks or keeps.
-- Assumes nothing.
use mathlib.Core.Path.{◌≡◌, refl, sym, subst, ◌∙◌}
use mathlib.Core.Bool.{Bool, true, false}
use mathlib.Core.List.{List}
use Prim.Native.Nat.{ℕ, ◌≤◌, ◌<◌}
use native.Mathlib.Omega.{arith}
use lib.Dec.{eqb, ltb}
use borrow.Author.Tests.{eqb-true, ltb-true, ltb-false}
use Rattle.ops.proofs.Booleans.{never, and_parts}
use Rattle.table.proofs.Searches.{First, first_is, any_none, any_found}
use Rattle.sheets.specs.Marks.{own_marks, line_at, line_count, names, speaks, says, marks_under, mark, keep}
use Rattle.sheets.specs.Deciding.{first_of, deciding}
use Rattle.sheets.specs.Laws.{Decided, DecidingLine}

module _ (sheet : List ℕ) (slot : ℕ) where
  -- the first line of a kind that names the slot: found just where the sheet says it
  module _ (kind : ℕ) where
    first : First (λ k. speaks kind slot (line_at sheet k)) (line_count sheet) (first_of sheet kind slot)
    first = first_is (λ k. speaks kind slot (line_at sheet k)) (line_count sheet) (first_of sheet kind slot) refl

    pub found : first_of sheet kind slot < line_count sheet → ((line_at sheet (first_of sheet kind slot)).kind ≡ kind) × (names (line_at sheet (first_of sheet kind slot)) slot ≡ true)
    found b =
        let both = and_parts (eqb (line_at sheet (first_of sheet kind slot)).kind kind) (names (line_at sheet (first_of sheet kind slot)) slot) (first.found b) in
        (eqb-true _ kind both.0, both.1)

    pub says_so : first_of sheet kind slot < line_count sheet → says sheet kind slot ≡ true
    says_so b = any_found (line_count sheet) (λ k. speaks kind slot (line_at sheet k)) (first_of sheet kind slot) b (first.found b)

    pub says_nothing : line_count sheet ≤ first_of sheet kind slot → says sheet kind slot ≡ false
    says_nothing b = any_none (line_count sheet) (λ k. speaks kind slot (line_at sheet k)) (λ k c. first.before k (omega arith))

pub deciding-line : DecidingLine
deciding-line sheet x = go (ltb (first_of sheet mark x.p) (line_count sheet)) refl
  where
    m : ℕ
    m = first_of sheet mark x.p

    n : ℕ
    n = first_of sheet keep x.p

    kept : says sheet mark x.p ≡ false → n < line_count sheet → marks_under sheet x ≡ false
    kept e b = rw (e, says_so sheet x.p keep b)

    by_keep : (is : deciding sheet x.p ≡ n) → says sheet mark x.p ≡ false → Decided sheet x
    by_keep is e =
        record {
          names = λ b. subst (λ (k : ℕ). names (line_at sheet k) x.p ≡ true) (sym is) (found sheet x.p keep (subst (λ (k : ℕ). k < line_count sheet) is b)).1;
          marks = λ b h. never (sym (kept e (subst (λ (k : ℕ). k < line_count sheet) is b)) ∙ h);
          keeps = λ b h. subst (λ (k : ℕ). (line_at sheet k).kind ≡ keep) (sym is) (found sheet x.p keep (subst (λ (k : ℕ). k < line_count sheet) is b)).0;
          silent = λ none. silent none (ltb n (line_count sheet)) refl;
        }
      where
        silent : (deciding sheet x.p < line_count sheet → ⊥) → (t : Bool) → ltb n (line_count sheet) ≡ t → marks_under sheet x ≡ own_marks x
        silent none true f = absurd (none (subst (λ (k : ℕ). k < line_count sheet) (sym is) (ltb-true n (line_count sheet) f)))
        silent none false f = rw (e, says_nothing sheet x.p keep (ltb-false n (line_count sheet) f))

    by_mark : (is : deciding sheet x.p ≡ m) → m < line_count sheet → Decided sheet x
    by_mark is b =
        let marked : marks_under sheet x ≡ true = rw (says_so sheet x.p mark b) in
        record {
          names = λ c. subst (λ (k : ℕ). names (line_at sheet k) x.p ≡ true) (sym is) (found sheet x.p mark b).1;
          marks = λ c h. subst (λ (k : ℕ). (line_at sheet k).kind ≡ mark) (sym is) (found sheet x.p mark b).0;
          keeps = λ c h. never (sym h ∙ marked);
          silent = λ none. absurd (none (subst (λ (k : ℕ). k < line_count sheet) (sym is) b));
        }

    go : (t : Bool) → ltb m (line_count sheet) ≡ t → Decided sheet x
    go true e = by_mark (rw e) (ltb-true m (line_count sheet) e)
    go false e = by_keep (rw e) (says_nothing sheet x.p mark (ltb-false m (line_count sheet) e))
