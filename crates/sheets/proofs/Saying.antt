-- What is kept by slot is what the sheet says.
-- Assumes nothing.
use mathlib.Core.Path.{◌≡◌, refl, sym, ap, ap₂, ◌∙◌}
use mathlib.Core.Bool.{Bool, true, false, cond, ◌&&◌, ◌||◌}
use mathlib.Core.List.{List}
use Prim.Native.Nat.{ℕ, zero, suc, ◌+◌}
use native.Mathlib.Numerals.{add-one}
use lib.Dec.{eqb}
use lib.ListN.{replicate, get_or-replicate}
use borrow.Author.Tests.{lt-ltb}
use Rattle.ops.proofs.Booleans.{and_shut}
use Rattle.table.specs.Folds.{any_below}
use Rattle.table.specs.Admission.{scan}
use Rattle.sheets.specs.declared.lines.Line.{Line}
use Rattle.sheets.specs.Marks.{own_marks, line_at, line_count, names, speaks, says, mark, keep}
use Rattle.sheets.specs.Check.{sheet_check}
use Rattle.sheets.specs.Code.Said.{higher, over_by, said_below, Said, Over, mark_by}
use Rattle.sheets.specs.Laws.{Empty, MarksByRow}

-- Line by line

pub none_said : (sheet : List ℕ) → Said sheet 0 (replicate 256 0)
unfolding said_below
none_said sheet = record { size = refl; is = λ slot b. get_or-replicate 256 slot 0 0 b }

said_more : (sheet : List ℕ) (k slot : ℕ) → said_below sheet (k + 1) slot ≡ over_by (said_below sheet k slot) (line_at sheet k) slot
unfolding said_below
said_more sheet k slot = ap (λ (n : ℕ). said_below sheet n slot) (add-one k)

pub one_said : (sheet : List ℕ) (k : ℕ) (before row : List ℕ) (line : Line) → Said sheet k before → line ≡ line_at sheet k → Over before row line → Said sheet (k + 1) row
one_said sheet k before row line h e over =
    record {
      size = over.size ∙ h.size;
      is = λ slot b. over.is slot b ∙ ap (λ (x : ℕ). over_by x line slot) (h.is slot b) ∙ ap (λ (l : Line). over_by (said_below sheet k slot) l slot) e ∙ sym (said_more sheet k slot);
    }

-- In one number: whether some line marks, whether some line keeps

abbrev standing : Bool → Bool → ℕ
standing marks keeps = cond marks 2 (cond keeps 1 0)

abbrev says_below : List ℕ → ℕ → ℕ → ℕ → Bool
says_below sheet k kind slot = any_below k (λ i. speaks kind slot (line_at sheet i))

-- one line more
more : (marks keeps named is_mark is_keep : Bool)
    → cond named (higher (standing marks keeps) (standing is_mark is_keep)) (standing marks keeps) ≡ standing (marks || (is_mark && named)) (keeps || (is_keep && named))
more true true true true is_keep = refl
more true true true false true = refl
more true true true false false = refl
more true false true true true = refl
more true false true true false = refl
more true false true false true = refl
more true false true false false = refl
more false true true true is_keep = refl
more false true true false true = refl
more false true true false false = refl
more false false true true is_keep = refl
more false false true false true = refl
more false false true false false = refl
more true keeps false is_mark is_keep = refl
more false true false is_mark is_keep = ap (λ (b : Bool). standing b true) (sym (and_shut is_mark))
more false false false is_mark is_keep = ap₂ standing (sym (and_shut is_mark)) (sym (and_shut is_keep))

said_is : (sheet : List ℕ) (k slot : ℕ) → said_below sheet k slot ≡ standing (says_below sheet k mark slot) (says_below sheet k keep slot)
unfolding said_below any_below
said_is sheet zero slot = refl
said_is sheet (suc k) slot =
    let line = line_at sheet k in
    ap (λ (x : ℕ). over_by x line slot) (said_is sheet k slot)
    ∙ more (says_below sheet k mark slot) (says_below sheet k keep slot) (names line slot) (eqb line.kind mark) (eqb line.kind keep)

-- So the row marks what the sheet marks

mark_is : (marks keeps own : Bool) → mark_by (standing marks keeps) own ≡ cond marks true (cond keeps false own)
mark_is true keeps own = refl
mark_is false true own = refl
mark_is false false own = refl

pub marks_by-row : MarksByRow
marks_by-row sheet row x h b =
    rw (lt-ltb x.p 256 b)
    (ap (λ (n : ℕ). mark_by n (own_marks x)) (h.is x.p b ∙ said_is sheet (line_count sheet) x.p)
    ∙ mark_is (says sheet mark x.p) (says sheet keep x.p) (own_marks x))

-- The empty sheet

pub empty : Empty
unfolding sheet_check scan any_below
empty = record { checked = refl; marks = λ x. refl }
