-- What depends on marks depends on those of the table's variables alone; and what admission under a sheet leaves.
-- Assumes nothing.
use Rattle.std.specs.Prelude.{Ok, Err}
use mathlib.Core.Path.{◌≡◌, refl, ap, ◌∙◌}
use mathlib.Core.Bool.{Bool, true}
use mathlib.Core.List.{List, map, ◌++◌}
use Prim.Native.Nat.{ℕ, pred, ◌*◌, ◌≤◌, ◌<◌}
use native.Mathlib.Omega.{arith}
use lib.ListN.{drop}
use Rattle.ops.specs.declared.Op.{Op}
use Rattle.ops.specs.declared.Op.TheVariants.{Constant, Variable, Apply, Ite, Select, Store, Unknown}
use Rattle.ops.specs.Numbers.{op_of}
use Rattle.ops.specs.Meaning.{bit}
use Rattle.ops.proofs.Booleans.{never}
use Rattle.table.specs.Answers.{Acceptance, accepted}
use Rattle.table.specs.declared.words.Term.{Term}
use Rattle.table.specs.Ranks.{slotted}
use Rattle.table.specs.Terms.{terms, term_at, sort_at}
use Rattle.table.specs.Faults.{is_variable}
use Rattle.table.specs.Admission.{and_then, admission, accepts}
use Rattle.table.specs.WellFormed.{WellFormed}
use Rattle.table.proofs.FoldLaws.{fold_same}
use Rattle.table.proofs.SoundTerms.{slot-most}
use Rattle.sheets.specs.Marks.{line_count, marks_under}
use Rattle.sheets.specs.Check.{sheet_check}
use Rattle.sheets.specs.Code.Said.{Said, marks_by}
use Rattle.sheets.proofs.Saying.{marks_by-row}
use Rattle.setting.specs.Interpretation.{Value, Interpretation}
use Rattle.evaluate.specs.Evaluation.{Evaluation}
use Rattle.evaluate.specs.Evaluation.{evaluates, ready_by}
use Rattle.evaluate.proofs.Answers.{passed_by}
use Rattle.evaluate.specs.Values.{value_in, values, numbers}
use Rattle.judge.specs.Conditions.{Condition, condition_by, condition_in, condition_from, conditions, condition_at, truths}
use Rattle.judge.specs.Judgement.{admission_under, rule_in, verdict_by, verdict, room_in}

-- two sets of marks that say the same of each variable of a table
abbrev pub SameMarks : List ℕ → (Term → Bool) → (Term → Bool) → Type 0
SameMarks w m m' = (k : ℕ) → k < terms w → is_variable (term_at w k) ≡ true → m (term_at w k) ≡ m' (term_at w k)

-- the condition of a term asks for the mark of a variable alone
condition_by_lem : (m m' : Term → Bool) (v : ℕ → Value) (c : ℕ → Condition) (n : ℕ) (t : Term) (op : Op) → (slotted op ≡ true → m t ≡ m' t)
    → condition_by m v c n t op ≡ condition_by m' v c n t op
unfolding condition_by
condition_by_lem m m' v c n t Constant h = refl
condition_by_lem m m' v c n t Variable h = rw (h refl)
condition_by_lem m m' v c n t (Apply f) h = refl
condition_by_lem m m' v c n t Ite h = refl
condition_by_lem m m' v c n t Select h = refl
condition_by_lem m m' v c n t Store h = refl
condition_by_lem m m' v c n t Unknown h = refl

module _ (w : List ℕ) (m m' : Term → Bool) (I : Interpretation) (same : SameMarks w m m') where
  one : (k : ℕ) → k < terms w → (c : ℕ → Condition) → condition_from w m (value_in (values w I k)) c (term_at w k) ≡ condition_from w m' (value_in (values w I k)) c (term_at w k)
  one k b c = condition_by_lem m m' (value_in (values w I k)) c (sort_at w (term_at w k).p).n (term_at w k) (op_of (term_at w k).op) (same k b)

  pub conditions_alike : (n : ℕ) → n ≤ terms w → conditions w m I n ≡ conditions w m' I n
  conditions_alike n b = fold_same _ _ n (λ k c l. one k (omega arith) (condition_in l))

  pub condition_alike : (k : ℕ) → k < terms w → condition_at w m I k ≡ condition_at w m' I k
  condition_alike k b =
      one k b (condition_in (conditions w m I k))
      ∙ ap (λ (cs : List Condition). condition_from w m' (value_in (values w I k)) (condition_in cs) (term_at w k)) (conditions_alike k (omega arith))

  pub truths_alike : truths w m I (terms w) ≡ truths w m' I (terms w)
  truths_alike = ap (map (λ c. bit c.free)) (conditions_alike (terms w) (omega arith))

-- a verdict and its room, where the marks are the same or it is a refusal
module _ (w : List ℕ) (m m' : Term → Bool) (I : Interpretation) where
  pub verdict_alike : (e : Evaluation) → (evaluates e ≡ true → (0 < terms w) × SameMarks w m m') → verdict e w m I ≡ verdict e w m' I
  verdict_alike (Ok s) h =
      let b : 0 < terms w = (h refl).0 in
      ap (λ (c : Condition). verdict_by (Ok s) (rule_in w I) c.free) (condition_alike w m m' I (h refl).1 (pred (terms w)) (omega arith))
  verdict_alike (Err r) h = refl

  pub room_alike : (e : Evaluation) (a b : Bool) (room : List ℕ) → (evaluates e ≡ true → SameMarks w m m') → room_in (verdict_by e a b) w m I room ≡ room_in (verdict_by e a b) w m' I room
  room_alike (Ok s) a b room h =
      ap (λ (ts : List ℕ). numbers w I (terms w) ++ ts ++ drop (terms w * 2) room) (truths_alike w m m' I (h refl))
  room_alike (Err r) a b room h = refl

-- What a row says by slot marks what the sheet marks

pub row-marks : (limit : ℕ) (w sheet row : List ℕ) → WellFormed limit w → Said sheet (line_count sheet) row → SameMarks w (marks_by row) (marks_under sheet)
row-marks limit w sheet row f said k b v =
    let low : (term_at w k).p ≤ 255 = slot-most w k (f.sound k b) v in
    marks_by-row sheet row (term_at w k) said (omega arith)

-- Admission under a sheet

pub admitted_under : (w sheet : List ℕ) → accepts (admission_under w sheet) ≡ true → (admission w ≡ accepted) × (sheet_check sheet ≡ accepted)
admitted_under w sheet h = go (admission w) (sheet_check sheet) h
  where
    go : (a s : Acceptance) → accepts (and_then Err a s) ≡ true → (a ≡ accepted) × (s ≡ accepted)
    go (Ok _) (Ok _) h = (refl, refl)
    go (Ok _) (Err r) h = never h
    go (Err r) s h = never h

-- a judgement that is not refused: the table is admitted, the sheet and the setting are checked, the room is long enough
pub record Unrefused (w s : List ℕ) (c : Acceptance) (each allowance room : ℕ) : Type 0 where
  pub admitted : admission w ≡ accepted
  pub sheet : sheet_check s ≡ accepted
  pub checked : c ≡ accepted
  pub long : terms w * each ≤ room

pub passed_under : (w sheet : List ℕ) (checked : Acceptance) (each allowance room : ℕ) → evaluates (ready_by w (admission_under w sheet) checked each allowance room) ≡ true → Unrefused w sheet checked each allowance room
passed_under w sheet checked each allowance room h =
    let p = passed_by w (admission_under w sheet) checked each allowance room h in
    let both = admitted_under w sheet (ap accepts p.admitted) in
    record { admitted = both.0; sheet = both.1; checked = p.checked; long = p.long }

-- where the sheet is not refused, what is ready under it is ready without
pub ready_under : (w sheet : List ℕ) (checked : Acceptance) (each allowance room : ℕ) → sheet_check sheet ≡ accepted
    → ready_by w (admission_under w sheet) checked each allowance room ≡ ready_by w (admission w) checked each allowance room
ready_under w sheet checked each allowance room h = ap (λ (a : Acceptance). ready_by w a checked each allowance room) (ap (and_then Err (admission w)) h ∙ whole (admission w))
  where
    whole : (a : Acceptance) → and_then Err a accepted ≡ a
    whole (Ok _) = refl
    whole (Err r) = refl
