-- Paper 01's bench examples P1 to P12, as rows of one list.
-- Assumes nothing.
use Rattle.std.specs.Prelude.{◌≡◌, refl, Bool, true, false, ◌&&◌, List, [], ◌∷◌, ℕ, eqb}
use Rattle.std.specs.Bool.{beq}
use Rattle.ops.specs.Meaning.{apply}
use Rattle.ops.specs.Condition.{settles}
use Rattle.table.specs.Bench.{term, rule_g, rule_h, choosing, marked_index}
use Rattle.table.specs.Folds.{every, fold, any_below}
use Rattle.table.specs.Terms.{terms}
use Rattle.table.specs.Faults.{typed, clash, size_within, fault_if, fault}
use Rattle.table.specs.Admission.{scan, admission_within, admission, accepts, refused}
use Rattle.setting.specs.Cells.{look_from, look}
use Rattle.setting.specs.Interpretation.{interpret}
use Rattle.evaluate.specs.Steps.{steps}
use Rattle.evaluate.specs.Values.{value_by, value_at}
use Rattle.judge.specs.Conditions.{condition_by, condition_at}
use Rattle.sheets.specs.Marks.{own_marks}

-- a table in a setting: of the term at, the value and the condition that the paper says; of the table, the steps
pub record Row : Type 0 where
  pub table : List ℕ
  pub values : List ℕ
  pub cells : List ℕ
  pub at : ℕ
  pub value : ℕ
  pub condition : Bool
  pub spent : ℕ

-- a row is right: its table is admitted, and the meanings say what the row says
pub right : Row → Bool
right x =
    accepts (admission x.table)
    && eqb (value_at x.table (interpret x.values (look x.cells)) x.at).num x.value
    && beq (condition_at x.table own_marks (interpret x.values (look x.cells)) x.at).free x.condition
    && eqb (steps x.table (terms x.table)) x.spent

-- two constants, an operator on them, and whether that is the third constant: all of width 8
abbrev of_constants : ℕ → ℕ → ℕ → ℕ → List ℕ
of_constants op x y z = term 0 0 8 x 0 0 (term 0 0 8 y 0 0 (term op 0 8 0 1 0 (term 0 0 8 z 0 0 (term 6 0 0 2 3 0 []))))

-- a marked vector of width 8 shifted by an unmarked one (slots 0, 1) is 0
abbrev shifting : List ℕ
shifting = term 1 0 8 0 1 0 (term 1 0 8 1 0 0 (term 13 0 8 0 1 0 (term 0 0 8 0 0 0 (term 6 0 0 2 3 0 []))))

-- x < 5 or not (x < 5), x marked, of width 8
abbrev pub either : List ℕ
either = term 1 0 8 0 1 0 (term 0 0 8 5 0 0 (term 14 0 0 0 1 0 (term 2 0 0 2 0 0 (term 4 0 0 2 3 0 []))))

-- a marked vector of width 8 (slot 0) is below a constant; a constant is below it (paper 02, request 03)
abbrev below : ℕ → List ℕ
below c = term 1 0 8 0 1 0 (term 0 0 8 c 0 0 (term 14 0 0 0 1 0 []))

abbrev above : ℕ → List ℕ
above c = term 1 0 8 0 1 0 (term 0 0 8 c 0 0 (term 14 0 0 1 0 0 []))

-- a marked vector of width n (slot 0), an unmarked one (slot 1), and an operator on them: 18 to 20, whose term is 2; 17 on the first
abbrev signedly : ℕ → ℕ → List ℕ
signedly op n = term 1 0 n 0 1 0 (term 1 0 n 1 0 0 (term op 0 n 0 1 0 (term 6 0 0 2 2 0 [])))

abbrev negated : ℕ → List ℕ
negated n = term 1 0 n 0 0 0 (term 17 0 n 0 0 0 (term 6 0 0 1 1 0 []))

-- an unmarked vector shifted to the right by a marked amount (slots 0, 1)
abbrev shifted_right : List ℕ
shifted_right = term 1 0 8 0 0 0 (term 1 0 8 1 1 0 (term 20 0 8 0 1 0 (term 6 0 0 2 2 0 [])))

-- signed less at width n, first operand marked or second
abbrev signed_less : ℕ → ℕ → ℕ → List ℕ
signed_less n first second = term 1 0 n 0 first 0 (term 1 0 n 1 second 0 (term 19 0 0 0 1 0 []))

-- the web's tension error, measured less target, is above -5 (slots 0, 1), or a marked alarm (slot 2, read as signed) is below a limit
-- (slot 3)
abbrev tension : List ℕ
tension =
    term 1 0 8 0 0 0
    (term 1 0 8 1 0 0
    (term 1 0 8 2 1 0
    (term 1 0 8 3 0 0
    (term 18 0 8 0 1 0
    (term 0 0 8 251 0 0
    (term 19 0 0 5 4 0
    (term 19 0 0 2 3 0
    (term 4 0 0 6 7 0 []))))))))

-- Choices of arrays (paper 02, request 07): a summer and a winter curve (slots 0, 1), a test (slot 2), an index (slot 3); test and
-- winter marked or not
abbrev curves : ℕ → ℕ → List ℕ → List ℕ
curves test winter rest = term 1 8 8 0 0 0 (term 1 8 8 1 winter 0 (term 1 0 0 2 test 0 (term 1 0 8 3 0 0 rest)))

-- the curve that the test picks holds 7 at the index
abbrev pub curve_rule : ℕ → ℕ → List ℕ
curve_rule test winter = curves test winter (term 7 8 8 2 0 1 (term 15 0 8 4 3 0 (term 0 0 8 7 0 0 (term 6 0 0 5 6 0 []))))

-- a store of 7 at the index over the choice; the choice between such a store over summer, and winter
abbrev store_over_choice : List ℕ
store_over_choice = curves 1 0 (term 7 8 8 2 0 1 (term 0 0 8 7 0 0 (term 16 8 8 4 3 5 (term 15 0 8 6 3 0 (term 6 0 0 7 5 0 [])))))

abbrev choice_over_stores : List ℕ
choice_over_stores = curves 1 0 (term 0 0 8 7 0 0 (term 16 8 8 0 3 4 (term 7 8 8 2 5 1 (term 15 0 8 6 3 0 (term 6 0 0 7 4 0 [])))))

-- choice(c, a, a), a curve a (slot 0), a marked test c (slot 1), an index (slot 2), holds 7 there
abbrev pub chosen_twice : List ℕ
chosen_twice = term 1 8 8 0 0 0 (term 1 0 0 1 1 0 (term 1 0 8 2 0 0 (term 7 8 8 1 0 0 (term 15 0 8 3 2 0 (term 0 0 8 7 0 0 (term 6 0 0 4 5 0 []))))))

-- the same choice over and over: sizes 1, 3, 7, 15, and then a choice of that with array k
abbrev tower : ℕ → List ℕ
tower k =
    term 1 8 8 0 0 0
    (term 1 0 0 1 1 0
    (term 1 0 8 2 0 0
    (term 7 8 8 1 0 0
    (term 7 8 8 1 3 3
    (term 7 8 8 1 4 4
    (term 7 8 8 1 5 5
    (term 7 8 8 1 6 k
    (term 15 0 8 7 2 0
    (term 0 0 8 7 0 0
    (term 6 0 0 8 9 0 []))))))))))

-- P1 to P4: rule G, values a, x, b. P5, P6: a sum and a product. P7, P8: rule H, values t (all of it), a, c. P9, P10: a shift.
-- P11: a choice, equal branches and others. P12: in two settings. Then a read of a store at a marked index. Last, a marked 7 beside bounds:
-- nothing is below 0, nothing above all ones; no other bound settles a less. After these the signed operators (request 05) and choices of arrays (07).
pub rows : List Row
rows =
    -- P1
    record { table = rule_g; values = 0 ∷ 5 ∷ 1 ∷ []; cells = []; at = 6; value = 1; condition = true; spent = 0 }
    -- P2
    ∷ record { table = rule_g; values = 1 ∷ 1 ∷ 0 ∷ []; cells = []; at = 6; value = 1; condition = false; spent = 0 }
    -- P3
    ∷ record { table = rule_g; values = 0 ∷ 5 ∷ 0 ∷ []; cells = []; at = 6; value = 0; condition = true; spent = 0 }
    -- P4
    ∷ record { table = rule_g; values = 1 ∷ 0 ∷ 1 ∷ []; cells = []; at = 6; value = 1; condition = false; spent = 0 }
    -- P5
    ∷ record { table = of_constants 11 200 100 44; values = []; cells = []; at = 2; value = 44; condition = true; spent = 0 }
    -- P6
    ∷ record { table = of_constants 12 16 16 0; values = []; cells = []; at = 2; value = 0; condition = true; spent = 0 }
    -- P7
    ∷ record { table = rule_h; values = 9 ∷ 0 ∷ 0 ∷ []; cells = []; at = 6; value = 1; condition = true; spent = 1 }
    -- P8
    ∷ record { table = rule_h; values = 42 ∷ 0 ∷ 2 ∷ []; cells = []; at = 6; value = 1; condition = false; spent = 1 }
    -- P9
    ∷ record { table = shifting; values = 1 ∷ 8 ∷ []; cells = []; at = 2; value = 0; condition = true; spent = 0 }
    -- P10
    ∷ record { table = shifting; values = 1 ∷ 7 ∷ []; cells = []; at = 2; value = 128; condition = false; spent = 0 }
    -- P11
    ∷ record { table = choosing; values = 1 ∷ 3 ∷ 3 ∷ []; cells = []; at = 3; value = 3; condition = true; spent = 0 }
    -- P11
    ∷ record { table = choosing; values = 1 ∷ 3 ∷ 4 ∷ []; cells = []; at = 3; value = 3; condition = false; spent = 0 }
    -- P12
    ∷ record { table = either; values = 4 ∷ []; cells = []; at = 4; value = 1; condition = false; spent = 0 }
    -- P12
    ∷ record { table = either; values = 5 ∷ []; cells = []; at = 4; value = 1; condition = false; spent = 0 }
    -- the read group: a store at a marked index
    ∷ record { table = marked_index; values = 9 ∷ 0 ∷ 0 ∷ []; cells = []; at = 6; value = 1; condition = false; spent = 1 }
    -- request 03
    ∷ record { table = below 0; values = 7 ∷ []; cells = []; at = 2; value = 0; condition = true; spent = 0 }
    ∷ record { table = above 255; values = 7 ∷ []; cells = []; at = 2; value = 0; condition = true; spent = 0 }
    ∷ record { table = below 1; values = 7 ∷ []; cells = []; at = 2; value = 0; condition = false; spent = 0 }
    ∷ record { table = above 254; values = 7 ∷ []; cells = []; at = 2; value = 0; condition = false; spent = 0 }
    ∷ record { table = below 255; values = 7 ∷ []; cells = []; at = 2; value = 1; condition = false; spent = 0 }
    ∷ record { table = above 0; values = 7 ∷ []; cells = []; at = 2; value = 1; condition = false; spent = 0 }
    -- request 05: values at width 8 and 1
    ∷ record { table = negated 8; values = 1 ∷ []; cells = []; at = 1; value = 255; condition = true; spent = 0 }
    ∷ record { table = negated 8; values = 128 ∷ []; cells = []; at = 1; value = 128; condition = true; spent = 0 }
    ∷ record { table = negated 1; values = 1 ∷ []; cells = []; at = 1; value = 1; condition = true; spent = 0 }
    ∷ record { table = signedly 18 8; values = 3 ∷ 5 ∷ []; cells = []; at = 2; value = 254; condition = false; spent = 0 }
    ∷ record { table = signedly 20 8; values = 128 ∷ 3 ∷ []; cells = []; at = 2; value = 240; condition = false; spent = 0 }
    ∷ record { table = signedly 20 8; values = 64 ∷ 3 ∷ []; cells = []; at = 2; value = 8; condition = false; spent = 0 }
    ∷ record { table = signedly 20 8; values = 128 ∷ 9 ∷ []; cells = []; at = 2; value = 255; condition = false; spent = 0 }
    ∷ record { table = signedly 20 1; values = 1 ∷ 1 ∷ []; cells = []; at = 2; value = 1; condition = false; spent = 0 }
    -- what settles: the first operand of a right shift is 0 or all ones, and free; it is marked here, so nothing does
    ∷ record { table = signedly 20 8; values = 255 ∷ 1 ∷ []; cells = []; at = 2; value = 255; condition = false; spent = 0 }
    ∷ record { table = signedly 20 8; values = 0 ∷ 1 ∷ []; cells = []; at = 2; value = 0; condition = false; spent = 0 }
    -- free it does, whatever the amount; the amount settles nothing
    ∷ record { table = shifted_right; values = 0 ∷ 3 ∷ []; cells = []; at = 2; value = 0; condition = true; spent = 0 }
    ∷ record { table = shifted_right; values = 255 ∷ 3 ∷ []; cells = []; at = 2; value = 255; condition = true; spent = 0 }
    ∷ record { table = shifted_right; values = 254 ∷ 3 ∷ []; cells = []; at = 2; value = 255; condition = false; spent = 0 }
    -- nothing is above the greatest, nothing below the least; a marked bound settles nothing
    ∷ record { table = signed_less 8 0 1; values = 127 ∷ 200 ∷ []; cells = []; at = 2; value = 0; condition = true; spent = 0 }
    ∷ record { table = signed_less 8 1 0; values = 200 ∷ 128 ∷ []; cells = []; at = 2; value = 0; condition = true; spent = 0 }
    ∷ record { table = signed_less 8 0 1; values = 255 ∷ 0 ∷ []; cells = []; at = 2; value = 1; condition = false; spent = 0 }
    ∷ record { table = signed_less 8 1 0; values = 200 ∷ 0 ∷ []; cells = []; at = 2; value = 1; condition = false; spent = 0 }
    ∷ record { table = signed_less 8 1 0; values = 127 ∷ 5 ∷ []; cells = []; at = 2; value = 0; condition = false; spent = 0 }
    ∷ record { table = signed_less 1 0 1; values = 0 ∷ 1 ∷ []; cells = []; at = 2; value = 0; condition = true; spent = 0 }
    ∷ record { table = signed_less 1 1 0; values = 0 ∷ 1 ∷ []; cells = []; at = 2; value = 0; condition = true; spent = 0 }
    -- the tension error -3 is above -5: passes whatever the alarm reads; -6 is not, and the alarm decides
    ∷ record { table = tension; values = 97 ∷ 100 ∷ 7 ∷ 0 ∷ []; cells = []; at = 8; value = 1; condition = true; spent = 0 }
    ∷ record { table = tension; values = 94 ∷ 100 ∷ 200 ∷ 0 ∷ []; cells = []; at = 8; value = 1; condition = false; spent = 0 }
    -- request 07: a marked test between curves that agree, everywhere or at the index, and that do not
    ∷ record { table = curve_rule 1 0; values = 7 ∷ 7 ∷ 1 ∷ 5 ∷ []; cells = []; at = 7; value = 1; condition = true; spent = 1 }
    ∷ record { table = curve_rule 1 0; values = 7 ∷ 9 ∷ 1 ∷ 5 ∷ []; cells = 1 ∷ 5 ∷ 7 ∷ []; at = 7; value = 1; condition = true; spent = 1 }
    ∷ record { table = curve_rule 1 0; values = 7 ∷ 9 ∷ 1 ∷ 5 ∷ []; cells = []; at = 7; value = 1; condition = false; spent = 1 }
    -- a free test: only the curve that it picks counts; the choice itself has neither number nor condition
    ∷ record { table = curve_rule 0 1; values = 7 ∷ 9 ∷ 1 ∷ 5 ∷ []; cells = []; at = 7; value = 1; condition = true; spent = 1 }
    ∷ record { table = curve_rule 0 1; values = 7 ∷ 9 ∷ 0 ∷ 5 ∷ []; cells = []; at = 7; value = 0; condition = false; spent = 1 }
    ∷ record { table = curve_rule 0 0; values = 7 ∷ 7 ∷ 1 ∷ 5 ∷ []; cells = []; at = 4; value = 0; condition = false; spent = 1 }
    -- both branches are one curve; a store over a choice, and a choice over stores: steps are of the whole array
    ∷ record { table = chosen_twice; values = 7 ∷ 0 ∷ 3 ∷ []; cells = []; at = 6; value = 1; condition = true; spent = 1 }
    ∷ record { table = store_over_choice; values = 1 ∷ 2 ∷ 1 ∷ 5 ∷ []; cells = []; at = 8; value = 1; condition = true; spent = 2 }
    ∷ record { table = choice_over_stores; values = 1 ∷ 7 ∷ 0 ∷ 5 ∷ []; cells = []; at = 8; value = 1; condition = true; spent = 2 }
    ∷ record { table = choice_over_stores; values = 1 ∷ 9 ∷ 0 ∷ 5 ∷ []; cells = []; at = 8; value = 0; condition = false; spent = 2 }
    -- sizes 15 and 0 make 16
    ∷ record { table = tower 0; values = 7 ∷ 0 ∷ 3 ∷ []; cells = []; at = 10; value = 1; condition = true; spent = 16 }
    ∷ []

-- by computation
pub examples : every right rows ≡ true
unfolding every rows right admission_within scan fault fault_if typed any_below clash size_within steps fold value_by condition_by apply settles look_from
examples = refl

-- sizes 15 and 15 make 31: 9 at the fifth choice; curves of two sorts: 6 at the choice
pub too_large : admission (tower 6) ≡ refused 9 7
unfolding admission_within scan fault fault_if typed any_below clash size_within
too_large = refl

pub two_sorts : admission (term 1 8 8 0 0 0 (term 1 8 4 1 0 0 (term 1 0 0 2 0 0 (term 7 8 8 2 0 1 [])))) ≡ refused 6 3
unfolding admission_within scan fault fault_if typed any_below clash size_within
two_sorts = refl
