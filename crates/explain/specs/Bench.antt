-- The way down, the repair and the settler in examples of paper 01, by computation.
-- Assumes nothing.
use Rattle.std.specs.Prelude.{◌≡◌, refl, cond, List, [], ◌∷◌, ℕ, zero, suc, Option, None, Some}
use Rattle.ops.specs.Meaning.{apply}
use Rattle.ops.specs.Condition.{settles}
use Rattle.table.specs.Bench.{term, rule_g, rule_h}
use Rattle.table.specs.Folds.{fold}
use Rattle.table.specs.Terms.{terms, term_at}
use Rattle.setting.specs.Cells.{look_from, look}
use Rattle.setting.specs.Interpretation.{interpret}
use Rattle.evaluate.specs.Values.{value_by, numbers}
use Rattle.judge.specs.Conditions.{condition_by, truths}
use Rattle.sheets.specs.Marks.{own_marks}
use Rattle.explain.specs.declared.answers.Settled.{Settled}
use Rattle.explain.specs.declared.answers.Settled.TheVariants.{Alone, Picked, Equal, AtIndex, EqualBeneath, EqualBranches, Unmarked}
use Rattle.explain.specs.declared.answers.Source.{Source}
use Rattle.explain.specs.declared.answers.Source.TheVariants.{Operand, Index, Stored, Test, Array}
use Rattle.explain.specs.Sources.{along_within, support}
use Rattle.explain.specs.Ways.{on_way, blamed, looked_at, way_down}
use Rattle.explain.specs.Repairs.{repair_of}
use Rattle.explain.specs.Settlers.{stop_within, unfree_within, unfree_at, settler_of}
use Rattle.explain.specs.Laws.{way_in, repair_in}

-- a marked test, unmarked branches of width 8 (slots 0, 1, 2): the choice is 3
abbrev choosing : List ℕ
choosing = term 1 0 0 0 1 0 (term 1 0 8 1 0 0 (term 1 0 8 2 0 0 (term 7 0 8 0 1 2 (term 0 0 8 3 0 0 (term 6 0 0 3 4 0 [])))))

-- the same with the first branch marked too; with the second branch alone marked
abbrev behind : List ℕ
behind = term 1 0 0 0 1 0 (term 1 0 8 1 1 0 (term 1 0 8 2 0 0 (term 7 0 8 0 1 2 (term 0 0 8 3 0 0 (term 6 0 0 3 4 0 [])))))

abbrev aside : List ℕ
aside = term 1 0 0 0 0 0 (term 1 0 8 1 0 0 (term 1 0 8 2 1 0 (term 7 0 8 0 1 2 (term 0 0 8 3 0 0 (term 6 0 0 3 4 0 [])))))

-- rule H with t unmarked and a marked
abbrev marked_index : List ℕ
marked_index = term 1 8 8 0 0 0 (term 1 0 8 1 1 0 (term 1 0 8 2 0 0 (term 0 0 8 42 0 0 (term 16 8 8 0 1 3 (term 15 0 8 4 2 0 (term 6 0 0 5 3 0 []))))))

-- rule H with t unmarked, and a marked value in place of 42 stored at a (slot 3)
abbrev marked_value : List ℕ
marked_value = term 1 8 8 0 0 0 (term 1 0 8 1 0 0 (term 1 0 8 2 0 0 (term 1 0 8 3 1 0 (term 16 8 8 0 1 3 (term 15 0 8 4 2 0 (term 6 0 0 5 1 0 []))))))

-- a marked test, two unmarked curves (slots 0, 1, 2), read at slot 3: the choice is 3, the read 5
abbrev curves : List ℕ
curves = term 1 0 0 0 1 0 (term 1 8 8 1 0 0 (term 1 8 8 2 0 0 (term 7 8 8 0 1 2 (term 1 0 8 3 0 0 (term 15 0 8 3 4 0 (term 6 0 0 5 4 0 []))))))

-- the same with the second curve alone marked
abbrev other_curve : List ℕ
other_curve = term 1 0 0 0 0 0 (term 1 8 8 1 0 0 (term 1 8 8 2 1 0 (term 7 8 8 0 1 2 (term 1 0 8 3 0 0 (term 15 0 8 3 4 0 (term 6 0 0 5 4 0 []))))))

-- of the first n numbers of a row those that are marked, the highest first
pub listed_below : ℕ → List ℕ → List ℕ
listed_below zero row = []
listed_below (suc k) row = let rest = listed_below k row in cond (on_way row k) (k ∷ rest) rest

-- the terms on the way down of a table in a setting, and the slots that a repair names, of the first four
pub record Down : Type 0 where
  pub way : List ℕ
  pub slots : List ℕ

pub down_in : List ℕ → List ℕ → Down
down_in w values =
    let I = interpret values (look []) in
    record { way = listed_below (terms w) (way_in w own_marks I); slots = listed_below 4 (repair_in w own_marks I) }

-- what settled term k of a table in a setting, and its operand i that is not free
pub record Told : Type 0 where
  pub by : Option Settled
  pub though : Option Source

pub told_in : List ℕ → List ℕ → ℕ → ℕ → Told
told_in w values k i =
    let I = interpret values (look []) in
    let ts = truths w own_marks I (terms w) in
    record { by = settler_of w (numbers w I (terms w)) ts k; though = unfree_at w ts (term_at w k) i }

-- P1, whose condition is true. P2: by the sum and the product to x. P8: past the store to the array. P11 with branches
-- 3 and 4: to the test; with a marked branch behind it: to both. A read at a marked store index, of the store and past
-- it: to that index. A read by a marked test of curves that differ: to the test; of a marked curve that a free test
-- picks: to the curve.
pub ways : List Down
ways =
    down_in rule_g (0 ∷ 5 ∷ 1 ∷ [])
    ∷ down_in rule_g (1 ∷ 1 ∷ 0 ∷ [])
    ∷ down_in rule_h (42 ∷ 0 ∷ 2 ∷ [])
    ∷ down_in choosing (1 ∷ 3 ∷ 4 ∷ [])
    ∷ down_in behind (1 ∷ 3 ∷ 4 ∷ [])
    ∷ down_in marked_index (9 ∷ 0 ∷ 0 ∷ [])
    ∷ down_in marked_index (9 ∷ 1 ∷ 0 ∷ [])
    ∷ down_in curves (1 ∷ 3 ∷ 4 ∷ 0 ∷ [])
    ∷ down_in other_curve (0 ∷ 3 ∷ 4 ∷ 0 ∷ [])
    ∷ []

pub ways_are : ways
    ≡ record { way = []; slots = [] }
    ∷ record { way = 6 ∷ 4 ∷ 3 ∷ 1 ∷ []; slots = 1 ∷ [] }
    ∷ record { way = 6 ∷ 5 ∷ 0 ∷ []; slots = 0 ∷ [] }
    ∷ record { way = 5 ∷ 3 ∷ 0 ∷ []; slots = 0 ∷ [] }
    ∷ record { way = 5 ∷ 3 ∷ 1 ∷ 0 ∷ []; slots = 1 ∷ 0 ∷ [] }
    ∷ record { way = 6 ∷ 5 ∷ 1 ∷ []; slots = 1 ∷ [] }
    ∷ record { way = 6 ∷ 5 ∷ 1 ∷ []; slots = 1 ∷ [] }
    ∷ record { way = 6 ∷ 5 ∷ 0 ∷ []; slots = 0 ∷ [] }
    ∷ record { way = 6 ∷ 5 ∷ 2 ∷ []; slots = 2 ∷ [] }
    ∷ []
unfolding ways down_in listed_below fold value_by condition_by apply settles look_from along_within support blamed looked_at way_down repair_of
ways_are = refl

-- P1: the product, by a, which is 0. P2: not free. P7: the read, by the store at its index. P11: equal branches, and
-- others. The first branch picked by a free test. A read past a marked index, by the equal value beneath. A read past a
-- marked value, by the unmarked array. A read by a marked test of curves that are equal there, and of others. A read of
-- the unmarked curve that a free test picks.
pub settlers : List Told
settlers =
    told_in rule_g (0 ∷ 5 ∷ 1 ∷ []) 3 1
    ∷ told_in rule_g (1 ∷ 1 ∷ 0 ∷ []) 3 1
    ∷ told_in rule_h (9 ∷ 0 ∷ 0 ∷ []) 5 0
    ∷ told_in choosing (1 ∷ 3 ∷ 3 ∷ []) 3 0
    ∷ told_in choosing (1 ∷ 3 ∷ 4 ∷ []) 3 0
    ∷ told_in aside (1 ∷ 3 ∷ 4 ∷ []) 3 2
    ∷ told_in marked_index (42 ∷ 0 ∷ 2 ∷ []) 5 0
    ∷ told_in marked_value (9 ∷ 0 ∷ 2 ∷ 7 ∷ []) 5 0
    ∷ told_in curves (1 ∷ 3 ∷ 3 ∷ 0 ∷ []) 5 0
    ∷ told_in curves (1 ∷ 3 ∷ 4 ∷ 0 ∷ []) 5 0
    ∷ told_in other_curve (1 ∷ 3 ∷ 4 ∷ 0 ∷ []) 5 0
    ∷ []

pub settlers_are : settlers
    ≡ record { by = Some (Alone 0); though = Some (Operand 1) }
    ∷ record { by = None; though = Some (Operand 1) }
    ∷ record { by = Some (AtIndex (record { store = 4; term = 3 })); though = Some (Array 0) }
    ∷ record { by = Some (Equal 1 2); though = Some (Operand 0) }
    ∷ record { by = None; though = Some (Operand 0) }
    ∷ record { by = Some (Picked 0 1); though = Some (Operand 2) }
    ∷ record { by = Some (EqualBeneath (record { store = 4; term = 3 })); though = Some (Index (record { store = 4; term = 1 })) }
    ∷ record { by = Some (Unmarked 0); though = Some (Stored (record { store = 4; term = 3 })) }
    ∷ record { by = Some (EqualBranches 3); though = Some (Test (record { store = 3; term = 0 })) }
    ∷ record { by = None; though = Some (Test (record { store = 3; term = 0 })) }
    ∷ record { by = Some (Unmarked 1); though = Some (Array 2) }
    ∷ []
unfolding settlers told_in fold value_by condition_by apply settles look_from stop_within unfree_within unfree_at settler_of
settlers_are = refl
