-- Finished tables, by computation: rows of one list, and paper 01's rules G and H whole.
-- Assumes nothing.
use Rattle.std.specs.Prelude.{◌≡◌, refl, Bool, true, ◌&&◌, List, [], ◌∷◌, ℕ, pred, eqb, get_or}
use Rattle.table.specs.Bench.{term, rule_g, rule_h}
use Rattle.judge.specs.Bench.{chosen_twice}
use Rattle.table.specs.Folds.{every, fold, any_below}
use Rattle.table.specs.Terms.{terms, word_at}
use Rattle.table.specs.Faults.{typed, clash, size_within, fault_if, fault}
use Rattle.table.specs.Admission.{scan, admission_within, admission, accepts}
use Rattle.groups.specs.Added.{flat}
use Rattle.groups.specs.Plans.{plan_by, groups}
use Rattle.finish.specs.Finished.{finished, extent}

-- a table, and of the finished one what the paper says: the count of terms, the number of C(rule), the last term's six numbers
pub record Row : Type 0 where
  pub table : List ℕ
  pub count : ℕ
  pub condition : ℕ
  pub last : List ℕ

-- number j of a row's last term is as the row says
abbrev ends : Row → ℕ → Bool
ends x j = eqb (word_at (finished x.table) (pred x.count) j) (get_or x.last j 0)

-- a row is right: its table is admitted, and finished it is as the row says
pub right : Row → Bool
right x =
    accepts (admission x.table)
    && eqb (terms (finished x.table)) x.count
    && eqb (extent x.table).condition x.condition
    && ends x 0 && ends x 1 && ends x 2 && ends x 3 && ends x 4 && ends x 5

-- "and" of an unmarked and a marked Boolean (slots 0, 1), which the rule leaves aside: not of the unmarked one
abbrev pub unmarked_rule : List ℕ
unmarked_rule = term 1 0 0 0 0 0 (term 1 0 0 1 1 0 (term 3 0 0 0 1 0 (term 2 0 0 0 0 0 [])))

-- a marked vector shifted by itself, equal to itself: the less in the shift's group has no group of its own
abbrev pub shift_rule : List ℕ
shift_rule = term 1 0 8 0 1 0 (term 13 0 8 0 0 0 (term 6 0 0 1 1 0 []))

-- signed less of a marked and an unmarked vector, and their right shift (slots 0, 1)
abbrev pub signed_less_rule : List ℕ
signed_less_rule = term 1 0 8 0 1 0 (term 1 0 8 1 0 0 (term 19 0 0 0 1 0 []))

abbrev pub right_shift_rule : List ℕ
right_shift_rule = term 1 0 8 0 1 0 (term 1 0 8 1 0 0 (term 20 0 8 0 1 0 (term 6 0 0 2 2 0 [])))

-- the difference of the two is the negation of the first
abbrev pub negation_rule : List ℕ
negation_rule = term 1 0 8 0 1 0 (term 1 0 8 1 0 0 (term 18 0 8 1 0 0 (term 17 0 8 0 0 0 (term 6 0 0 2 3 0 []))))

-- rule G; rule H; a rule whose condition is T; a shift; the signed operators
pub rows : List Row
rows =
    record { table = rule_g; count = 28; condition = 26; last = term 3 0 0 6 26 0 [] }
    ∷ record { table = rule_h; count = 21; condition = 19; last = term 3 0 0 6 19 0 [] }
    ∷ record { table = unmarked_rule; count = 14; condition = 4; last = term 3 0 0 3 4 0 [] }
    ∷ record { table = shift_rule; count = 13; condition = 11; last = term 3 0 0 2 11 0 [] }
    ∷ record { table = signed_less_rule; count = 15; condition = 13; last = term 3 0 0 2 13 0 [] }
    ∷ record { table = right_shift_rule; count = 17; condition = 15; last = term 3 0 0 3 15 0 [] }
    ∷ record { table = negation_rule; count = 10; condition = 8; last = term 3 0 0 4 8 0 [] }
    ∷ record { table = chosen_twice; count = 21; condition = 19; last = term 3 0 0 6 19 0 [] }
    ∷ []

-- by computation
pub examples : every right rows ≡ true
unfolding every rows right admission_within scan fault fault_if typed any_below clash size_within fold finished flat plan_by groups
examples = refl

-- Rule G: T is 7 and F is 8; the product's group is 9 to 16, the sum's 17, the comparison's 18 to 26
abbrev pub finished_g : List ℕ
finished_g =
    term 1 0 8 0 0 0
    (term 1 0 8 1 1 0
    (term 1 0 8 2 0 0
    (term 12 0 8 0 1 0
    (term 11 0 8 3 2 0
    (term 0 0 8 0 0 0
    (term 14 0 0 5 4 0
    (term 0 0 0 1 0 0
    (term 0 0 0 0 0 0
    (term 0 0 8 0 0 0
    (term 6 0 0 0 9 0
    (term 3 0 0 7 10 0
    (term 6 0 0 1 9 0
    (term 3 0 0 8 12 0
    (term 4 0 0 11 13 0
    (term 3 0 0 7 8 0
    (term 4 0 0 14 15 0
    (term 3 0 0 16 7 0
    (term 0 0 8 255 0 0
    (term 6 0 0 5 18 0
    (term 3 0 0 7 19 0
    (term 0 0 8 0 0 0
    (term 6 0 0 4 21 0
    (term 3 0 0 17 22 0
    (term 4 0 0 20 23 0
    (term 3 0 0 7 17 0
    (term 4 0 0 24 25 0
    (term 3 0 0 6 26 0 [])))))))))))))))))))))))))))

pub finished_g_lem : finished rule_g ≡ finished_g
unfolding finished flat fold plan_by groups
finished_g_lem = refl

-- Rule H: T is 7 and F is 8; the read's group is 9 to 18, of which 9 is the variable's and the rest the store's; the equality's is 19
abbrev pub finished_h : List ℕ
finished_h =
    term 1 8 8 0 1 0
    (term 1 0 8 1 0 0
    (term 1 0 8 2 0 0
    (term 0 0 8 42 0 0
    (term 16 8 8 0 1 3
    (term 15 0 8 4 2 0
    (term 6 0 0 5 3 0
    (term 0 0 0 1 0 0
    (term 0 0 0 0 0 0
    (term 3 0 0 8 7 0
    (term 15 0 8 0 2 0
    (term 6 0 0 1 2 0
    (term 7 0 0 11 7 9
    (term 3 0 0 7 7 0
    (term 3 0 0 13 12 0
    (term 6 0 0 3 10 0
    (term 3 0 0 7 9 0
    (term 3 0 0 16 15 0
    (term 4 0 0 14 17 0
    (term 3 0 0 18 7 0
    (term 3 0 0 6 19 0 []))))))))))))))))))))

pub finished_h_lem : finished rule_h ≡ finished_h
unfolding finished flat fold plan_by groups
finished_h_lem = refl

-- Signed less: T is 3 and F is 4; its group is 5 to 13
pub finished-signed_less : finished signed_less_rule
    ≡ term 1 0 8 0 1 0
    (term 1 0 8 1 0 0
    (term 19 0 0 0 1 0
    (term 0 0 0 1 0 0
    (term 0 0 0 0 0 0
    (term 0 0 8 127 0 0
    (term 6 0 0 0 5 0
    (term 3 0 0 4 6 0
    (term 0 0 8 128 0 0
    (term 6 0 0 1 8 0
    (term 3 0 0 3 9 0
    (term 4 0 0 7 10 0
    (term 3 0 0 4 3 0
    (term 4 0 0 11 12 0
    (term 3 0 0 2 13 0 []))))))))))))))
unfolding finished flat fold plan_by groups
finished-signed_less = refl

-- The right shift: T is 4 and F is 5; its group is 6 to 14, both tests of the shifted vector; the equality's is 15
pub finished-right_shift : finished right_shift_rule
    ≡ term 1 0 8 0 1 0
    (term 1 0 8 1 0 0
    (term 20 0 8 0 1 0
    (term 6 0 0 2 2 0
    (term 0 0 0 1 0 0
    (term 0 0 0 0 0 0
    (term 0 0 8 0 0 0
    (term 6 0 0 0 6 0
    (term 3 0 0 5 7 0
    (term 0 0 8 255 0 0
    (term 6 0 0 0 9 0
    (term 3 0 0 5 10 0
    (term 4 0 0 8 11 0
    (term 3 0 0 5 4 0
    (term 4 0 0 12 13 0
    (term 3 0 0 14 14 0
    (term 3 0 0 3 15 0 []))))))))))))))))
unfolding finished flat fold plan_by groups
finished-right_shift = refl

-- A read of choice(c, a, a): T is 7 and F is 8; its group is 9 to 18, of which 9 and 10 are the variable's, once for each branch, and
-- the rest the choice's; the equality's is 19
pub finished-chosen_twice : finished chosen_twice
    ≡ term 1 8 8 0 0 0
    (term 1 0 0 1 1 0
    (term 1 0 8 2 0 0
    (term 7 8 8 1 0 0
    (term 15 0 8 3 2 0
    (term 0 0 8 7 0 0
    (term 6 0 0 4 5 0
    (term 0 0 0 1 0 0
    (term 0 0 0 0 0 0
    (term 3 0 0 7 7 0
    (term 3 0 0 7 7 0
    (term 15 0 8 0 2 0
    (term 15 0 8 0 2 0
    (term 7 0 0 1 9 10
    (term 3 0 0 8 13 0
    (term 3 0 0 9 10 0
    (term 6 0 0 11 12 0
    (term 3 0 0 15 16 0
    (term 4 0 0 14 17 0
    (term 3 0 0 18 7 0
    (term 3 0 0 6 19 0 []))))))))))))))))))))
unfolding finished flat fold plan_by groups
finished-chosen_twice = refl
