-- Paper 01's rules G and H ("Bench examples"), and two tables more that rows and examples use.
-- Assumes nothing.
use Rattle.std.specs.Prelude.{List, [], ◌∷◌, ℕ}

-- a term in front of others
abbrev pub term : ℕ → ℕ → ℕ → ℕ → ℕ → ℕ → List ℕ → List ℕ
term op m n p q r rest = op ∷ m ∷ n ∷ p ∷ q ∷ r ∷ rest

-- width 8, a and b unmarked, x marked (slots 0, 2, 1): 0 < a × x + b
abbrev pub rule_g : List ℕ
rule_g =
    term 1 0 8 0 0 0
    (term 1 0 8 1 1 0
    (term 1 0 8 2 0 0
    (term 12 0 8 0 1 0
    (term 11 0 8 3 2 0
    (term 0 0 8 0 0 0
    (term 14 0 0 5 4 0 []))))))

-- marked array t (8, 8), unmarked a and c (slots 0, 1, 2), constant 42, store 42 at a, read at c, equal to that same 42
abbrev pub rule_h : List ℕ
rule_h =
    term 1 8 8 0 1 0
    (term 1 0 8 1 0 0
    (term 1 0 8 2 0 0
    (term 0 0 8 42 0 0
    (term 16 8 8 0 1 3
    (term 15 0 8 4 2 0
    (term 6 0 0 5 3 0 []))))))

-- a marked test, unmarked branches of width 8 (slots 0, 1, 2): the choice is 3
abbrev pub choosing : List ℕ
choosing = term 1 0 0 0 1 0 (term 1 0 8 1 0 0 (term 1 0 8 2 0 0 (term 7 0 8 0 1 2 (term 0 0 8 3 0 0 (term 6 0 0 3 4 0 [])))))

-- rule H with t unmarked and a marked
abbrev pub marked_index : List ℕ
marked_index =
    term 1 8 8 0 0 0
    (term 1 0 8 1 1 0
    (term 1 0 8 2 0 0
    (term 0 0 8 42 0 0
    (term 16 8 8 0 1 3
    (term 15 0 8 4 2 0
    (term 6 0 0 5 3 0 []))))))
