-- SMT-LIB's names: of operators, by their numbers in the papers; of sorts, by their widths; of constants, by width and value.
-- Assumes nothing.
use Rattle.std.specs.Prelude.{cond, List, [], ◌∷◌, ℕ, zero, suc, get_or}
use Rattle.smtlib.specs.Bytes.{◌⧺◌, bytes, place_in, is_in}
use Rattle.smtlib.specs.Numerals.{numeral, bits}

-- the operators' names in the order of their numbers; constant and variable, 0 and 1, have none
abbrev pub operators : List (List ℕ)
operators =
    [] ∷ [] ∷ bytes "not" ∷ bytes "and" ∷ bytes "or" ∷ bytes "=>" ∷ bytes "=" ∷ bytes "ite"
    ∷ bytes "bvnot" ∷ bytes "bvand" ∷ bytes "bvor" ∷ bytes "bvadd" ∷ bytes "bvmul" ∷ bytes "bvshl" ∷ bytes "bvult"
    ∷ bytes "select" ∷ bytes "store" ∷ bytes "bvneg" ∷ bytes "bvsub" ∷ bytes "bvslt" ∷ bytes "bvashr"
    ∷ []

abbrev pub operator_name : ℕ → List ℕ
operator_name op = get_or operators op []

-- the number of the operator that a word names, 0 where it names none
abbrev pub operator_of : List ℕ → ℕ
operator_of w = cond (is_in operators w) (place_in operators w) 0

-- vector n
unfoldable pub vector_sort : ℕ → List ℕ
vector_sort n = bytes "(_ BitVec " ⧺ numeral n ⧺ bytes ")"

-- the sort of the widths m and n: Boolean (0, 0); vector (0, n); array (m, n)
unfoldable pub sort_name : ℕ → ℕ → List ℕ
sort_name zero zero = bytes "Bool"
sort_name zero (suc n) = vector_sort (suc n)
sort_name (suc m) n = bytes "(Array " ⧺ vector_sort (suc m) ⧺ bytes " " ⧺ vector_sort n ⧺ bytes ")"

-- a constant of width n, which is 0 for a Boolean: false, true; #b and n digits
unfoldable pub constant_name : ℕ → ℕ → List ℕ
constant_name zero zero = bytes "false"
constant_name zero (suc v) = bytes "true"
constant_name (suc n) v = bytes "#b" ⧺ bits (suc n) v
