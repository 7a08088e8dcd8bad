-- The four terms that parsing writes pass 3, 4 and 5: constants, variables, joins, and lists of an operator.
-- Assumes nothing.
use mathlib.Core.Path.{◌≡◌, refl, sym, ◌∙◌}
use mathlib.Core.Bool.{Bool, true, false, ◌&&◌, ◌||◌}
use mathlib.Core.List.{List}
use Prim.Native.Nat.{ℕ, zero, suc, ◌≤◌, ◌<◌}
use native.Mathlib.Omega.{arith}
use lib.Dec.{eqb}
use borrow.Author.Tests.{le-leb, lt-ltb, ne_eqb, eqb-true}
use Rattle.ops.specs.Numbers.{op_of, last_op}
use Rattle.ops.proofs.Booleans.{never, and_shut}
use Rattle.table.specs.declared.ranks.Rank.{Rank}
use Rattle.table.specs.declared.ranks.Rank.TheVariants as rank
use Rattle.table.specs.declared.ranks.Fields.{Fields}
use Rattle.table.specs.declared.ranks.Fields.TheVariants.{Value, Slot, One, Two, Three}
use Rattle.table.specs.declared.words.Sort.{Sort}
use Rattle.table.specs.Terms.{sort_at}
use Rattle.table.specs.Ranks.{rank_of, fields_of, operand_count, slotted}
use Rattle.table.specs.Faults.{width, sorted, placed_as}
use Rattle.table.proofs.OpNumbers.{number_of}
use Rattle.parser.specs.declared.states.Listed.{Listed}
use Rattle.parser.specs.Expressions.{sort_by, term_of, constant_term, operands_of}
use Rattle.parser.specs.Rules.{variable_term, and_term}
use Rattle.meanings.proofs.NumbersTables.{Clean, Table}

-- Sorts

pub scalar-sorted : (n : ℕ) → n ≤ 32 → sorted (record { m = 0; n = n }) ≡ true
scalar-sorted zero h = refl
scalar-sorted (suc n) h = rw (ne_eqb (suc n) 0 (λ e. omega arith), lt-ltb 0 (suc n) (omega arith), le-leb (suc n) 32 h)

-- of an array the sort of what it holds
held-sorted : (s : Sort) → sorted s ≡ true → sorted (record { m = 0; n = s.n }) ≡ true
held-sorted s = go (eqb s.n 0) (width s.n)
  where
    go : (a b : Bool) → (eqb s.m 0 && a) || (eqb s.m 0 && b) || (width s.m && b) ≡ true → a || b || (false && b) ≡ true
    go true b e = refl
    go false true e = refl
    go false false e = never (sym (rw (and_shut (eqb s.m 0), and_shut (width s.m))) ∙ e)

-- of a list, from those of the operands that there are
sort_sorted : (k : Rank) (a b : Sort) → (1 ≤ operand_count (fields_of k) → sorted a ≡ true) → (2 ≤ operand_count (fields_of k) → sorted b ≡ true)
    → sorted (sort_by k a b) ≡ true
sort_sorted rank.Literal a b e f = refl
sort_sorted rank.Input a b e f = refl
sort_sorted rank.BoolUnary a b e f = refl
sort_sorted rank.BoolBinary a b e f = refl
sort_sorted rank.Equality a b e f = refl
sort_sorted rank.Choice a b e f = f (omega arith)
sort_sorted rank.BvUnary a b e f = e (omega arith)
sort_sorted rank.BvBinary a b e f = e (omega arith)
sort_sorted rank.BvCompare a b e f = refl
sort_sorted rank.Read a b e f = held-sorted a (e (omega arith))
sort_sorted rank.Write a b e f = e (omega arith)
sort_sorted rank.Other a b e f = e (omega arith)

-- Terms

pub constant_clean : (c n v : ℕ) → n ≤ 32 → Clean c (constant_term n v)
constant_clean c n v h = record { numbered = refl; sorts = scalar-sorted n h; fielded = refl; slotted = λ e. never e }

pub variable_clean : (c m n slot : ℕ) (mark : Bool) → sorted (record { m = m; n = n }) ≡ true → slot ≡ c → Clean c (variable_term m n slot mark)
variable_clean c m n slot mark s e = record { numbered = refl; sorts = s; fielded = refl; slotted = λ i. e }

pub and_clean : (c p q : ℕ) → p < c → q < c → Clean c (and_term p q)
and_clean c p q a b = record { numbered = refl; sorts = refl; fielded = rw (lt-ltb p c a, lt-ltb q c b); slotted = λ e. never e }

-- as many operands as l says are below c, the other fields are 0
pub record Held (c : ℕ) (l : Listed) : Type 0 where
  pub first : 1 ≤ l.n → l.p < c
  pub second : 2 ≤ l.n → l.q < c
  pub third : 3 ≤ l.n → l.r < c
  pub no_second : l.n ≤ 1 → l.q ≡ 0
  pub no_third : l.n ≤ 2 → l.r ≡ 0

fields-there : (f : Fields) (c op : ℕ) (s : Sort) (l : Listed) → Held c l → l.n ≡ operand_count f
    → placed_as f c (record { op = op; sort = s; p = l.p; q = l.q; r = l.r }) ≡ true
fields-there Value c op s l h e = rw (h.no_second (omega arith), h.no_third (omega arith))
fields-there Slot c op s l h e = rw (h.no_third (omega arith))
fields-there One c op s l h e = rw (lt-ltb _ _ (h.first (omega arith)), h.no_second (omega arith), h.no_third (omega arith))
fields-there Two c op s l h e = rw (lt-ltb _ _ (h.first (omega arith)), lt-ltb _ _ (h.second (omega arith)), h.no_third (omega arith))
fields-there Three c op s l h e = rw (lt-ltb _ _ (h.first (omega arith)), lt-ltb _ _ (h.second (omega arith)), lt-ltb _ _ (h.third (omega arith)))

no_variable : (op : ℕ) → 2 ≤ op → slotted (op_of op) ≡ true → ⊥
no_variable op h e = omega (arith, eqb-true op 1 (number_of slotted 1 refl refl op ∙ e))

pub list_clean : {names c : ℕ} {room : List ℕ} → Table names c room → c ≤ 512 → (op : ℕ) (l : Listed) → 2 ≤ op → op ≤ last_op → Held c l
    → l.n ≡ operands_of op → Clean c (term_of room op l)
unfolding term_of
list_clean {c = c} {room} t few op l low high h e =
    record {
      numbered = le-leb op last_op high;
      sorts = sort_sorted (rank_of (op_of op)) (sort_at room l.p) (sort_at room l.q) (λ i. (t.clean few l.p (h.first (omega arith))).sorts)
          (λ i. (t.clean few l.q (h.second (omega arith))).sorts);
      fielded = fields-there (fields_of (rank_of (op_of op))) c op (sort_by (rank_of (op_of op)) (sort_at room l.p) (sort_at room l.q)) l h e;
      slotted = λ i. absurd (no_variable op low i);
    }
