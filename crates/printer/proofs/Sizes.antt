-- How long a text is: 57 bytes at most declare a slot, 88 define a term, 47 are the other lines.
-- Assumes nothing.
use mathlib.Core.Path.{◌≡◌, refl, sym, ap, subst}
use mathlib.Core.Bool.{Bool, true, false, cond}
use mathlib.Core.List.{List, [], ◌∷◌, ◌++◌, map}
use mathlib.Core.Logic.{◌⊎◌, inl, inr}
use Prim.Native.Nat.{ℕ, zero, suc, pred, ◌+◌, ◌*◌, ◌/◌, ◌%◌, ◌^◌, ◌≤◌, ◌<◌}
use native.Mathlib.Decide.{dec_lt}
use native.Mathlib.Nat.{pow-suc, div-lt_iff_lt-mul}
use native.Mathlib.Omega.{arith}
use lib.Dec.{leb, lit≤}
use lib.ListN.{length, length-append}
use borrow.Author.Tests.{eqb-true, leb-true}
use Rattle.ops.specs.Numbers.{op_of, last_op}
use Rattle.ops.specs.declared.Op.TheVariants.{Constant}
use Rattle.smtlib.specs.Bytes.{bytes, each}
use Rattle.smtlib.specs.Numerals.{digit, numeral, bits}
use Rattle.smtlib.specs.Symbols.{operator_name, vector_sort, sort_name, constant_name}
use Rattle.smtlib.proofs.Digits.{numeral_last, numeral-more}
use Rattle.smtlib.proofs.Operators.{passes, passed}
use Rattle.table.specs.declared.words.Sort.{Sort}
use Rattle.table.specs.declared.words.Term.{Term}
use Rattle.table.specs.Ranks.{rank_of, fields_of}
use Rattle.table.specs.Terms.{terms, term_at}
use Rattle.table.specs.Faults.{fields, is_variable, is_constant, known}
use Rattle.table.specs.WellFormed.{WellFormed}
use Rattle.table.proofs.OperandSorts.{typing_as}
use Rattle.table.proofs.SoundTerms.{Widths, widths, slot-most}
use Rattle.printer.specs.Scripts.{Body, Command, name_text, operands_text, sort_text, body_text, command_text, commands_text, script_text}
use Rattle.printer.specs.Scripts.Name.{input, defined}
use Rattle.printer.specs.Scripts.Body.{constant, application}
use Rattle.printer.specs.Scripts.Command.{define}
use Rattle.printer.specs.Printed.{name, operands, body, first_use, declaration, definition, script}
use Rattle.printer.specs.Sharing.{TextBounded}
use Rattle.printer.proofs.Parts.{lines_append}
use Rattle.printer.proofs.Operands.{constant_number, Below, placed_below}
use Rattle.printer.proofs.Uses.{Used, Unused, used_or-not, undeclared, declared}

-- at most n bytes
record Within (n : ℕ) (x : List ℕ) : Type 0 where
  most : length x ≤ n

-- one text and then another
infixr 60 ◌▹◌
◌▹◌ : {m n : ℕ} {x y : List ℕ} → Within m x → Within n y → Within (m + n) (x ++ y)
◌▹◌ {x = x} {y = y} p q = record { most = rw (length-append x y) (omega (arith, p.most, q.most)) }

-- a text as it stands
these : (x : List ℕ) → Within (length x) x
these x = record { most = omega arith }

-- a wider bound
loose : {m : ℕ} (n : ℕ) {x : List ℕ} → Within m x → m ≤ n → Within n x
loose n p h = record { most = omega (arith, p.most) }

-- a number below a power of ten has as many digits at most
numeral-most : (d v : ℕ) → v < 10 ^ suc d → length (numeral v) ≤ suc d
numeral-most zero v h = let e : length (numeral v) ≡ 1 = ap length (numeral_last v h) in omega arith
numeral-most (suc d) v h = go (dec_lt v 10) (numeral-most d (v / 10) ((div-lt_iff_lt-mul {k = 10} (omega arith)).1 (rw (← pow-suc) h)))
  where
    go : Dec (v < 10) → length (numeral (v / 10)) ≤ suc d → length (numeral v) ≤ suc (suc d)
    go (yes b) before = let e : length (numeral v) ≡ 1 = ap length (numeral_last v b) in omega arith
    go (no b) before = rw (numeral-more v (omega arith), length-append (numeral (v / 10)) (digit (v % 10))) (omega arith)

numeral-within : (d v : ℕ) → v < 10 ^ suc d → Within (suc d) (numeral v)
numeral-within d v h = record { most = numeral-most d v h }

-- binary digits are as many as the width
bits-length : (n v : ℕ) → length (bits n v) ≡ n
unfolding bits
bits-length zero v = refl
bits-length (suc n) v = rw (length-append (bits n (v / 2)) (digit (v % 2)), bits-length n (v / 2)) (omega arith)

-- a vector's sort, any sort but an array's, any sort
vector-within : (n : ℕ) → n ≤ 32 → Within 13 (vector_sort n)
unfolding vector_sort
vector-within n h = these (bytes "(_ BitVec ") ▹ numeral-within 1 n (omega arith) ▹ these (bytes ")")

scalar-within : (m n : ℕ) → m ≡ 0 → n ≤ 32 → Within 13 (sort_name m n)
unfolding sort_name
scalar-within zero zero e h = loose 13 (these (bytes "Bool")) (lit≤ tt)
scalar-within zero (suc n) e h = vector-within (suc n) h
scalar-within (suc m) n e h = absurd (omega arith)

sort_within : (m n : ℕ) → m ≤ 32 → n ≤ 32 → Within 35 (sort_name m n)
unfolding sort_name
sort_within zero n l h = loose 35 (scalar-within zero n refl h) (lit≤ tt)
sort_within (suc m) n l h = these (bytes "(Array ") ▹ vector-within (suc m) l ▹ these (bytes " ") ▹ vector-within n h ▹ these (bytes ")")

-- a constant
constant-within : (n v : ℕ) → n ≤ 32 → Within 34 (constant_name n v)
unfolding constant_name
constant-within zero zero h = loose 34 (these (bytes "false")) (lit≤ tt)
constant-within zero (suc v) h = loose 34 (these (bytes "true")) (lit≤ tt)
constant-within (suc n) v h =
    let digits : Within 32 (bits (suc n) v) = record { most = omega (arith, bits-length (suc n) v) } in
    these (bytes "#b") ▹ digits

-- operands whose names have 6 bytes at most
operands-within : (t : List ℕ) → ((k : ℕ) → k < terms t → Within 6 (name_text (name t k))) → (l : List ℕ) → Below (terms t) l
    → Within (7 * length l) (operands_text (map (name t) l))
unfolding operands_text
operands-within t names [] b = these []
operands-within t names (k ∷ l) b = loose (7 * suc (length l)) (these (bytes " ") ▹ names k b.0 ▹ operands-within t names l b.1) (omega arith)

-- an operator's name and its operands, of 7 bytes each: only names of up to 5 bytes have three
operator_within : (x : Term) → known x ≡ true → length (operator_name x.op) + 7 * length (operands (fields x) x) ≤ 26
unfolding passes
operator_within x h =
    let few : x.op ≤ last_op = leb-true x.op last_op h in
    leb-true _ 26 (passed (suc last_op) (λ k. leb (length (operator_name k) + 7 * length (operands (fields_of (rank_of (op_of k))) x)) 26) x.op refl (omega arith))

-- lines of at most c bytes each
each_within : (c : ℕ) (f : ℕ → List Command) (n : ℕ) → ((k : ℕ) → k < n → Within c (commands_text (f k))) → Within (c * n) (commands_text (each f n))
unfolding each commands_text
each_within c f zero h = record { most = omega arith }
each_within c f (suc n) h =
    subst (Within (c * suc n)) (sym (lines_append (each f n) (f n)))
    (loose (c * suc n) (each_within c f n (λ k b. h k (omega arith)) ▹ h n (omega arith)) (omega arith))

-- a line of one command or none
line-within : (n : ℕ) (b : Bool) (c : Command) → (b ≡ false → Within n (command_text c)) → Within n (commands_text (cond b [] (c ∷ [])))
unfolding commands_text
line-within n true c h = record { most = omega arith }
line-within n false c h = loose n (h refl ▹ these []) (omega arith)

-- a definition whose sort and body have 63 bytes at most
define_within : (m n k : ℕ) (sort : Sort) (x : Body) → k < 80000 → Within m (sort_text sort) → Within n (body_text sort.n x) → m + n ≤ 63
    → Within 88 (command_text (define k sort x))
unfolding command_text name_text
define_within m n k sort x h p q few =
    let number = numeral-within 4 k (omega arith) in
    loose 88 (these (bytes "(define-fun ") ▹ (these (bytes "t") ▹ number) ▹ these (bytes " () ") ▹ p ▹ these (bytes " ") ▹ q ▹ these (bytes ")\n")) (omega arith)

module _ (t : List ℕ) (w : WellFormed 80000 t) where
  -- a name: v and a slot, or t and a number
  name-within : (k : ℕ) → k < terms t → Within 6 (name_text (name t k))
  unfolding name name_text
  name-within k h = go (is_variable (term_at t k)) refl
    where
      go : (v : Bool) → is_variable (term_at t k) ≡ v → Within 6 (name_text (cond v (input (term_at t k).p) (defined k)))
      go true v = loose 6 (these (bytes "v") ▹ numeral-within 2 (term_at t k).p (omega (arith, slot-most t k (w.sound k h) v))) (lit≤ tt)
      go false v = these (bytes "t") ▹ numeral-within 4 k (omega (arith, w.few))

  module _ (k : ℕ) (h : k < terms t) where
    abbrev x : Term
    x = term_at t k

    size : Widths x.sort
    size = widths x.sort (w.sound k h).is_sorted

    any_sort : Within 35 (sort_text x.sort)
    any_sort = sort_within x.sort.m x.sort.n size.m_most size.n_most

    -- an operator with its operands
    application_within : Within 28 (body_text x.sort.n (application x.op (map (name t) (operands (fields x) x))))
    unfolding body_text
    application_within =
        let below = placed_below (fields x) k (terms t) x h (w.sound k h).is_placed in
        loose 28 (these (bytes "(") ▹ these (operator_name x.op) ▹ operands-within t name-within (operands (fields x) x) below ▹ these (bytes ")"))
        (omega (arith, operator_within x (w.sound k h).is_known))

    -- a constant is no array
    constant-scalar : is_constant x ≡ true → x.sort.m ≡ 0
    constant-scalar c = eqb-true x.sort.m 0 (typing_as t k (w.sound k h) Constant (ap op_of (constant_number x c)))

    -- a constant has the shorter sort, an operator the shorter body
    definition-within : Within 88 (commands_text (definition t k))
    unfolding definition body body_text
    definition-within = line-within 88 (is_variable x) (define k x.sort (body t x)) (λ v. go (is_constant x) refl)
      where
        go : (c : Bool) → is_constant x ≡ c → Within 88 (command_text (define k x.sort (cond c (constant x.p) (application x.op (map (name t) (operands (fields x) x))))))
        go true c =
            define_within 13 34 k x.sort (constant x.p) (omega (arith, w.few))
            (scalar-within x.sort.m x.sort.n (constant-scalar c) size.n_most) (constant-within x.sort.n x.p size.n_most) (lit≤ tt)
        go false c = define_within 35 28 k x.sort _ (omega (arith, w.few)) any_sort application_within (lit≤ tt)

  -- a declaration
  declaration-within : (s : ℕ) → s < 256 → Within 57 (commands_text (declaration t s))
  unfolding commands_text command_text name_text
  declaration-within s h = go (used_or-not t s)
    where
      go : Used t s ⊎ Unused t s → Within 57 (commands_text (declaration t s))
      go (inr none) = subst (λ (l : List Command). Within 57 (commands_text l)) (sym (undeclared t s none)) (loose 57 (these []) (lit≤ tt))
      go (inl u) =
          let k = first_use t s in
          subst (λ (l : List Command). Within 57 (commands_text l)) (sym (declared t s w k u.inside u.used))
          ((these (bytes "(declare-const ") ▹ (these (bytes "v") ▹ numeral-within 2 s (omega arith)) ▹ these (bytes " ") ▹ any_sort k u.inside ▹ these (bytes ")\n")) ▹ these [])

pub text_bounded : TextBounded
unfolding script script_text
text_bounded t w =
    let slots = each_within 57 (declaration t) 256 (declaration-within t w) in
    let lines = each_within 88 (definition t) (terms t) (definition-within t w) in
    let rule = name-within t w (pred (terms t)) (omega (arith, w.some)) in
    let commands = subst (Within (57 * 256 + 88 * terms t)) (sym (lines_append (each (declaration t) 256) (each (definition t) (terms t)))) (slots ▹ lines) in
    let all = these (bytes "(set-logic QF_ABV)\n") ▹ commands ▹ these (bytes "(assert ") ▹ rule ▹ these (bytes ")\n") ▹ these (bytes "(check-sat)\n") in
    omega (arith, all.most)
