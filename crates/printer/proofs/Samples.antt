-- Texts of small tables; tables that meet the premises of the theorems on text; the longest lines. All by computation.
-- Assumes nothing.
use mathlib.Core.Path.{◌≡◌, refl, sym, ap, ◌∙◌}
use mathlib.Core.Bool.{true, false}
use mathlib.Core.List.{List, [], ◌∷◌}
use Prim.Native.Nat.{ℕ, zero, suc, ◌<◌}
use native.Mathlib.Omega.{arith}
use lib.Dec.{lit≤}
use lib.ListN.{length}
use Rattle.ops.proofs.Booleans.{never}
use Rattle.smtlib.specs.Bytes.{◌⧺◌, bytes, each}
use Rattle.smtlib.specs.Numerals.{numeral_within, bits}
use Rattle.smtlib.specs.Symbols.{vector_sort, sort_name, constant_name}
use Rattle.table.specs.declared.words.Sort.{Sort}
use Rattle.table.specs.Bench.{term, rule_g}
use Rattle.table.specs.Folds.{any_below, first_from}
use Rattle.table.specs.Terms.{terms, term_at}
use Rattle.table.specs.Faults.{is_variable, typed, clash, size_within, fault_if, fault}
use Rattle.table.specs.Admission.{scan, admission_within}
use Rattle.table.proofs.Admitted.{admission-sound}
use Rattle.printer.specs.Scripts.{name_text, operands_text, body_text, command_text, commands_text, script_text}
use Rattle.printer.specs.Scripts.Name.{defined}
use Rattle.printer.specs.Scripts.Body.{application}
use Rattle.printer.specs.Scripts.Command.{declare, define}
use Rattle.printer.specs.Printed.{name, body, uses, first_use, declaration, definition, script, text}
use Rattle.printer.specs.Sharing.{moved, Reordered, without_mark, SameButMarks}
use Rattle.printer.proofs.Uses.{use_parts}
use Rattle.printer.proofs.Sharing.{Premises}
use Rattle.table.specs.Answers.{accepted}

-- one term, 72 bytes
one_term : (text (term 0 0 0 1 0 0 []) ≡ bytes "(set-logic QF_ABV)\n(define-fun t0 () Bool true)\n(assert t0)\n(check-sat)\n") × (length (text (term 0 0 0 1 0 0 [])) ≡ 72)
unfolding script_text script each first_from first_use declaration definition name body name_text body_text command_text commands_text sort_name constant_name numeral_within
one_term = (refl, refl)

-- rule G
rule_g_lem : text rule_g
    ≡ bytes "(set-logic QF_ABV)\n"
    ⧺ bytes "(declare-const v0 (_ BitVec 8))\n"
    ⧺ bytes "(declare-const v1 (_ BitVec 8))\n"
    ⧺ bytes "(declare-const v2 (_ BitVec 8))\n"
    ⧺ bytes "(define-fun t3 () (_ BitVec 8) (bvmul v0 v1))\n"
    ⧺ bytes "(define-fun t4 () (_ BitVec 8) (bvadd t3 v2))\n"
    ⧺ bytes "(define-fun t5 () (_ BitVec 8) #b00000000)\n"
    ⧺ bytes "(define-fun t6 () Bool (bvult t5 t4))\n"
    ⧺ bytes "(assert t6)\n"
    ⧺ bytes "(check-sat)\n"
unfolding script_text script each first_from first_use declaration definition name body name_text operands_text body_text command_text commands_text vector_sort sort_name constant_name bits numeral_within
rule_g_lem = refl

-- The longest lines have the bytes that the bound counts

widest : Sort
widest = record { m = 32; n = 32 }

longest_declaration : length (command_text (declare 255 widest)) ≡ 57
unfolding widest command_text name_text vector_sort sort_name numeral_within
longest_declaration = refl

longest_definition : length (command_text (define 79999 widest (application 16 (defined 79998 ∷ defined 79997 ∷ defined 79996 ∷ [])))) ≡ 88
unfolding widest command_text body_text operands_text name_text vector_sort sort_name numeral_within
longest_definition = refl

-- Two tables that share text: v0 below v1, their variables in either order

abbrev in_order : List ℕ
in_order = term 1 0 8 0 0 0 (term 1 0 8 1 0 0 (term 14 0 0 0 1 0 []))

abbrev exchanged : List ℕ
exchanged = term 1 0 8 1 0 0 (term 1 0 8 0 0 0 (term 14 0 0 1 0 0 []))

shared : text in_order ≡ text exchanged
unfolding script_text script each first_from first_use declaration definition name body
shared = refl

-- what holds of 0, 1 and 2
below_three : (P : ℕ → Type 0) → P 0 → P 1 → P 2 → (k : ℕ) → k < 3 → P k
below_three P p q r zero h = p
below_three P p q r (suc zero) h = q
below_three P p q r (suc (suc zero)) h = r
below_three P p q r (suc (suc (suc k))) h = absurd (omega arith)

swap : ℕ → ℕ
swap zero = 1
swap (suc zero) = 0
swap (suc (suc k)) = suc (suc k)

reordered : Reordered in_order exchanged
unfolding swap
reordered =
    record {
      to = swap;
      back = swap;
      count = refl;
      within = below_three (λ k. swap k < 3) (lit≤ tt) (lit≤ tt) (lit≤ tt);
      back_within = below_three (λ k. swap k < 3) (lit≤ tt) (lit≤ tt) (lit≤ tt);
      back_to = below_three (λ k. swap (swap k) ≡ k) refl refl refl;
      to_back = below_three (λ k. swap (swap k) ≡ k) refl refl refl;
      fixed = below_three (λ k. is_variable (term_at in_order k) ≡ false → swap k ≡ k) (λ v. never (sym v)) (λ v. never (sym v)) (λ v. refl);
      follows = below_three (λ k. term_at exchanged (swap k) ≡ moved swap (term_at in_order k)) refl refl refl;
      last = λ v. refl;
    }

-- They meet the premises of the theorem

-- a variable is unmarked and the first of its slot
Sole : List ℕ → ℕ → Type 0
Sole t k = is_variable (term_at t k) ≡ true → ((term_at t k).q ≡ 0) × (first_use t (term_at t k).p ≡ k)

-- an admitted table of such variables
met : (t : List ℕ) → admission_within 80000 t ≡ accepted → ((k : ℕ) → k < terms t → Sole t k) → Premises t
unfolding Sole
met t admitted sole = record { whole = admission-sound 80000 t admitted; unmarked = λ k h v. (sole k h v).0; once = λ s j k h l u w. sym (first s j h u) ∙ first s k l w }
  where
    first : (s k : ℕ) → k < terms t → uses (term_at t k) s ≡ true → first_use t s ≡ k
    first s k h u =
        let (v, p) = use_parts (term_at t k) s u in
        ap (first_use t) (sym p) ∙ (sole k h v).1

in_order_met : Premises in_order
unfolding Sole first_use first_from admission_within scan fault fault_if typed clash any_below size_within
in_order_met = met in_order refl (below_three (Sole in_order) (λ v. (refl, refl)) (λ v. (refl, refl)) (λ v. never v))

exchanged_met : Premises exchanged
unfolding Sole first_use first_from admission_within scan fault fault_if typed clash any_below size_within
exchanged_met = met exchanged refl (below_three (Sole exchanged) (λ v. (refl, refl)) (λ v. (refl, refl)) (λ v. never v))

-- Two tables that differ in a mark

abbrev unmarked : List ℕ
unmarked = term 1 0 0 7 0 0 []

abbrev marked : List ℕ
marked = term 1 0 0 7 1 0 []

same_but_marks : SameButMarks unmarked marked
same_but_marks = record { count = refl; each_term = go }
  where
    go : (k : ℕ) → k < 1 → without_mark (term_at unmarked k) ≡ without_mark (term_at marked k)
    go zero h = refl
    go (suc k) h = absurd (omega arith)
