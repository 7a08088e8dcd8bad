-- The parts of the text, case by case, as they are written.
-- Assumes nothing.
use mathlib.Core.Path.{◌≡◌, refl, sym, ap, ap₂, ◌∙◌}
use mathlib.Core.Bool.{Bool, cond}
use mathlib.Core.List.{List, [], ◌∷◌, ◌++◌, map, append-nil, append_assoc}
use Prim.Native.Nat.{ℕ, zero, suc, pred, ◌-◌, ◌<◌}
use native.Mathlib.Omega.{arith}
use lib.Dec.{eqb}
use Rattle.smtlib.specs.Bytes.{bytes, each}
use Rattle.table.specs.declared.ranks.Fields.{Fields}
use Rattle.table.specs.declared.words.Term.{Term}
use Rattle.table.specs.Terms.{terms, term_at, sort_at}
use Rattle.table.specs.Faults.{fields, is_variable, is_constant}
use Rattle.printer.specs.Scripts.{Name, Command, name_text, operands_text, command_text, commands_text, script_text}
use Rattle.printer.specs.Scripts.Name.{input, defined}
use Rattle.printer.specs.Scripts.Body.{constant, application}
use Rattle.printer.specs.Scripts.Command.{declare, define}
use Rattle.printer.specs.Printed.{name, operands, body, first_use, declaration, definition, script, text}

-- Names: of a variable, of another term

pub name_is : (t : List ℕ) (k : ℕ) (x : Term) → x ≡ term_at t k → (b : Bool) → is_variable x ≡ b → cond b (input x.p) (defined k) ≡ name t k
unfolding name
name_is t k x here b e =
    ap (λ (v : Bool). cond v (input x.p) (defined k)) (sym e) ∙ ap (λ (y : Term). cond (is_variable y) (input y.p) (defined k)) here

-- Operands: one; one before others; those of a term by its fields

pub one_operand : (x : Name) → bytes " " ++ name_text x ≡ operands_text (x ∷ [])
unfolding operands_text
one_operand x = ap (λ (r : List ℕ). bytes " " ++ r) (sym (append-nil (name_text x)))

pub more-operands : (x : Name) (xs : List Name) → operands_text (x ∷ []) ++ operands_text xs ≡ operands_text (x ∷ xs)
unfolding operands_text
more-operands x xs = ap (λ (r : List ℕ). (bytes " " ++ r) ++ operands_text xs) (append-nil (name_text x))

pub three_operands : (x y z : Name) → operands_text (x ∷ []) ++ (operands_text (y ∷ []) ++ operands_text (z ∷ [])) ≡ operands_text (x ∷ y ∷ z ∷ [])
three_operands x y z = ap (λ (r : List ℕ). operands_text (x ∷ []) ++ r) (more-operands y (z ∷ [])) ∙ more-operands x (y ∷ z ∷ [])

pub by_fields_lem : (t : List ℕ) (x : Term) (f : Fields) → fields x ≡ f
    → operands_text (map (name t) (operands f x)) ≡ operands_text (map (name t) (operands (fields x) x))
by_fields_lem t x f e = ap (λ (g : Fields). operands_text (map (name t) (operands g x))) (sym e)

-- Bodies: of a constant, of another term

pub body_is : (t : List ℕ) (x : Term) (b : Bool) → is_constant x ≡ b → cond b (constant x.p) (application x.op (map (name t) (operands (fields x) x))) ≡ body t x
unfolding body
body_is t x b e = ap (λ (v : Bool). cond v (constant x.p) (application x.op (map (name t) (operands (fields x) x)))) (sym e)

-- Lines: one or none

pub one_line : (c : Command) → command_text c ≡ commands_text (c ∷ [])
unfolding commands_text
one_line c = sym (append-nil (command_text c))

pub no_line : [] ≡ commands_text []
unfolding commands_text
no_line = refl

pub definition_is : (t : List ℕ) (k : ℕ) (x : Term) → x ≡ term_at t k → (b : Bool) → is_variable x ≡ b
    → cond b [] (define k x.sort (body t x) ∷ []) ≡ definition t k
unfolding definition
definition_is t k x here b e =
    ap (λ (v : Bool). cond v [] (define k x.sort (body t x) ∷ [])) (sym e)
    ∙ ap (λ (y : Term). cond (is_variable y) [] (define k y.sort (body t y) ∷ [])) here

pub declaration_is : (t : List ℕ) (s n k : ℕ) → n ≡ terms t → k ≡ first_use t s → (b : Bool) → eqb k n ≡ b
    → cond b [] (declare s (sort_at t k) ∷ []) ≡ declaration t s
unfolding declaration
declaration_is t s n k e f b g =
    ap (λ (v : Bool). cond v [] (declare s (sort_at t k) ∷ [])) (sym g)
    ∙ ap₂ (λ (i j : ℕ). cond (eqb i j) [] (declare s (sort_at t i) ∷ [])) f e

-- The whole

pub lines_append : (xs ys : List Command) → commands_text (xs ++ ys) ≡ commands_text xs ++ commands_text ys
unfolding commands_text
lines_append [] ys = refl
lines_append (c ∷ xs) ys = ap (λ (r : List ℕ). command_text c ++ r) (lines_append xs ys) ∙ sym (append_assoc (command_text c) (commands_text xs) (commands_text ys))

pub lines_each : (f : ℕ → List Command) (n : ℕ) → each (λ k. commands_text (f k)) n ≡ commands_text (each f n)
unfolding each
lines_each f zero = no_line
lines_each f (suc n) = ap (λ (r : List ℕ). r ++ commands_text (f n)) (lines_each f n) ∙ sym (lines_append (each f n) (f n))

pub text_is : (t : List ℕ) (n : ℕ) → n ≡ terms t → 0 < n
    → bytes "(set-logic QF_ABV)\n"
    ++ (each (λ s. commands_text (declaration t s)) 256
    ++ (each (λ k. commands_text (definition t k)) n
    ++ (bytes "(assert " ++ (name_text (name t (n - 1)) ++ bytes ")\n(check-sat)\n"))))
    ≡ text t
unfolding script_text script
text_is t n e h =
    let declared = each (declaration t) 256 in
    let rest : List ℕ = bytes "(assert " ++ (name_text (name t (pred (terms t))) ++ bytes ")\n(check-sat)\n") in
    let last : n - 1 ≡ pred (terms t) = omega (arith, e) in
    let join : commands_text declared ++ (commands_text (each (definition t) (terms t)) ++ rest) ≡ commands_text (declared ++ each (definition t) (terms t)) ++ rest =
    sym (append_assoc (commands_text declared) (commands_text (each (definition t) (terms t))) rest) ∙ ap (λ (r : List ℕ). r ++ rest) (sym (lines_append declared (each (definition t) (terms t)))) in
    ap (λ (j : ℕ). bytes "(set-logic QF_ABV)\n" ++ (each (λ s. commands_text (declaration t s)) 256 ++ (each (λ k. commands_text (definition t k)) n ++ (bytes "(assert " ++ (name_text (name t j) ++ bytes ")\n(check-sat)\n"))))) last
    ∙ ap₂ (λ (x y : List ℕ). bytes "(set-logic QF_ABV)\n" ++ (x ++ (y ++ rest))) (lines_each (declaration t) 256) (lines_each (definition t) n ∙ ap (λ (j : ℕ). commands_text (each (definition t) j)) e)
    ∙ ap (λ (r : List ℕ). bytes "(set-logic QF_ABV)\n" ++ r) join
