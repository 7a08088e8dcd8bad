-- Scripts give back what they were written from: each printer has a law that tells its argument from its text and what follows.
-- Assumes nothing.
use mathlib.Core.Path.{◌≡◌, refl, sym, ap, ap₂, subst, ◌∙◌}
use mathlib.Core.Bool.{true}
use mathlib.Core.List.{List, [], ◌∷◌, ◌++◌, append_assoc, append_cancel_left}
use Prim.Native.Nat.{ℕ, ◌≤◌}
use native.Mathlib.Omega.{arith}
use borrow.Author.Tests.{le-leb}
use Rattle.smtlib.specs.Bytes.{bytes}
use Rattle.smtlib.specs.Numerals.{numeral}
use Rattle.smtlib.specs.Symbols.{operator_name}
use Rattle.smtlib.specs.Laws.{stops, Named}
use Rattle.smtlib.proofs.Cuts.{head_same, tail_same, cut, regroup}
use Rattle.smtlib.proofs.Told.{number-told, sort_told, constant-told, operator_told, operator_above, no_application}
use Rattle.table.specs.declared.words.Sort.{Sort}
use Rattle.printer.specs.Scripts.{Name, Body, Command, name_text, operands_text, sort_text, body_text, command_text, commands_text, script_text, SoundBody, SoundCommand, SoundCommands, OneReading}
use Rattle.printer.specs.Scripts.Name.{input, defined}
use Rattle.printer.specs.Scripts.Body.{constant, application}
use Rattle.printer.specs.Scripts.Command.{declare, define}

-- Names, where a word ends: v and t differ, then the number is told
pub name-told : (x y : Name) {r s : List ℕ} → stops 47 r ≡ true → stops 47 s ≡ true → name_text x ++ r ≡ name_text y ++ s → (x ≡ y) × (r ≡ s)
unfolding name_text
name-told (input a) (input b) h k e = let (i, f) = number-told a b h k (tail_same e) in (ap input i, f)
name-told (input a) (defined b) h k e = absurd (omega (arith, head_same e))
name-told (defined a) (input b) h k e = absurd (omega (arith, head_same e))
name-told (defined a) (defined b) h k e = let (i, f) = number-told a b h k (tail_same e) in (ap defined i, f)

-- Operands, with the parenthesis that ends them, begin with a space or with it
operands_stop : (c : ℕ) (xs : List Name) (r : List ℕ) → 41 ≤ c → stops c (operands_text xs ++ (41 ∷ r)) ≡ true
unfolding operands_text stops
operands_stop c [] r h = le-leb 41 c h
operands_stop c (x ∷ xs) r h = le-leb 32 c (omega arith)

-- So a list of them is read to that parenthesis
operands-told : (xs ys : List Name) (r s : List ℕ) → operands_text xs ++ (41 ∷ r) ≡ operands_text ys ++ (41 ∷ s) → (xs ≡ ys) × (r ≡ s)
unfolding operands_text
operands-told [] [] r s e = (refl, tail_same e)
operands-told [] (y ∷ ys) r s e = absurd (omega (arith, head_same e))
operands-told (x ∷ xs) [] r s e = absurd (omega (arith, head_same e))
operands-told (x ∷ xs) (y ∷ ys) r s e =
    let (i, f) = name-told x y (operands_stop 47 xs r (omega arith)) (operands_stop 47 ys s (omega arith)) (regroup (name_text x) (operands_text xs) (41 ∷ r) (name_text y) (operands_text ys) (41 ∷ s) (tail_same e)) in
    let (is, g) = operands-told xs ys r s f in
    (ap₂ ◌∷◌ i is, g)

-- An application, after its parenthesis: the operator to the first space, then its operands
application_told : (a b : ℕ) (xs ys : List Name) (r s : List ℕ) → Named a → Named b
    → (operator_name a ++ (operands_text xs ++ (41 ∷ []))) ++ r ≡ (operator_name b ++ (operands_text ys ++ (41 ∷ []))) ++ s → (application a xs ≡ application b ys) × (r ≡ s)
application_told a b xs ys r s (low, high) (low', high') e =
    let after : List Name → List ℕ → List ℕ = λ zs z. operands_text zs ++ (41 ∷ z) in
    let whole : operator_name a ++ after xs r ≡ operator_name b ++ after ys s =
    sym (spread (operator_name a) (operands_text xs) r) ∙ e ∙ spread (operator_name b) (operands_text ys) s in
    let (i, f) = cut 41 (operator_name a) (operator_name b) (operator_above a low (omega arith)) (operator_above b low' (omega arith)) (operands_stop 41 xs r (omega arith)) (operands_stop 41 ys s (omega arith)) whole in
    let (is, g) = operands-told xs ys r s f in
    (ap₂ application (operator_told a b low (omega arith) low' (omega arith) i) is, g)
  where
    spread : (x y z : List ℕ) → (x ++ (y ++ (41 ∷ []))) ++ z ≡ x ++ (y ++ (41 ∷ z))
    spread x y z = append_assoc x (y ++ (41 ∷ [])) z ∙ ap (λ (l : List ℕ). x ++ l) (append_assoc y (41 ∷ []) z)

-- Bodies of one width, where a word ends
pub body-told : (n : ℕ) (a b : Body) (r s : List ℕ) → SoundBody n a → SoundBody n b → stops 47 r ≡ true → stops 47 s ≡ true → body_text n a ++ r ≡ body_text n b ++ s → (a ≡ b) × (r ≡ s)
unfolding body_text
body-told n (constant v) (constant w) r s p q h k e = let (i, f) = constant-told n v w r s p q h k e in (ap constant i, f)
body-told n (constant v) (application b ys) r s p q h k e = absurd (no_application n v r _ e)
body-told n (application a xs) (constant w) r s p q h k e = absurd (no_application n w s _ (sym e))
body-told n (application a xs) (application b ys) r s p q h k e = application_told a b xs ys r s p q (tail_same e)

-- A sort is its widths
sort_is : (x y : Sort) → x.m ≡ y.m → x.n ≡ y.n → x ≡ y
sort_is x y e f = ap₂ (λ (m n : ℕ). record { m = m; n = n }) e f

-- A declaration, whatever follows
declare_told : (a b : ℕ) (x y : Sort) (r s : List ℕ) → command_text (declare a x) ++ r ≡ command_text (declare b y) ++ s → (declare a x ≡ declare b y) × (r ≡ s)
unfolding command_text name_text stops
declare_told a b x y r s e =
    let end : List ℕ = 41 ∷ 10 ∷ [] in
    let sorted : Sort → List ℕ = λ z. sort_text z ++ end in
    let (i, f) = number-told a b refl refl (regroup (numeral a) (32 ∷ sorted x) r (numeral b) (32 ∷ sorted y) s (append_cancel_left (bytes "(declare-const v") _ _ e)) in
    let (m, n, g) = sort_told x.m x.n y.m y.n _ _ (regroup (sort_text x) end r (sort_text y) end s (tail_same f)) in
    (ap₂ declare i (sort_is x y m n), tail_same (tail_same g))

-- A definition, whatever follows
define_told : (a b : ℕ) (x y : Sort) (c d : Body) (r s : List ℕ) → SoundBody x.n c → SoundBody y.n d
    → command_text (define a x c) ++ r ≡ command_text (define b y d) ++ s → (define a x c ≡ define b y d) × (r ≡ s)
unfolding command_text name_text stops
define_told a b x y c d r s p q e =
    let end : List ℕ = 41 ∷ 10 ∷ [] in
    let bodied : Sort → Body → List ℕ = λ z o. 32 ∷ (body_text z.n o ++ end) in
    let sorted : Sort → Body → List ℕ = λ z o. bytes " () " ++ (sort_text z ++ bodied z o) in
    let (i, f) = number-told a b refl refl (regroup (numeral a) (sorted x c) r (numeral b) (sorted y d) s (append_cancel_left (bytes "(define-fun t") _ _ e)) in
    let (m, n, g) = sort_told x.m x.n y.m y.n _ _ (regroup (sort_text x) (bodied x c) r (sort_text y) (bodied y d) s (append_cancel_left (bytes " () ") _ _ f)) in
    let same : (body_text x.n c ++ end) ++ r ≡ (body_text x.n d ++ end) ++ s = tail_same g ∙ ap (λ (w : ℕ). (body_text w d ++ end) ++ s) (sym n) in
    let (j, h) = body-told x.n c d _ _ p (subst (λ (w : ℕ). SoundBody w d) (sym n) q) refl refl (regroup (body_text x.n c) end r (body_text x.n d) end s same) in
    (ap (λ (k : ℕ). define k x c) i ∙ ap₂ (define b) (sort_is x y m n) j, tail_same (tail_same h))

-- Commands, whatever follows: their names differ in the fourth byte
pub command_told : (a b : Command) (r s : List ℕ) → SoundCommand a → SoundCommand b → command_text a ++ r ≡ command_text b ++ s → (a ≡ b) × (r ≡ s)
unfolding command_text
command_told (declare a x) (declare b y) r s p q e = declare_told a b x y r s e
command_told (declare a x) (define b y d) r s p q e = absurd (omega (arith, head_same (tail_same (tail_same (tail_same e)))))
command_told (define a x c) (declare b y) r s p q e = absurd (omega (arith, head_same (tail_same (tail_same (tail_same e)))))
command_told (define a x c) (define b y d) r s p q e = define_told a b x y c d r s p q e

-- No command begins as the assertion does
no_command : (c : Command) (r s : List ℕ) → command_text c ++ r ≡ bytes "(a" ++ s → ⊥
unfolding command_text
no_command (declare a x) r s e = absurd (omega (arith, head_same (tail_same e)))
no_command (define a x c) r s e = absurd (omega (arith, head_same (tail_same e)))

-- Commands one after the other, before what begins as the assertion does
pub commands-told : (cs ds : List Command) (r s : List ℕ) → SoundCommands cs → SoundCommands ds → commands_text cs ++ (bytes "(a" ++ r) ≡ commands_text ds ++ (bytes "(a" ++ s) → (cs ≡ ds) × (r ≡ s)
unfolding commands_text SoundCommands
commands-told [] [] r s p q e = (refl, append_cancel_left (bytes "(a") r s e)
commands-told [] (b ∷ ds) r s p q e = absurd (no_command b _ r (sym (append_assoc (command_text b) (commands_text ds) (bytes "(a" ++ s)) ∙ sym e))
commands-told (a ∷ cs) [] r s p q e = absurd (no_command a _ s (sym (append_assoc (command_text a) (commands_text cs) (bytes "(a" ++ r)) ∙ e))
commands-told (a ∷ cs) (b ∷ ds) r s (p, ps) (q, qs) e =
    let (i, f) = command_told a b _ _ p q (regroup (command_text a) (commands_text cs) (bytes "(a" ++ r) (command_text b) (commands_text ds) (bytes "(a" ++ s) e) in
    let (is, g) = commands-told cs ds r s ps qs f in
    (ap₂ ◌∷◌ i is, g)

-- A text is read in one way.
pub one_reading : OneReading
unfolding script_text stops
one_reading a b p q e =
    let (i, f) = commands-told a.commands b.commands _ _ p q (append_cancel_left (bytes "(set-logic QF_ABV)\n") _ _ e) in
    let (j, g) = name-told a.asserted b.asserted refl refl (append_cancel_left (bytes "ssert ") _ _ f) in
    ap₂ (λ (cs : List Command) (x : Name). record { commands = cs; asserted = x }) i j
