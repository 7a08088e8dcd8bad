-- The rule's value is the conjunction of the asserts'.
-- Assumes nothing.
use mathlib.Core.Path.{◌≡◌, refl, sym, ap, subst, ◌∙◌}
use mathlib.Core.Bool.{Bool, true, false, cond, ◌&&◌, and-true, and_assoc}
use mathlib.Core.List.{List, [], ◌∷◌, ◌++◌, append_assoc}
use Prim.Native.Nat.{ℕ, zero, suc, pred, ◌+◌, ◌^◌, ◌≤◌, ◌<◌}
use native.Mathlib.Omega.{arith}
use lib.Dec.{eqb, ltb, leb}
use lib.ListN.{length, length-append}
use borrow.Author.Tests.{eq-eqb, eqb-true, leb-true, ltb-true}
use Rattle.ops.specs.Meaning as Ops
use Rattle.ops.specs.Meaning.{bit, holds}
use Rattle.ops.specs.Fits.{fits}
use Rattle.smtlib.proofs.Cuts.{and_left, and_right}
use Rattle.table.specs.declared.words.Sort.{Sort}
use Rattle.table.specs.declared.words.Term.{Term}
use Rattle.table.specs.Terms.{terms, term_at, sort_at, boolean}
use Rattle.table.specs.WellFormed.{WellFormed}
use Rattle.table.proofs.Admitted.{admission-sound}
use Rattle.table.proofs.OperandSorts.{boolean-scalar}
use Rattle.setting.specs.Interpretation.{Value, Interpretation, FitInputs}
use Rattle.evaluate.specs.Values.{value_by, value_at}
use Rattle.evaluate.proofs.Folds.{value-below}
use Rattle.evaluate.proofs.Fitting.{values_fit}
use Rattle.parser.specs.Rules.{and_term}
use Rattle.parser.specs.Parsing.{built}
use Rattle.parser.specs.Grammar.{Tree, Declared, Rule}
use Rattle.parser.specs.Grammar.Tree.{literal, symbol, apply}
use Rattle.parser.specs.Trees.{names_of, every_tree, knows, counted, size, slot, root, sort_in, tree_terms, variables, joins, asserted, rule_terms}
use Rattle.parser.specs.Laws.{numbers_of}
use Rattle.parser.proofs.Written.{tree_length}
use Rattle.parser.proofs.Complete.{variables-length}
use Rattle.parser.proofs.Unique.{one_reading}
use Rattle.meanings.specs.Meaning.{tree_value, tree_holds, rule_holds, RuleMeansAsserts}
use Rattle.meanings.proofs.Layouts.{terms_are, Has, has_all, has_left, has_right, has_first}
use Rattle.meanings.proofs.Conditions.{met_parts}
use Rattle.meanings.proofs.Parsed.{built_is, parsed_just}
use Rattle.meanings.proofs.Operators.{named, asserts_named}
use Rattle.meanings.proofs.Values.{Means, term-value, tree_means}

-- Truths

pub bit-holds : (b : Bool) → holds (bit b) ≡ b
bit-holds true = refl
bit-holds false = refl

holds-bit : (v : ℕ) → v ≤ 1 → v ≡ bit (holds v)
holds-bit zero h = refl
holds-bit (suc zero) h = refl
holds-bit (suc (suc v)) h = absurd (omega arith)

and_again : (b : Bool) → b && b ≡ b && true
and_again true = refl
and_again false = refl

-- What is known of every assert's tree

module _ (ds : List Declared) where
  abbrev Good : Tree → Type 0
  Good t = (knows (names_of ds) t ≡ true) × (counted t ≡ true) × (named t ≡ true)

  unfoldable AllGood : List Tree → Type 0
  AllGood [] = Unit {0}
  AllGood (t ∷ ts) = Good t × AllGood ts

  all_good : (ts : List Tree) → every_tree (knows (names_of ds)) ts ≡ true → every_tree counted ts ≡ true → every_tree named ts ≡ true → AllGood ts
  unfolding every_tree AllGood
  all_good [] kn co na = tt
  all_good (t ∷ ts) kn co na =
      let k = knows (names_of ds) in (
        (and_left (k t) (every_tree k ts) kn, and_left (counted t) (every_tree counted ts) co, and_left (named t) (every_tree named ts) na),
        all_good ts (and_right (k t) (every_tree k ts) kn) (and_right (counted t) (every_tree counted ts) co)
            (and_right (named t) (every_tree named ts) na),
      )

-- Asserts, in a table that has the variables in front

module _ (ds : List Declared) (I : Interpretation) (w : List ℕ) (front : Has w 0 (variables ds 0 ds)) where
  value : ℕ → ℕ
  value k = (value_at w I k).num

  means : (t : Tree) (before : ℕ) → length ds ≤ before → Has w before (tree_terms ds before t) → Good ds t
      → Means ds I w front (before + size t) (root ds before t) (sort_in ds t) (tree_value ds I t)
  means t before enough has good = tree_means ds I w front t before enough has good.0 good.1 good.2

  and-value : (k p q : ℕ) → term_at w k ≡ and_term p q → p < k → q < k → value k ≡ bit (holds (value p) && holds (value q))
  unfolding value value_by Ops.apply
  and-value k p q e a b =
      ap (λ (v : Value). v.num) (term-value ds I w front k (and_term p q) e) ∙
      (λ i. bit (holds (value-below w I k p a i).num && holds (value-below w I k q b i).num))

  -- one assert is joined to the rule so far
  joined : (t : Tree) (before rule : ℕ) (rest : List Term) (b : Bool) → length ds ≤ before → rule < before → holds (value rule) ≡ b
      → Has w before (tree_terms ds before t ++ (and_term rule (root ds before t) ∷ rest)) → Good ds t
      → value (before + size t) ≡ bit (b && tree_holds ds I t)
  unfolding value
  joined t before rule rest b enough h e has good =
      let y = and_term rule (root ds before t) in
      let m = means t before enough (has_left (tree_terms ds before t) (y ∷ rest) has) good in
      let here = has_first y rest
      (has_right (tree_terms ds before t) (y ∷ rest) (before + size t) has (ap (λ (n : ℕ). before + n) (tree_length ds before t))) in
      and-value (before + size t) rule (root ds before t) here (omega arith) m.below ∙ (λ i. bit (e i && holds (m.value i).num))

  joins-value : (ts : List Tree) (before rule : ℕ) (b : Bool) → 0 < length ts → length ds ≤ before → rule < before → holds (value rule) ≡ b
      → Has w before (joins ds before rule ts) → AllGood ds ts
      → (last : ℕ) → suc last ≡ before + length (joins ds before rule ts) → value last ≡ bit (b && every_tree (tree_holds ds I) ts)
  unfolding joins every_tree AllGood
  joins-value [] before rule b some enough h e has good last is = absurd (omega arith)
  joins-value (t ∷ []) before rule b some enough h e has good last is =
      let y = and_term rule (root ds before t) in
      let at : last ≡ before + size t = omega (arith, length-append (tree_terms ds before t) (y ∷ []), tree_length ds before t) in
      ap value at ∙ joined t before rule [] b enough h e has good.0 ∙ ap (λ (c : Bool). bit (b && c)) (sym (and-true (tree_holds ds I t)))
  joins-value (t ∷ u ∷ us) before rule b some enough h e has good last is =
      let k = before + size t in
      let y = and_term rule (root ds before t) in
      let rest = joins ds (suc k) k (u ∷ us) in
      let one = joined t before rule rest b enough h e has good.0 in
      let has_rest = has_right (tree_terms ds before t ++ (y ∷ [])) rest (suc k)
      (subst (Has w before) (sym (append_assoc (tree_terms ds before t) (y ∷ []) rest)) has)
      (omega (arith, length-append (tree_terms ds before t) (y ∷ []), tree_length ds before t)) in
      joins-value (u ∷ us) (suc k) k (b && tree_holds ds I t) (omega arith) (omega arith) (omega arith)
      (ap holds one ∙ bit-holds (b && tree_holds ds I t)) has_rest good.1 last
      (is ∙ omega (arith, length-append (tree_terms ds before t) (y ∷ rest), tree_length ds before t))
      ∙ ap bit (and_assoc b (tree_holds ds I t) (every_tree (tree_holds ds I) (u ∷ us)))

  -- a sole assert: itself
  sole : (t : Tree) (last : ℕ) → Has w (length ds) (tree_terms ds (length ds) t) → Good ds t → root ds (length ds) t ≡ last → value last ≤ 1
      → value last ≡ bit (tree_holds ds I t && true)
  unfolding value
  sole t last has good at h =
      let m = means t (length ds) (omega arith) has good in
      let same : value last ≡ (tree_value ds I t).num = ap value (sym at) ∙ ap (λ (v : Value). v.num) m.value in
      holds-bit (value last) h ∙ ap (λ (v : ℕ). bit (holds v)) same ∙ ap bit (sym (and-true (tree_holds ds I t)))

  -- a name is joined with itself
  bare : (x : List ℕ) → Has w (length ds) (and_term (slot ds x) (slot ds x) ∷ []) → Good ds (symbol x)
      → value (length ds) ≡ bit (tree_holds ds I (symbol x) && true)
  unfolding value tree_terms root size
  bare x has good =
      let m = means (symbol x) (length ds) (omega arith) (record { at = λ i h. absurd (omega arith) }) good in
      and-value (length ds) (slot ds x) (slot ds x) (has_first (and_term (slot ds x) (slot ds x)) [] has) (omega (arith, m.below))
      (omega (arith, m.below))
      ∙ ap bit (and_again (holds (value (slot ds x)))) ∙ ap (λ (v : Value). bit (holds v.num && true)) m.value

  asserted-value : (ts : List Tree) → 0 < length ts → Has w (length ds) (asserted ds (length ds) ts) → AllGood ds ts → (last : ℕ)
      → suc last ≡ length ds + length (asserted ds (length ds) ts)
      → value last ≤ 1 → value last ≡ bit (every_tree (tree_holds ds I) ts)
  unfolding value every_tree AllGood tree_terms size root
  asserted-value [] some has good last is h = absurd (omega arith)
  asserted-value (literal n v ∷ []) some has good last is h = sole (literal n v) last has good.0 (omega arith) h
  asserted-value (symbol x ∷ []) some has good last is h = let at : last ≡ length ds = omega arith in ap value at ∙ bare x has good.0
  asserted-value (apply op ts ∷ []) some has good last is h =
      sole (apply op ts) last has good.0 (omega (arith, tree_length ds (length ds) (apply op ts))) h
  asserted-value (t ∷ u ∷ us) some has good last is h =
      let ys = tree_terms ds (length ds) t in
      let k = length ds + size t in
      let rest = joins ds k (root ds (length ds) t) (u ∷ us) in
      let m = means t (length ds) (omega arith) (has_left ys rest has) good.0 in
      joins-value (u ∷ us) k (root ds (length ds) t) (tree_holds ds I t) (omega arith) (omega arith) m.below
      (ap (λ (v : Value). holds v.num) m.value)
      (has_right ys rest k has (ap (λ (n : ℕ). length ds + n) (tree_length ds (length ds) t))) good.1 last
      (is ∙ omega (arith, length-append ys rest, tree_length ds (length ds) t))

-- The whole table

truth_most : (s : Sort) (v : ℕ) → boolean s ≡ true → fits s.n v ≡ true → v ≤ 1
truth_most s v b f =
    let n : s.n ≡ 0 = eqb-true s.n 0 (and_right (eqb s.m 0) (eqb s.n 0) b) in
    leb-true v 1 (sym (ap (λ (t : Bool). cond t (leb v 1) (ltb v (2 ^ s.n))) (eq-eqb s.n 0 n)) ∙ f)

rule_value : (r : Rule) → 0 < length r.asserts → AllGood r.declarations r.asserts → WellFormed 512 (numbers_of (rule_terms r))
    → (I : Interpretation) → FitInputs (numbers_of (rule_terms r)) I
    → (value_at (numbers_of (rule_terms r)) I (pred (terms (numbers_of (rule_terms r))))).num ≡ bit (rule_holds r I)
unfolding value
rule_value r some good f I fit =
    let ds = r.declarations in
    let w = numbers_of (rule_terms r) in
    let vs = variables ds 0 ds in
    let xs = asserted ds (length ds) r.asserts in
    let has = has_all (rule_terms r) in
    let last = pred (terms w) in
    let many : 0 < terms w = f.some in
    let inside : last < terms w = omega arith in
    let b = f.rule in
    let ends : suc last ≡ length ds + length xs = omega (arith, terms_are (rule_terms r), length-append vs xs, variables-length ds 0 ds) in
    asserted-value ds I w (has_left vs xs has) r.asserts some
    (has_right vs xs (length ds) has (omega (arith, variables-length ds 0 ds))) good last ends
    (truth_most (sort_at w last) (value_at w I last).num b ((values_fit 512 w I f fit last inside).num (boolean-scalar (sort_at w last) b)))

pub rule_means_asserts : RuleMeansAsserts
rule_means_asserts text small room n e r d I fit =
    let t = (parsed_just text small room n).sound e in
    let q = t.rule in
    let w = numbers_of (rule_terms q) in
    let ds = q.declarations in
    let ts = q.asserts in
    let f = admission-sound 512 w t.admitted in
    let is : built text ≡ w = built_is text q small t.reads t.met room n e in
    let m = met_parts q t.met in
    let good = all_good ds ts m.known m.full (asserts_named t.reads.asserts) in
    let here = rule_value q (ltb-true 0 (length ts) m.some) good f I (subst (λ (x : List ℕ). FitInputs x I) is fit) in
    subst (λ (p : Rule). (value_at (built text) I (pred (terms (built text)))).num ≡ bit (rule_holds p I)) (one_reading text q r t.reads d)
    (subst (λ (x : List ℕ). (value_at x I (pred (terms x))).num ≡ bit (rule_holds q I)) (sym is) here)
