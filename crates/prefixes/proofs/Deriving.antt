-- Words that are all expected are a sentence.
-- Assumes nothing.
use Rattle.std.specs.Prelude.{Option, Some}
use mathlib.Core.Path.{◌≡◌, refl, sym, ap, ◌∙◌, subst}
use mathlib.Core.Bool.{Bool, true, false, cond, not, ◌||◌}
use mathlib.Core.List.{List, [], ◌∷◌}
use Prim.Native.Nat.{ℕ, zero, suc, ◌<◌}
use native.Mathlib.Omega.{arith}
use lib.Dec.{eqb}
use lib.ListN.{length}
use borrow.Author.Tests.{eqb-true, eqb-false, not-true}
use Rattle.smtlib.proofs.Cuts.{and_left, and_right}
use Rattle.parser.specs.declared.words.Word.{Word}
use Rattle.parser.specs.declared.words.Word.TheVariants.{Open, Close, Keyword, Operator, Literal, Width, Name, Other, End}
use Rattle.parser.specs.declared.words.Keyword.TheVariants.{DeclareConst, Assert, CheckSat, Underscore}
use Rattle.parser.specs.declared.words.SortName.{SortName}
use Rattle.parser.specs.declared.words.SortName.TheVariants as sort_name
use Rattle.parser.specs.Rules.{code_of, width_in, is_name}
use Rattle.parser.proofs.Accepts.{never}
use Rattle.parser.proofs.Wanted.{word_by}
use Rattle.prefixes.specs.Spelling.{is_end}
use Rattle.prefixes.specs.Prefixes.{Want, Level, Place, on_to, vector_then, counted, place_after, asserted_after, expected_at}
use Rattle.prefixes.specs.Prefixes.Want.{the, width}
use Rattle.prefixes.specs.Prefixes.Place.{commands, command, naming, sorting, sort_opened, wanting, operand, operator}
use Rattle.prefixes.specs.Sentences.{Vector, Sorting, Expression, Operands, Declarations, Asserts, Sentence}
use Rattle.prefixes.specs.Sentences.Vector.{vector as vectored}
use Rattle.prefixes.specs.Sentences.Sorting.{bool, vector, array}
use Rattle.prefixes.specs.Sentences.Expression.{constant, name, list}
use Rattle.prefixes.specs.Sentences.Operands.{none, more}
use Rattle.prefixes.specs.Sentences.Declarations.{none as undeclared, more as declared}
use Rattle.prefixes.specs.Sentences.Asserts.{none as unasserted, more as asserted}
use Rattle.prefixes.proofs.Following.{not_end, wide_not_end, name-not_end}
use Rattle.prefixes.proofs.Accepting.{is_none, accepts}

-- a word that its code tells, as every word of a text is
pub record Told (w : Word) : Type 0 where
  pub is : (code : ℕ) → code_of w ≡ suc code → w ≡ word_by (suc code)

pub data AllTold : List Word → Type 0 where
  no_word : AllTold []
  and_word : {w : Word} {ws : List Word} → Told w → AllTold ws → AllTold (w ∷ ws)

-- what is derived, and the words that are left, which go on from a place
record Reaches (P : List Word → Type 0) (p : Place) (b : Bool) (n : ℕ) : Type 0 where
  rest : List Word
  derived : P rest
  on : accepts p b rest ≡ true
  told : AllTold rest
  shorter : length rest < n

-- one word w, and then others
record First (w : Word) (ws us : List Word) : Type 0 where
  is : ws ≡ w ∷ us

module _ (p : Place) (b : Bool) (w : Word) (ws : List Word) (e : accepts p b (w ∷ ws) ≡ true) where
  is-expected : expected_at p b w ≡ true
  unfolding accepts
  is-expected = and_left (expected_at p b w) (cond (is_end w) (is_none ws) (accepts (place_after p w) (asserted_after p b w) ws)) e

  goes_on : is_end w ≡ false → accepts (place_after p w) (asserted_after p b w) ws ≡ true
  unfolding accepts
  goes_on f = rw f at (and_right (expected_at p b w) (cond (is_end w) (is_none ws) (accepts (place_after p w) (asserted_after p b w) ws)) e)

not_empty : (p : Place) (b : Bool) → accepts p b [] ≡ true → ⊥
unfolding accepts
not_empty p b e = never e

want_the : (code : ℕ) (xs : List Want) (b : Bool) (ws : List Word) → suc code < 10 → AllTold ws
    → accepts (wanting (the (suc code)) xs) b ws ≡ true → Reaches (First (word_by (suc code)) ws) (on_to xs) b (length ws)
want_the code xs b [] h no_word e = absurd (not_empty (wanting (the (suc code)) xs) b e)
want_the code xs b (w ∷ ws) h (and_word t ts) e =
    let c = eqb-true (code_of w) (suc code) (is-expected (wanting (the (suc code)) xs) b w ws e) in
    record {
      rest = ws;
      derived = record { is = ap (λ (x : Word). x ∷ ws) (t.is code c) };
      on = goes_on (wanting (the (suc code)) xs) b w ws e (not_end w (suc code) c h);
      told = ts;
      shorter = omega arith;
    }

record FirstWidth (ws us : List Word) : Type 0 where
  wide : ℕ
  is : ws ≡ Width (suc wide) ∷ us

a_width : (w : Word) → not (eqb (width_in w) 0) ≡ true → {us : List Word} → FirstWidth (w ∷ us) us
a_width Open e = absurd (never e)
a_width Close e = absurd (never e)
a_width (Keyword k) e = absurd (never e)
a_width (Operator op) e = absurd (never e)
a_width (Literal n v) e = absurd (never e)
a_width (Width zero) e = absurd (never e)
a_width (Width (suc n)) e = record { wide = n; is = refl }
a_width (Name k) e = absurd (never e)
a_width Other e = absurd (never e)
a_width End e = absurd (never e)

want_width : (xs : List Want) (b : Bool) (ws : List Word) → AllTold ws → accepts (wanting width xs) b ws ≡ true
    → Reaches (FirstWidth ws) (on_to xs) b (length ws)
want_width xs b [] no_word e = absurd (not_empty (wanting width xs) b e)
want_width xs b (w ∷ ws) (and_word t ts) e =
    let x = is-expected (wanting width xs) b w ws e in
    record {
      rest = ws;
      derived = a_width w x;
      on = goes_on (wanting width xs) b w ws e (wide_not_end w (eqb-false _ _ (not-true (eqb (width_in w) 0) x)));
      told = ts;
      shorter = omega arith;
    }

-- BitVec width ) after ( _
record Ended (ws us : List Word) : Type 0 where
  wide : ℕ
  is : ws ≡ Name (Some sort_name.BitVec) ∷ Width (suc wide) ∷ Close ∷ us

vector_end : (xs : List Want) (b : Bool) (ws : List Word) → AllTold ws → accepts (wanting (the 8) (width ∷ the 2 ∷ xs)) b ws ≡ true
    → Reaches (Ended ws) (on_to xs) b (length ws)
vector_end xs b ws t e =
    let x = want_the 7 (width ∷ the 2 ∷ xs) b ws (omega arith) t e in
    let y = want_width (the 2 ∷ xs) b x.rest x.told x.on in
    let z = want_the 1 xs b y.rest (omega arith) y.told y.on in
    record {
      rest = z.rest;
      derived = record {
        wide = y.derived.wide;
        is = x.derived.is ∙ ap (λ (us : List Word). Name (Some sort_name.BitVec) ∷ us) (y.derived.is
            ∙ ap (λ (us : List Word). Width (suc y.derived.wide) ∷ us) z.derived.is);
      };
      on = z.on;
      told = z.told;
      shorter = omega (arith, x.shorter, y.shorter, z.shorter);
    }

vector_of_lem : (xs : List Want) (b : Bool) (ws : List Word) → AllTold ws → accepts (on_to (vector_then xs)) b ws ≡ true
    → Reaches (Vector ws) (on_to xs) b (length ws)
vector_of_lem xs b ws t e =
    let x = want_the 0 (the 6 ∷ the 8 ∷ width ∷ the 2 ∷ xs) b ws (omega arith) t e in
    let y = want_the 5 (the 8 ∷ width ∷ the 2 ∷ xs) b x.rest (omega arith) x.told x.on in
    let z = vector_end xs b y.rest y.told y.on in
    let is : ws ≡ Open ∷ Keyword Underscore ∷ Name (Some sort_name.BitVec) ∷ Width (suc z.derived.wide) ∷ Close ∷ z.rest =
    x.derived.is ∙ ap (λ (us : List Word). Open ∷ us) (y.derived.is ∙ ap (λ (us : List Word). Keyword Underscore ∷ us) z.derived.is) in
    record {
      rest = z.rest;
      derived = subst (λ (l : List Word). Vector l z.rest) (sym is) vectored;
      on = z.on;
      told = z.told;
      shorter = omega
          (arith, x.shorter, y.shorter, z.shorter);
    }

-- Sorts

sort_opened_lem : (b : Bool) (ws : List Word) → AllTold ws → accepts sort_opened b ws ≡ true
    → Reaches (Sorting (Open ∷ ws)) (wanting (the 2) []) b (length ws)
sort_opened_lem b [] no_word e = absurd (not_empty sort_opened b e)
sort_opened_lem b (w ∷ ws) (and_word t ts) e = go (eqb (code_of w) 9) (eqb (code_of w) 6) refl refl
  where
    go : (x y : Bool) → eqb (code_of w) 9 ≡ x → eqb (code_of w) 6 ≡ y → Reaches (Sorting (Open ∷ w ∷ ws)) (wanting (the 2) []) b (suc (length ws))
    go true y f g =
        let c = eqb-true _ _ f in
        let on = rw f at (goes_on sort_opened b w ws e (not_end w 9 c (omega arith))) in
        let m = vector_of_lem (vector_then (the 2 ∷ the 2 ∷ [])) b ws ts on in
        let n = vector_of_lem (the 2 ∷ the 2 ∷ []) b m.rest m.told m.on in
        let z = want_the 1 (the 2 ∷ []) b n.rest (omega arith) n.told n.on in
        let v : Vector m.rest (Close ∷ z.rest) = subst (λ (l : List Word). Vector m.rest l) z.derived.is n.derived in
        record {
          rest = z.rest;
          derived = subst (λ (x : Word). Sorting (Open ∷ x ∷ ws) z.rest) (sym (t.is 8 c)) (array m.derived v);
          on = z.on;
          told = z.told;
          shorter = omega (arith, m.shorter, n.shorter, z.shorter);
        }
    go false true f g =
        let c = eqb-true _ _ g in
        let on = rw f at (goes_on sort_opened b w ws e (not_end w 6 c (omega arith))) in
        let z = vector_end (the 2 ∷ []) b ws ts on in
        let is : w ∷ ws ≡ Keyword Underscore ∷ Name (Some sort_name.BitVec) ∷ Width (suc z.derived.wide) ∷ Close ∷ z.rest =
        ap (λ (x : Word). x ∷ ws) (t.is 5 c) ∙ ap (λ (us : List Word). Keyword Underscore ∷ us) z.derived.is in
        record {
          rest = z.rest;
          derived = subst (λ (l : List Word). Sorting (Open ∷ l) z.rest) (sym is) (vector vectored);
          on = z.on;
          told = z.told;
          shorter = omega (arith, z.shorter);
        }
    go false false f g = absurd (never (rw (f, g) at (is-expected sort_opened b w ws e)))

sort_of_lem : (b : Bool) (ws : List Word) → AllTold ws → accepts sorting b ws ≡ true → Reaches (Sorting ws) (wanting (the 2) []) b (length ws)
sort_of_lem b [] no_word e = absurd (not_empty sorting b e)
sort_of_lem b (w ∷ ws) (and_word t ts) e = go (eqb (code_of w) 1) (eqb (code_of w) 7) refl refl
  where
    go : (x y : Bool) → eqb (code_of w) 1 ≡ x → eqb (code_of w) 7 ≡ y → Reaches (Sorting (w ∷ ws)) (wanting (the 2) []) b (suc (length ws))
    go true y f g =
        let c = eqb-true _ _ f in
        let z = sort_opened_lem b ws ts (rw f at (goes_on sorting b w ws e (not_end w 1 c (omega arith)))) in
        record {
          rest = z.rest;
          derived = subst (λ (x : Word). Sorting (x ∷ ws) z.rest) (sym (t.is 0 c)) z.derived;
          on = z.on;
          told = z.told;
          shorter = omega (arith, z.shorter);
        }
    go false true f g =
        let c = eqb-true _ _ g in
        record {
          rest = ws;
          derived = subst (λ (x : Word). Sorting (x ∷ ws) ws) (sym (t.is 6 c)) bool;
          on = rw f at (goes_on sorting b w ws e (not_end w 7 c (omega arith)));
          told = ts;
          shorter = omega arith;
        }
    go false false f g = absurd (never (rw (f, g) at (is-expected sorting b w ws e)))

-- Expressions

record Operated (ls : List Level) (b : Bool) (ws : List Word) : Type 0 where
  op : ℕ
  rest : List Word
  is : ws ≡ Operator op ∷ rest
  on : accepts (operand (record { op = op; operands = 0 } ∷ ls)) b rest ≡ true
  told : AllTold rest

operator_of_lem : (ls : List Level) (b : Bool) (ws : List Word) → AllTold ws → accepts (operator ls) b ws ≡ true → Operated ls b ws
operator_of_lem ls b [] no_word e = absurd (not_empty (operator ls) b e)
operator_of_lem ls b (Open ∷ ws) (and_word t ts) e = absurd (never (is-expected (operator ls) b Open ws e))
operator_of_lem ls b (Close ∷ ws) (and_word t ts) e = absurd (never (is-expected (operator ls) b Close ws e))
operator_of_lem ls b (Keyword k ∷ ws) (and_word t ts) e = absurd (never (is-expected (operator ls) b (Keyword k) ws e))
operator_of_lem ls b (Operator op ∷ ws) (and_word t ts) e =
    record { op = op; rest = ws; is = refl; on = goes_on (operator ls) b (Operator op) ws e refl; told = ts }
operator_of_lem ls b (Literal n v ∷ ws) (and_word t ts) e = absurd (never (is-expected (operator ls) b (Literal n v) ws e))
operator_of_lem ls b (Width n ∷ ws) (and_word t ts) e = absurd (never (is-expected (operator ls) b (Width n) ws e))
operator_of_lem ls b (Name k ∷ ws) (and_word t ts) e = absurd (never (is-expected (operator ls) b (Name k) ws e))
operator_of_lem ls b (Other ∷ ws) (and_word t ts) e = absurd (never (is-expected (operator ls) b Other ws e))
operator_of_lem ls b (End ∷ ws) (and_word t ts) e = absurd (never (is-expected (operator ls) b End ws e))

-- a list's operands and its end
Listed : List Level → Bool → List Word → Type 0
Listed ls b ws = Reaches (λ us. Operands ws (Close ∷ us)) (counted ls) b (length ws)

-- one operand more in front
in_front : (ls : List Level) (b : Bool) {ws vs : List Word} → Expression ws vs → length vs < length ws → Listed ls b vs → Listed ls b ws
unfolding Listed
in_front ls b x h r = record { rest = r.rest; derived = more x r.derived; on = r.on; told = r.told; shorter = omega (arith, r.shorter) }

operands_of_lem : (n : ℕ) (l : Level) (ls : List Level) (b : Bool) (ws : List Word) → length ws < n → AllTold ws
    → accepts (operand (l ∷ ls)) b ws ≡ true → Listed ls b ws
unfolding Listed
operands_of_lem zero l ls b ws h t e = absurd (omega arith)
operands_of_lem (suc n) l ls b [] h no_word e = absurd (not_empty (operand (l ∷ ls)) b e)
operands_of_lem (suc n) l ls b (Open ∷ ws) h (and_word t ts) e =
    let o = operator_of_lem (l ∷ ls) b ws ts (goes_on (operand (l ∷ ls)) b Open ws e refl) in
    let long : length ws ≡ suc (length o.rest) = ap length o.is in
    let x = operands_of_lem n (record { op = o.op; operands = 0 }) (l ∷ ls) b o.rest (omega arith) o.told o.on in
    let y = operands_of_lem n (record { op = l.op; operands = suc l.operands }) ls b x.rest (omega (arith, x.shorter)) x.told x.on in
    subst (λ (us : List Word). Listed ls b (Open ∷ us)) (sym o.is) (in_front ls b (list x.derived) (omega (arith, x.shorter)) y)
operands_of_lem (suc n) l ls b (Close ∷ ws) h (and_word t ts) e =
    record { rest = ws; derived = none; on = goes_on (operand (l ∷ ls)) b Close ws e refl; told = ts; shorter = omega arith }
operands_of_lem (suc n) l ls b (Keyword k ∷ ws) h (and_word t ts) e = absurd (never (is-expected (operand (l ∷ ls)) b (Keyword k) ws e))
operands_of_lem (suc n) l ls b (Operator op ∷ ws) h (and_word t ts) e = absurd (never (is-expected (operand (l ∷ ls)) b (Operator op) ws e))
operands_of_lem (suc n) l ls b (Literal m v ∷ ws) h (and_word t ts) e =
    in_front ls b constant (omega arith) (operands_of_lem n (record {
      op = l.op;
      operands = suc l.operands;
    }) ls b ws (omega arith) ts (goes_on (operand (l ∷ ls)) b (Literal m v) ws e refl))
operands_of_lem (suc n) l ls b (Width m ∷ ws) h (and_word t ts) e = absurd (never (is-expected (operand (l ∷ ls)) b (Width m) ws e))
operands_of_lem (suc n) l ls b (Name k ∷ ws) h (and_word t ts) e =
    in_front ls b name (omega arith) (operands_of_lem n (record {
      op = l.op;
      operands = suc l.operands;
    }) ls b ws (omega arith) ts (goes_on (operand (l ∷ ls)) b (Name k) ws e refl))
operands_of_lem (suc n) l ls b (Other ∷ ws) h (and_word t ts) e = absurd (never (is-expected (operand (l ∷ ls)) b Other ws e))
operands_of_lem (suc n) l ls b (End ∷ ws) h (and_word t ts) e = absurd (never (is-expected (operand (l ∷ ls)) b End ws e))

expression_of_lem : (b : Bool) (ws : List Word) → AllTold ws → accepts (operand []) b ws ≡ true
    → Reaches (Expression ws) (wanting (the 2) []) b (length ws)
unfolding Listed
expression_of_lem b [] no_word e = absurd (not_empty (operand []) b e)
expression_of_lem b (Open ∷ ws) (and_word t ts) e =
    let o = operator_of_lem [] b ws ts (goes_on (operand []) b Open ws e refl) in
    let long : length ws ≡ suc (length o.rest) = ap length o.is in
    let x = operands_of_lem (suc (length o.rest)) (record { op = o.op; operands = 0 }) [] b o.rest (omega arith) o.told o.on in
    record {
      rest = x.rest;
      derived = subst (λ (us : List Word). Expression (Open ∷ us) x.rest) (sym o.is) (list x.derived);
      on = x.on;
      told = x.told;
      shorter = omega (arith, x.shorter);
    }
expression_of_lem b (Close ∷ ws) (and_word t ts) e = absurd (never (is-expected (operand []) b Close ws e))
expression_of_lem b (Keyword k ∷ ws) (and_word t ts) e = absurd (never (is-expected (operand []) b (Keyword k) ws e))
expression_of_lem b (Operator op ∷ ws) (and_word t ts) e = absurd (never (is-expected (operand []) b (Operator op) ws e))
expression_of_lem b (Literal m v ∷ ws) (and_word t ts) e =
    record { rest = ws; derived = constant; on = goes_on (operand []) b (Literal m v) ws e refl; told = ts; shorter = omega arith }
expression_of_lem b (Width m ∷ ws) (and_word t ts) e = absurd (never (is-expected (operand []) b (Width m) ws e))
expression_of_lem b (Name k ∷ ws) (and_word t ts) e =
    record { rest = ws; derived = name; on = goes_on (operand []) b (Name k) ws e refl; told = ts; shorter = omega arith }
expression_of_lem b (Other ∷ ws) (and_word t ts) e = absurd (never (is-expected (operand []) b Other ws e))
expression_of_lem b (End ∷ ws) (and_word t ts) e = absurd (never (is-expected (operand []) b End ws e))

-- Commands

data Commanded (b : Bool) (ws : List Word) : Type 0 where
  declaring : (vs : List Word) → b ≡ false → ws ≡ Open ∷ Keyword DeclareConst ∷ vs → accepts naming b vs ≡ true → AllTold vs → Commanded b ws
  asserting : (vs : List Word) → ws ≡ Open ∷ Keyword Assert ∷ vs → accepts (operand []) true vs ≡ true → AllTold vs → Commanded b ws
  checking : (vs : List Word) → ws ≡ Open ∷ Keyword CheckSat ∷ vs → accepts (wanting (the 2) (the 10 ∷ [])) b vs ≡ true → AllTold vs → Commanded b ws

or-none : (b : Bool) → b || false || false ≡ true → b ≡ true
or-none true e = refl
or-none false e = e

not_both : (b : Bool) → not b ≡ true → b ≡ false
not_both true e = sym e
not_both false e = refl

command_of_lem : (b : Bool) (ws : List Word) → AllTold ws → accepts command b ws ≡ true → Commanded b (Open ∷ ws)
command_of_lem b [] no_word e = absurd (not_empty command b e)
command_of_lem b (w ∷ ws) (and_word t ts) e = go (eqb (code_of w) 3) (eqb (code_of w) 4) (eqb (code_of w) 5) refl refl refl
  where
    go : (x y z : Bool) → eqb (code_of w) 3 ≡ x → eqb (code_of w) 4 ≡ y → eqb (code_of w) 5 ≡ z → Commanded b (Open ∷ w ∷ ws)
    go true y z f g h =
        let c = eqb-true (code_of w) 3 f in
        let x = rw c at (is-expected command b w ws e) in
        let on = rw c at (goes_on command b w ws e (not_end w 3 c (omega arith))) in
        declaring ws (not_both b (or-none (not b) x)) (ap (λ (v : Word). Open ∷ v ∷ ws) (t.is 2 c)) on ts
    go false true z f g h =
        let c = eqb-true (code_of w) 4 g in
        let on = rw c at (goes_on command b w ws e (not_end w 4 c (omega arith))) in
        asserting ws (ap (λ (v : Word). Open ∷ v ∷ ws) (t.is 3 c)) on ts
    go false false true f g h =
        let c = eqb-true (code_of w) 5 h in
        let on = rw c at (goes_on command b w ws e (not_end w 5 c (omega arith))) in
        checking ws (ap (λ (v : Word). Open ∷ v ∷ ws) (t.is 4 c)) on ts
    go false false false f g h = absurd (never (rw (f, g, h) at (is-expected command b w ws e)))

commanded : (b : Bool) (ws : List Word) → AllTold ws → accepts commands b ws ≡ true → Commanded b ws
commanded b [] no_word e = absurd (not_empty commands b e)
commanded b (w ∷ ws) (and_word t ts) e =
    let c = eqb-true (code_of w) 1 (is-expected commands b w ws e) in
    subst (λ (v : Word). Commanded b (v ∷ ws)) (sym (t.is 0 c)) (command_of_lem b ws ts (goes_on commands b w ws e (not_end w 1 c (omega arith))))

-- an assert from its expression on; a declaration from its name on; check-sat
assert_of_lem : (ws : List Word) → AllTold ws → accepts (operand []) true ws ≡ true → Reaches (λ us. Expression ws (Close ∷ us)) commands true (length ws)
assert_of_lem ws t e =
    let x = expression_of_lem true ws t e in
    let z = want_the 1 [] true x.rest (omega arith) x.told x.on in
    record {
      rest = z.rest;
      derived = subst (Expression ws) z.derived.is x.derived;
      on = z.on;
      told = z.told;
      shorter = omega (arith, x.shorter, z.shorter);
    }

record Declares (ws us : List Word) : Type 0 where
  kind : Option SortName
  rest : List Word
  is : ws ≡ Name kind ∷ rest
  sort : Sorting rest (Close ∷ us)

a_name : (w : Word) → is_name w ≡ true → {ws us : List Word} → Sorting ws (Close ∷ us) → Declares (w ∷ ws) us
a_name Open e s = absurd (never e)
a_name Close e s = absurd (never e)
a_name (Keyword k) e s = absurd (never e)
a_name (Operator op) e s = absurd (never e)
a_name (Literal n v) e s = absurd (never e)
a_name (Width n) e s = absurd (never e)
a_name (Name k) e {ws} s = record { kind = k; rest = ws; is = refl; sort = s }
a_name Other e s = absurd (never e)
a_name End e s = absurd (never e)

declaration_of_lem : (b : Bool) (ws : List Word) → AllTold ws → accepts naming b ws ≡ true → Reaches (Declares ws) commands b (length ws)
declaration_of_lem b [] no_word e = absurd (not_empty naming b e)
declaration_of_lem b (w ∷ ws) (and_word t ts) e =
    let x = is-expected naming b w ws e in
    let y = sort_of_lem b ws ts (goes_on naming b w ws e (name-not_end w x)) in
    let z = want_the 1 [] b y.rest (omega arith) y.told y.on in
    record {
      rest = z.rest;
      derived = a_name w x (subst (Sorting ws) z.derived.is y.derived);
      on = z.on;
      told = z.told;
      shorter = omega (arith, y.shorter, z.shorter);
    }

alone : (ws : List Word) → is_none ws ≡ true → ws ≡ []
alone [] e = refl
alone (w ∷ ws) e = absurd (never e)

ends_of : (b : Bool) (ws : List Word) → AllTold ws → accepts (wanting (the 10) []) b ws ≡ true → ws ≡ End ∷ []
unfolding accepts
ends_of b [] no_word e = absurd (never e)
ends_of b (w ∷ ws) (and_word t ts) e =
    let rest = cond (is_end w) (is_none ws) (accepts commands b ws) in
    let is = t.is 9 (eqb-true (code_of w) 10 (and_left (eqb (code_of w) 10) rest e)) in
    let n : is_none ws ≡ true = ap (λ (v : Word). cond (is_end v) (is_none ws) (accepts commands b ws)) (sym is)
    ∙ and_right (eqb (code_of w) 10) rest e in
    ap (λ (v : Word). v ∷ ws) is ∙ ap (λ (us : List Word). End ∷ us) (alone ws n)

check_of_lem : (b : Bool) (ws : List Word) → AllTold ws → accepts (wanting (the 2) (the 10 ∷ [])) b ws ≡ true → ws ≡ Close ∷ End ∷ []
check_of_lem b ws t e =
    let x = want_the 1 (the 10 ∷ []) b ws (omega arith) t e in
    x.derived.is ∙ ap (λ (us : List Word). Close ∷ us) (ends_of b x.rest x.told x.on)

-- Sentences

abbrev last_words : List Word
last_words = Open ∷ Keyword CheckSat ∷ Close ∷ End ∷ []

asserts_of_lem : (n : ℕ) (ws : List Word) → length ws < n → AllTold ws → accepts commands true ws ≡ true → Asserts ws last_words
asserts_of_lem zero ws h t e = absurd (omega arith)
asserts_of_lem (suc n) ws h t e = go (commanded true ws t e) (asserts_of_lem n)
  where
    go : Commanded true ws → ((us : List Word) → length us < n → AllTold us → accepts commands true us ≡ true → Asserts us last_words)
        → Asserts ws last_words
    go (declaring vs f is on ts) next = absurd (never (sym f))
    go (asserting vs is on ts) next =
        let x = assert_of_lem vs ts on in
        rw is (asserted x.derived (next x.rest (omega (arith, x.shorter, ap length is)) x.told x.on))
    go (checking vs is on ts) next = rw (is, check_of_lem true vs ts on) unasserted

pub sentence_of : (n : ℕ) (ws : List Word) → length ws < n → AllTold ws → accepts commands false ws ≡ true → Sentence ws
sentence_of zero ws h t e = absurd (omega arith)
sentence_of (suc n) ws h t e = go (commanded false ws t e) (sentence_of n)
  where
    go : Commanded false ws → ((us : List Word) → length us < n → AllTold us → accepts commands false us ≡ true → Sentence us) → Sentence ws
    go (declaring vs f is on ts) next =
        let x = declaration_of_lem false vs ts on in
        let s = next x.rest (omega (arith, x.shorter, ap length is)) x.told x.on in
        record {
          declared = s.declared;
          declarations =
              subst (λ (us : List Word). Declarations us s.declared)
              (sym (is ∙ ap (λ (us : List Word). Open ∷ Keyword DeclareConst ∷ us) x.derived.is))
              (declared x.derived.sort s.declarations);
          asserts = s.asserts;
        }
    go (asserting vs is on ts) next =
        let x = assert_of_lem vs ts on in
        record {
          declared = ws;
          declarations = undeclared;
          asserts = rw is (asserted x.derived (asserts_of_lem n x.rest (omega (arith, x.shorter, ap length is)) x.told x.on));
        }
    go (checking vs is on ts) next = record { declared = ws; declarations = undeclared; asserts = rw (is, check_of_lem false vs ts on) unasserted }
