-- The parser's steps follow the words: words that are asked for, sorts and new names.
-- Assumes nothing.
use Rattle.parser.specs.declared.states.Fault.TheVariants as fault_kind
use Rattle.parser.specs.declared.states.Fault.{Fault}
use Rattle.parser.proofs.Faults.{some_number}
use mathlib.Core.Path.{◌≡◌, refl, sym, ap, ◌∙◌, subst}
use mathlib.Core.Bool.{Bool, true, false}
use mathlib.Core.List.{List, [], ◌∷◌, ◌++◌}
use Prim.Native.Nat.{ℕ, ◌<◌}
use native.Mathlib.Omega.{arith}
use lib.Dec.{eqb}
use borrow.Author.Tests.{eqb-true, eqb-false}
use Rattle.smtlib.specs.Bytes.{is_in}
use Rattle.parser.specs.declared.words.Word.{Word}
use Rattle.parser.specs.declared.states.State.{State}
use Rattle.parser.specs.declared.states.Sorted.{Sorted}
use Rattle.parser.specs.Words.{token_at}
use Rattle.parser.specs.Names.{declared}
use Rattle.parser.specs.Expressions.{fault_number, fault_in, faulty_at}
use Rattle.parser.specs.Rules.{code_of, moved_to, expected, width_in, width_of, vector_of, array_of, sort_of, is_name, new_name}
use Rattle.parser.proofs.Choices.{by_test}
use Rattle.parser.proofs.Accepts.{never, Known, declared_is}
use Rattle.parser.proofs.Wanted.{bytes_at}
use Rattle.prefixes.specs.Spelling.{is_end, spelt_at}
use Rattle.prefixes.specs.Prefixes.{Want, Place, Spot, on_to, vector_then, after, refusal}
use Rattle.prefixes.specs.Prefixes.Want.{the, width}
use Rattle.prefixes.specs.Prefixes.Place.{naming, sorting, sort_opened, wanting}
use Rattle.prefixes.proofs.Spellings.{not_the_end, first, first-refused, first-passed, first_alike}

-- from the spot a at a place the words lead to the state v: a fault is the first refusal; without one the words go on from the spot b
pub record Leads (text : List ℕ) (a : Spot) (at : ℕ) (v : State) (b : Spot) : Type 0 where
  pub faulty : (fault_in v ≡ 0 → ⊥) → first text a at ≡ record { number = (fault_in v); place = v.at }
  pub clean : fault_in v ≡ 0 → first text a at ≡ first text b v.at

pub here : (text : List ℕ) (a : Spot) (s : State) → fault_in s ≡ 0 → Leads text a s.at s a
here text a s f = record { faulty = λ n. absurd (n f); clean = λ e. refl }

module _ {text : List ℕ} {a : Spot} {at : ℕ} where
  -- a fault stays
  pub held : {s : State} {b c : Spot} → Leads text a at s b → (fault_in s ≡ 0 → ⊥) → Leads text a at s c
  held l n = record { faulty = l.faulty; clean = λ e. absurd (n e) }

  -- the same state
  pub same : {s v : State} {b : Spot} → v ≡ s → Leads text a at s b → Leads text a at v b
  same {b = b} e l = subst (λ (x : State). Leads text a at x b) (sym e) l

  -- a word that is refused
  pub stopped : {s : State} {b : Spot} (c : Spot) (n : Fault) → Leads text a at s b → fault_in s ≡ 0 → refusal b (spelt_at text s.at) ≡ fault_number n
      → Leads text a at (faulty_at s n (token_at text s.at).from) c
  stopped {s} {b} c n l f r = record { faulty = λ z. l.clean f ∙ first-refused text s.at b n r; clean = λ z. absurd (some_number n z) }

  -- a word that is passed
  pub passed : {s : State} {b : Spot} (v : State) → Leads text a at s b → fault_in s ≡ 0 → refusal b (spelt_at text s.at) ≡ 0
      → is_end (token_at text s.at).word ≡ false
      → fault_in v ≡ 0 → v.at ≡ (token_at text s.at).next → Leads text a at v (after b (spelt_at text s.at))
  passed {s} {b} v l f r e g i = record { faulty = λ n. absurd (n g); clean = λ z. rw i (l.clean f ∙ first-passed text s.at b r e) }

  pub then : {v u : State} {b c : Spot} → Leads text a at v b → fault_in v ≡ 0 → Leads text b v.at u c → Leads text a at u c
  then l f m = record { faulty = λ n. l.clean f ∙ m.faulty n; clean = λ e. l.clean f ∙ m.clean e }

  -- another spot from which the words go on alike
  pub exchanged : {s : State} {b : Spot} (c : Spot) → Leads text a at s b → (fault_in s ≡ 0 → first text b s.at ≡ first text c s.at)
      → Leads text a at s c
  exchanged c l e = record { faulty = l.faulty; clean = λ f. l.clean f ∙ e f }

-- no word of a code below 10 is the end
pub not_end : (w : Word) (code : ℕ) → code_of w ≡ code → code < 10 → is_end w ≡ false
not_end w code e h = not_the_end w (λ z. omega (arith, ap code_of z, e))

pub wide_not_end : (w : Word) → (width_in w ≡ 0 → ⊥) → is_end w ≡ false
wide_not_end w n = not_the_end w (λ z. n (ap width_in z))

pub name-not_end : (w : Word) → is_name w ≡ true → is_end w ≡ false
name-not_end w e = not_the_end w (λ z. never (sym (ap is_name z) ∙ e))

module _ (text : List ℕ) (names : List (List ℕ)) (asserted : Bool) where
  abbrev pub at_place : Place → Spot
  at_place p = record { place = p; names = names; asserted = asserted }

  -- a sort: after its first word, and after a parenthesis its second, it is one of three rows of words
  sort_array : (s : State) → eqb (code_of (token_at text s.at).word) 1 ≡ true
      → eqb (code_of (token_at text (token_at text s.at).next).word) 9 ≡ true
      → first text (at_place sorting) s.at ≡ first text (at_place (wanting (the 1) (the 9 ∷ vector_then (vector_then (the 2 ∷ the 2 ∷ []))))) s.at
  sort_array s e f =
      first_alike text s.at (at_place sorting) (at_place (wanting (the 1) (the 9 ∷ vector_then (vector_then (the 2 ∷ the 2 ∷ []))))) (rw e)
      (rw e (first_alike text (token_at text s.at).next (at_place sort_opened) (at_place (wanting (the 9) (vector_then (vector_then (the 2 ∷ the 2 ∷ []))))) (rw f) (rw f refl)))

  sort_vector : (s : State) → eqb (code_of (token_at text s.at).word) 1 ≡ true
      → eqb (code_of (token_at text (token_at text s.at).next).word) 9 ≡ false
      → first text (at_place sorting) s.at ≡ first text (at_place (on_to (vector_then (the 2 ∷ [])))) s.at
  sort_vector s e f = first_alike text s.at (at_place sorting) (at_place (on_to (vector_then (the 2 ∷ [])))) (rw e)
      (rw e (first_alike text (token_at text s.at).next (at_place sort_opened) (at_place (wanting (the 6) (the 8 ∷ width ∷ the 2 ∷ the 2 ∷ []))) (rw f) (rw f refl)))

  sort_bool : (s : State) → eqb (code_of (token_at text s.at).word) 1 ≡ false
      → first text (at_place sorting) s.at ≡ first text (at_place (wanting (the 7) (the 2 ∷ []))) s.at
  sort_bool s e = first_alike text s.at (at_place sorting) (at_place (wanting (the 7) (the 2 ∷ []))) (rw e) (rw e refl)

  module _ {a : Spot} {at : ℕ} where
    pub wanted : (s : State) (code : ℕ) (more : List Want) → code < 10 → Leads text a at s (at_place (wanting (the code) more))
        → Leads text a at (expected text s code) (at_place (on_to more))
    unfolding expected
    wanted s code more small l =
        let t = token_at text s.at in
        by_test (λ (v : State). Leads text a at v (at_place (on_to more))) (eqb (fault_in s) 0)
        (λ f. by_test (λ (v : State). Leads text a at v (at_place (on_to more))) (eqb (code_of t.word) code)
        (λ e. passed (moved_to s t.next) l (eqb-true _ _ f) (rw e) (not_end t.word code (eqb-true _ _ e) small) (eqb-true _ _ f) refl)
        (λ e. stopped (at_place (on_to more)) fault_kind.Unexpected l (eqb-true _ _ f) (rw e)))
        (λ f. held l (eqb-false _ _ f))

    wide : (s : State) (more : List Want) → Leads text a at s (at_place (wanting width more))
        → Leads text a at (width_of text s).state (at_place (on_to more))
    unfolding width_of
    wide s more l =
        let t = token_at text s.at in
        by_test (λ (v : Sorted). Leads text a at v.state (at_place (on_to more))) (eqb (fault_in s) 0)
        (λ f. by_test (λ (v : Sorted). Leads text a at v.state (at_place (on_to more))) (eqb (width_in t.word) 0)
        (λ e. stopped (at_place (on_to more)) fault_kind.Unexpected l (eqb-true _ _ f) (rw e))
        (λ e. passed (moved_to s t.next) l (eqb-true _ _ f) (rw e) (wide_not_end t.word (eqb-false _ _ e)) (eqb-true _ _ f) refl))
        (λ f. held l (eqb-false _ _ f))

    vector : (s : State) (more : List Want) → Leads text a at s (at_place (on_to (vector_then more)))
        → Leads text a at (vector_of text s).state (at_place (on_to more))
    unfolding vector_of
    vector s more l =
        let s₁ = expected text s 1 in
        let s₂ = expected text s₁ 6 in
        let s₃ = expected text s₂ 8 in
        let l₁ = wanted s 1 (the 6 ∷ the 8 ∷ width ∷ the 2 ∷ more) (omega arith) l in
        let l₂ = wanted s₁ 6 (the 8 ∷ width ∷ the 2 ∷ more) (omega arith) l₁ in
        let l₃ = wanted s₂ 8 (width ∷ the 2 ∷ more) (omega arith) l₂ in
        wanted (width_of text s₃).state 2 more (omega arith) (wide s₃ (the 2 ∷ more) l₃)

    array : (s : State) (more : List Want) → Leads text a at s (at_place (wanting (the 1) (the 9 ∷ vector_then (vector_then (the 2 ∷ more)))))
        → Leads text a at (array_of text s).state (at_place (on_to more))
    unfolding array_of
    array s more l =
        let s₁ = expected text s 1 in
        let s₂ = expected text s₁ 9 in
        let m = vector_of text s₂ in
        let l₁ = wanted s 1 (the 9 ∷ vector_then (vector_then (the 2 ∷ more))) (omega arith) l in
        let l₂ = wanted s₁ 9 (vector_then (vector_then (the 2 ∷ more))) (omega arith) l₁ in
        let l₃ = vector s₂ (vector_then (the 2 ∷ more)) l₂ in
        wanted (vector_of text m.state).state 2 more (omega arith) (vector m.state (the 2 ∷ more) l₃)

    pub sort : (s : State) → Leads text a at s (at_place sorting) → Leads text a at (sort_of text s).state (at_place (wanting (the 2) []))
    unfolding sort_of
    sort s l =
        let t = token_at text s.at in
        by_test (λ (v : Sorted). Leads text a at v.state (at_place (wanting (the 2) []))) (eqb (code_of t.word) 1)
        (λ e. by_test (λ (v : Sorted). Leads text a at v.state (at_place (wanting (the 2) []))) (eqb (code_of (token_at text t.next).word) 9)
        (λ f. array s (the 2 ∷ []) (exchanged _ l (λ c. sort_array s e f)))
        (λ f. vector s (the 2 ∷ []) (exchanged _ l (λ c. sort_vector s e f))))
        (λ e. wanted s 7 (the 2 ∷ []) (omega arith) (exchanged _ l (λ c. sort_bool s e)))

    -- a new name
    pub new : (s : State) (count : ℕ) → Known text count names → Leads text a at s (at_place naming)
        → Leads text a at (new_name text count s) (record { place = sorting; names = names ++ (bytes_at text s.at ∷ []); asserted = asserted })
    unfolding new_name
    new s count k l =
        let t = token_at text s.at in
        let w = bytes_at text s.at in
        let c : Spot = record { place = sorting; names = names ++ (bytes_at text s.at ∷ []); asserted = asserted } in
        let d : declared text count w ≡ is_in names w = declared_is k w in
        by_test (λ (v : State). Leads text a at v c) (eqb (fault_in s) 0)
        (λ f. by_test (λ (v : State). Leads text a at v c) (is_name t.word)
        (λ e. by_test (λ (v : State). Leads text a at v c) (declared text count w)
        (λ g. stopped c fault_kind.Undeclared l (eqb-true _ _ f) (let h : is_in names w ≡ true = sym d ∙ g in rw (e, h)))
        (λ g. passed (moved_to s t.next) l (eqb-true _ _ f) (let h : is_in names w ≡ false = sym d ∙ g in rw (e, h)) (name-not_end t.word e)
        (eqb-true _ _ f) refl))
        (λ e. stopped c fault_kind.Unexpected l (eqb-true _ _ f) (rw e)))
        (λ f. held l (eqb-false _ _ f))
