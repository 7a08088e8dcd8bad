-- No token of a text is left out, and what is left after a token.
-- Assumes nothing.
use mathlib.Core.Path.{◌≡◌, refl, sym, ap, ◌∙◌}
use mathlib.Core.Bool.{Bool, true, false, cond, not, ◌||◌}
use mathlib.Core.List.{List, [], ◌∷◌}
use Prim.Native.Nat.{ℕ, zero, suc, ◌+◌, ◌≤◌, ◌<◌}
use native.Mathlib.Omega.{arith}
use lib.Dec.{eqb, ltb}
use lib.ListN.{length, drop, get_or, length-drop}
use lib.Seq.{get_or-drop}
use borrow.Author.Tests.{ltb-true, le-ltb, lt-ltb}
use Rattle.cases.specs.Bytes.{white}
use Rattle.cases.proofs.Booleans.{never}
use Rattle.parser.specs.Words.{past}
use Rattle.parser.proofs.Forward.{one_ahead}
use Rattle.outline.specs.declared.scan.Span.{Span}
use Rattle.assignments.specs.Tokens.{skipped, comment_after, skipped_from, past_skipped, bracket, inside, token_at, tokens_from, tokens_left}
use Rattle.assignments.specs.Laws.{NoTokenLeft}

-- what stops the way past white space and comments
plain : (c : Bool) (b : ℕ) → skipped c b ≡ false → (white b || eqb b 59) ≡ false
plain true b e = never (sym e)
plain false b e = e

stops : (c : Bool) (l : List ℕ) → skipped_from c l < length l → (white (get_or l (skipped_from c l) 0) || eqb (get_or l (skipped_from c l) 0) 59) ≡ false
unfolding skipped_from
stops c [] h = absurd (omega arith)
stops c (b ∷ bs) h = go (skipped c b) refl (stops (comment_after c b) bs) h
  where
    go : (t : Bool) → skipped c b ≡ t
        → (skipped_from (comment_after c b) bs < length bs → (white (get_or bs (skipped_from (comment_after c b) bs) 0) || eqb (get_or bs (skipped_from (comment_after c b) bs) 0) 59) ≡ false)
        → cond t (suc (skipped_from (comment_after c b) bs)) 0 < suc (length bs)
        → (white (get_or (b ∷ bs) (cond t (suc (skipped_from (comment_after c b) bs)) 0) 0) || eqb (get_or (b ∷ bs) (cond t (suc (skipped_from (comment_after c b) bs)) 0) 0) 59) ≡ false
    go true e f k = f (omega arith)
    go false e f k = plain c b e

none_of : (a b c : Bool) → (a || b) ≡ false → c ≡ false → not (a || b || c) ≡ true
none_of true b c p q = never (sym p)
none_of false true c p q = never (sym p)
none_of false false true p q = never (sym q)
none_of false false false p q = refl

-- a token begins where it is sought or later, and takes a byte at least
begins : (text : List ℕ) (at : ℕ) → at ≤ (token_at text at).from
unfolding token_at
begins text at = omega arith

moves : (text : List ℕ) (at : ℕ) → (token_at text at).from < length text → at < (token_at text at).to
unfolding token_at
moves text at h = go (bracket (get_or text (past_skipped text at) 0)) refl
  where
    ends : (white (get_or text (past_skipped text at) 0) || eqb (get_or text (past_skipped text at) 0) 59) ≡ false
    ends =
        let e = length-drop at text in
        ap (λ (b : ℕ). white b || eqb b 59) (sym (get_or-drop at text (skipped_from false (drop at text)) 0)) ∙ stops false (drop at text) (omega arith)

    go : (t : Bool) → bracket (get_or text (past_skipped text at) 0) ≡ t → at < cond t (past_skipped text at + 1) (past inside text (past_skipped text at))
    go true e = omega arith
    go false e =
        let b = get_or text (past_skipped text at) 0 in
        omega (arith, one_ahead inside text (past_skipped text at) h (none_of (white b) (eqb b 59) (bracket b) ends e))

-- one token more than there can be
step-more : (n : ℕ) (text : List ℕ) (at : ℕ) → ((token_at text at).from < length text → tokens_from (suc n) text (token_at text at).to ≡ tokens_from n text (token_at text at).to)
    → tokens_from (suc (suc n)) text at ≡ tokens_from (suc n) text at
unfolding tokens_from
step-more n text at = go (ltb (token_at text at).from (length text)) refl
  where
    go : (b : Bool) → ltb (token_at text at).from (length text) ≡ b
        → ((token_at text at).from < length text → tokens_from (suc n) text (token_at text at).to ≡ tokens_from n text (token_at text at).to)
        → cond b (token_at text at ∷ tokens_from (suc n) text (token_at text at).to) [] ≡ cond b (token_at text at ∷ tokens_from n text (token_at text at).to) []
    go true e f = ap (λ (l : List Span). token_at text at ∷ l) (f (ltb-true (token_at text at).from (length text) e))
    go false e f = refl

one_more_lem : (n : ℕ) (text : List ℕ) (at : ℕ) → length text ≤ at + n → tokens_from (suc n) text at ≡ tokens_from n text at
unfolding tokens_from
one_more_lem zero text at h =
    ap (λ (b : Bool). cond b (token_at text at ∷ []) []) (le-ltb (token_at text at).from (length text) (omega (arith, begins text at)))
one_more_lem (suc n) text at h = step-more n text at (λ b. one_more_lem n text (token_at text at).to (omega (arith, h, moves text at b)))

pub no_token_left : NoTokenLeft
no_token_left text zero = let z : 0 + length text ≡ length text = omega arith in ap (λ (n : ℕ). tokens_from n text 0) z
no_token_left text (suc more) =
    let z : suc more + length text ≡ suc (more + length text) = omega arith in
    ap (λ (n : ℕ). tokens_from n text 0) z ∙ one_more_lem (more + length text) text 0 (omega arith) ∙ no_token_left text more

-- what is left at a place begins with the token there, unless that is at the text's end
module _ (text : List ℕ) (at : ℕ) (t : Span) (is : t ≡ token_at text at) where
  advances : t.from < length text → at < t.to
  advances = rw is (moves text at)

  none_from : (n : ℕ) → length text ≤ t.from → tokens_from n text at ≡ []
  unfolding tokens_from
  none_from zero b = refl
  none_from (suc n) b = rw (sym is, le-ltb t.from (length text) b)

  one_from : (n : ℕ) → n ≡ length text → t.from < length text → tokens_from n text at ≡ t ∷ tokens_from n text t.to
  unfolding tokens_from
  one_from zero e b = absurd (omega arith)
  one_from (suc n) e b =
      let m : at < t.to = advances b in
      let more : length text ≤ t.to + n = omega arith in
      rw (sym is, lt-ltb t.from (length text) b) (ap (λ (l : List Span). t ∷ l) (sym (one_more_lem n text t.to more)))

  pub none_left : length text ≤ t.from → tokens_left text at ≡ []
  none_left b = none_from (length text) b

  pub one_left : t.from < length text → tokens_left text at ≡ t ∷ tokens_left text t.to
  one_left b = one_from (length text) refl b
