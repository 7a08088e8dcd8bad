-- What is proved of the parts by number: the row and the number after a token are those that the enum says.
-- Assumes nothing.
use Rattle.std.proofs.Common.{◌≡◌, ℕ, zero, suc, ◌+◌, ◌*◌, ◌≤◌, Bool, true, false, cond, ◌&&◌, eqb, leb, ltb, List, [], ◌∷◌, get_or, set, sym, refl, ap, ap₂, ◌∙◌, eqb-true, le-leb, subst, arith}
use Rattle.std.proofs.lemmas.Bool.{eqb-false, ne_eqb, lt-leb, lt-ltb, le-ltb}
use Rattle.lines.specs.declared.tokens.Token.{Token}
use Rattle.lines.specs.declared.tokens.Token.TheVariants.{Nothing as NoToken, Number, Word, Unknown}
use Rattle.lines.specs.declared.parts.Part.{Part as PartOf}
use Rattle.lines.specs.declared.parts.Part.TheVariants.{Allowance, Room, Finished, Limit, Constants, Values, Cells, Sheet, Table}
use Rattle.lines.specs.declared.parts.Routine.TheVariants.{Admit, AdmitWithin, Evaluate, Judge, Finish, Extent}
use Rattle.lines.specs.declared.parts.Next.{Next}
use Rattle.lines.specs.declared.parts.Next.TheVariants.{Nothing, Part, Routine, Wrong}
use Rattle.lines.specs.Tokens.{spelt}
use Rattle.lines.specs.Parts.{part_number, number, named, single}
use Rattle.lines.specs.Parts as Parts
use Rattle.lines.specs.Numbers.{part_of, most, begun, part_added, added, part_after, after, next_of}

-- a word's part or routine: the tests of the words in their order
found : (w1 w2 w3 w4 w5 w6 w7 w8 w9 w10 w11 w12 w13 w14 w15 : Bool) → (cond w1 1 (cond w2 2 (cond w3 3 (cond w4 4 (cond w5 5 (cond w6 6 (cond w7 7 (cond w8 8 (cond w9 9 (cond w10 10 (cond w11 11 (cond w12 12 (cond w13 13 (cond w14 14 (cond w15 15 16))))))))))))))) ≡ number ((cond w1 (Part Allowance) (cond w2 (Part Room) (cond w3 (Part Finished) (cond w4 (Part Limit) (cond w5 (Part Constants) (cond w6 (Part Values) (cond w7 (Part Cells) (cond w8 (Part Sheet) (cond w9 (Part Table) (cond w10 (Routine Admit) (cond w11 (Routine AdmitWithin) (cond w12 (Routine Evaluate) (cond w13 (Routine Judge) (cond w14 (Routine Finish) (cond w15 (Routine Extent) Wrong))))))))))))))))
found true w2 w3 w4 w5 w6 w7 w8 w9 w10 w11 w12 w13 w14 w15 = refl
found false true w3 w4 w5 w6 w7 w8 w9 w10 w11 w12 w13 w14 w15 = refl
found false false true w4 w5 w6 w7 w8 w9 w10 w11 w12 w13 w14 w15 = refl
found false false false true w5 w6 w7 w8 w9 w10 w11 w12 w13 w14 w15 = refl
found false false false false true w6 w7 w8 w9 w10 w11 w12 w13 w14 w15 = refl
found false false false false false true w7 w8 w9 w10 w11 w12 w13 w14 w15 = refl
found false false false false false false true w8 w9 w10 w11 w12 w13 w14 w15 = refl
found false false false false false false false true w9 w10 w11 w12 w13 w14 w15 = refl
found false false false false false false false false true w10 w11 w12 w13 w14 w15 = refl
found false false false false false false false false false true w11 w12 w13 w14 w15 = refl
found false false false false false false false false false false true w12 w13 w14 w15 = refl
found false false false false false false false false false false false true w13 w14 w15 = refl
found false false false false false false false false false false false false true w14 w15 = refl
found false false false false false false false false false false false false false true w15 = refl
found false false false false false false false false false false false false false false true = refl
found false false false false false false false false false false false false false false false = refl

named_number : (w : ℕ) → part_of w ≡ number (named w)
named_number w =
    found
    (eqb w (spelt "allowance"))
    (eqb w (spelt "room"))
    (eqb w (spelt "finished"))
    (eqb w (spelt "limit"))
    (eqb w (spelt "constants"))
    (eqb w (spelt "values"))
    (eqb w (spelt "cells"))
    (eqb w (spelt "sheet"))
    (eqb w (spelt "table"))
    (eqb w (spelt "admit"))
    (eqb w (spelt "admit_within"))
    (eqb w (spelt "evaluate"))
    (eqb w (spelt "judge"))
    (eqb w (spelt "finish"))
    (eqb w (spelt "extent"))

-- a place that is set twice
set_again : (l : List ℕ) (i v : ℕ) → set (set l i v) i v ≡ set l i v
set_again [] i v = refl
set_again (x ∷ l) zero v = refl
set_again (x ∷ l) (suc i) v = ap (λ (m : List ℕ). x ∷ m) (set_again l i v)

begun_by : (ns : List ℕ) (x : Next) → begun ns (number x) ≡ Parts.begun ns x
begun_by ns Nothing = set_again ns 0 0
begun_by ns (Part Allowance) = set_again ns 1 0
begun_by ns (Part Room) = set_again ns 2 0
begun_by ns (Part Finished) = set_again ns 3 0
begun_by ns (Part Limit) = set_again ns 4 0
begun_by ns (Part Constants) = set_again ns 5 0
begun_by ns (Part Values) = set_again ns 6 0
begun_by ns (Part Cells) = set_again ns 7 0
begun_by ns (Part Sheet) = set_again ns 8 0
begun_by ns (Part Table) = refl
begun_by ns (Routine Admit) = set_again ns 10 0
begun_by ns (Routine AdmitWithin) = set_again ns 11 0
begun_by ns (Routine Evaluate) = set_again ns 12 0
begun_by ns (Routine Judge) = set_again ns 13 0
begun_by ns (Routine Finish) = set_again ns 14 0
begun_by ns (Routine Extent) = set_again ns 15 0
begun_by ns Wrong = set_again ns 16 0

picked : (test : Bool) (x y : Next) → cond test (number x) (number y) ≡ number (cond test x y)
picked true x y = refl
picked false x y = refl

-- a number stands for what a line goes on with: each token does the same
pub record Stands (ns : List ℕ) (n : ℕ) (x : Next) : Type 0 where
  pub value : (t : Token) → (t ≡ NoToken → ⊥) → part_after ns n t ≡ number (Parts.part_after ns x t)
  pub row : (t : Token) → (t ≡ NoToken → ⊥) → after ns n t ≡ Parts.after ns x t

-- it does where a number more and a word do the same
stands : (ns : List ℕ) (n : ℕ) (x : Next)
    → part_added ns n ≡ number (Parts.part_added ns x)
    → ((v : ℕ) → added ns n v ≡ Parts.added ns x v)
    → ((ltb 0 n && ltb n 6) && eqb (get_or ns n 0) 0) ≡ (single x && eqb (get_or ns (number x) 0) 0)
    → Stands ns n x
stands ns n x one row missing = record { value = value; row = rows }
  where
    value : (t : Token) → (t ≡ NoToken → ⊥) → part_after ns n t ≡ number (Parts.part_after ns x t)
    value NoToken h = absurd (h refl)
    value (Number v) h = ap (λ (k : ℕ). cond (ltb v 4294967296) k 16) one ∙ picked (ltb v 4294967296) (Parts.part_added ns x) Wrong
    value (Word w) h =
        ap₂ (λ (b : Bool) (k : ℕ). cond b 16 k) missing (named_number w)
        ∙ picked (single x && eqb (get_or ns (number x) 0) 0) Wrong (named w)
    value Unknown h = refl

    rows : (t : Token) → (t ≡ NoToken → ⊥) → after ns n t ≡ Parts.after ns x t
    rows NoToken h = absurd (h refl)
    rows (Number v) h = ap (λ (l : List ℕ). cond (ltb v 4294967296) l ns) (row v)
    rows (Word w) h = ap (begun ns) (named_number w) ∙ begun_by ns (named w)
    rows Unknown h = refl

-- a number of which a part has the most and is one of those before the sixth as the part is
of_part : (ns : List ℕ) (p : PartOf) → most (part_number p) ≡ Parts.most p → (ltb 0 (part_number p) && ltb (part_number p) 6) ≡ single (Part p) → Stands ns (part_number p) (Part p)
of_part ns p m s =
    stands ns (part_number p) (Part p)
    (ap (λ (k : ℕ). cond (leb k (get_or ns (part_number p) 0)) 16 (part_number p)) m ∙ picked (leb (Parts.most p) (get_or ns (part_number p) 0)) Wrong (Part p))
    (λ v. ap (λ (k : ℕ). cond (leb k (get_or ns (part_number p) 0)) ns (set (set ns (part_number p * 64 + get_or ns (part_number p) 0) v) (part_number p) (get_or ns (part_number p) 0 + 1))) m)
    (ap (λ (b : Bool). b && eqb (get_or ns (part_number p) 0) 0) s)

-- a number that no number can follow
of_none : (ns : List ℕ) (n : ℕ) (x : Next) → most n ≡ 0 → (ltb 0 n && ltb n 6) ≡ false → single x ≡ false
    → Parts.part_added ns x ≡ Wrong → ((v : ℕ) → Parts.added ns x v ≡ ns) → Stands ns n x
of_none ns n x m s alone wrong none =
    stands ns n x
    (ap (λ (b : Bool). cond b 16 n) full ∙ sym (ap number wrong))
    (λ v. ap (λ (b : Bool). cond b ns (set (set ns (n * 64 + get_or ns n 0) v) n (get_or ns n 0 + 1))) full ∙ sym (none v))
    (ap (λ (b : Bool). b && eqb (get_or ns n 0) 0) s ∙ sym (ap (λ (b : Bool). b && eqb (get_or ns (number x) 0) 0) alone))
  where
    full : leb (most n) (get_or ns n 0) ≡ true
    full = ap (λ (k : ℕ). leb k (get_or ns n 0)) m ∙ le-leb 0 (get_or ns n 0) (omega arith)

-- a number past the last: most and the test of one number, by the bound
past : (n : ℕ) → 16 ≤ n → (most n ≡ 0) × ((ltb 0 n && ltb n 6) ≡ false)
past n h = (
  rw (ne_eqb n 9 (λ e. omega (arith, h, e)), le-leb 6 n (omega arith), lt-leb n 8 (omega arith), ne_eqb n 0 (λ e. omega (arith, h, e)), lt-ltb 9 n (omega arith)) refl,
  rw (lt-ltb 0 n (omega arith), le-ltb n 6 (omega arith)) refl,
)

-- one number more is told apart
either : (ns : List ℕ) (n k : ℕ) (x y : Next) → Stands ns k x → (suc k ≤ n → Stands ns n y) → k ≤ n → Stands ns n (cond (eqb n k) x y)
either ns n k x y here above h = go (eqb n k) refl
  where
    go : (b : Bool) → eqb n k ≡ b → Stands ns n (cond b x y)
    go true e = subst (λ (i : ℕ). Stands ns i x) (sym (eqb-true n k e)) here
    go false e = above (omega (arith, eqb-false n k e))

pub by_number : (ns : List ℕ) (n : ℕ) → Stands ns n (next_of n)
by_number ns n =
    either ns n 0 Nothing _ (of_none ns 0 Nothing refl refl refl refl (λ v. refl)) (λ h0.
    either ns n 1 (Part Allowance) _ (of_part ns Allowance refl refl) (λ h1.
    either ns n 2 (Part Room) _ (of_part ns Room refl refl) (λ h2.
    either ns n 3 (Part Finished) _ (of_part ns Finished refl refl) (λ h3.
    either ns n 4 (Part Limit) _ (of_part ns Limit refl refl) (λ h4.
    either ns n 5 (Part Constants) _ (of_part ns Constants refl refl) (λ h5.
    either ns n 6 (Part Values) _ (of_part ns Values refl refl) (λ h6.
    either ns n 7 (Part Cells) _ (of_part ns Cells refl refl) (λ h7.
    either ns n 8 (Part Sheet) _ (of_part ns Sheet refl refl) (λ h8.
    either ns n 9 (Part Table) _ (of_part ns Table refl refl) (λ h9.
    either ns n 10 (Routine Admit) _ (of_none ns 10 (Routine Admit) refl refl refl refl (λ v. refl)) (λ h10.
    either ns n 11 (Routine AdmitWithin) _ (of_none ns 11 (Routine AdmitWithin) refl refl refl refl (λ v. refl)) (λ h11.
    either ns n 12 (Routine Evaluate) _ (of_none ns 12 (Routine Evaluate) refl refl refl refl (λ v. refl)) (λ h12.
    either ns n 13 (Routine Judge) _ (of_none ns 13 (Routine Judge) refl refl refl refl (λ v. refl)) (λ h13.
    either ns n 14 (Routine Finish) _ (of_none ns 14 (Routine Finish) refl refl refl refl (λ v. refl)) (λ h14.
    either ns n 15 (Routine Extent) _ (of_none ns 15 (Routine Extent) refl refl refl refl (λ v. refl)) (λ h15.
    of_none ns n Wrong (past n h15).0 (past n h15).1 refl refl (λ v. refl)) h14) h13) h12) h11) h10) h9) h8) h7) h6) h5) h4) h3) h2) h1) h0) (omega arith)
