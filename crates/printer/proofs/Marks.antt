-- What is seen of a term beside its mark: when it loses the mark, and when its operands are moved.
-- Assumes nothing.
use mathlib.Core.Path.{◌≡◌, refl, sym, ap, ◌∙◌}
use mathlib.Core.Bool.{Bool, true, false, cond, ◌&&◌}
use Prim.Native.Nat.{ℕ}
use lib.Dec.{eqb}
use Rattle.ops.specs.Numbers.{op_of}
use Rattle.table.specs.declared.words.Term.{Term}
use Rattle.table.specs.Ranks.{slotted}
use Rattle.table.specs.Faults.{fields, is_variable}
use Rattle.printer.specs.Printed.{uses}
use Rattle.printer.specs.Sharing.{moved, without_mark}
use Rattle.printer.proofs.Operands.{moved_op, moved_sort, moved_variable}

abbrev pub bare : Term → Term
bare x = record { op = x.op; sort = x.sort; p = x.p; q = 0; r = x.r }

-- terms that are the same without their marks
module _ (x y : Term) (e : without_mark x ≡ without_mark y) where
  -- what does not look at marks sees the same
  seen : {A : Type 0} (g : Term → A) → ((z : Term) → g (bare z) ≡ g z) → g x ≡ g y
  seen g blind = sym (go x (is_variable x)) ∙ ap g e ∙ go y (is_variable y)
    where
      go : (z : Term) (b : Bool) → g (cond b (bare z) z) ≡ g z
      go z true = blind z
      go z false = refl

  -- what is no variable has no mark
  seen_whole : is_variable x ≡ false → x ≡ y
  seen_whole v = sym (plain x v) ∙ e ∙ plain y (sym (seen is_variable (λ z. refl)) ∙ v)
    where
      plain : (z : Term) → is_variable z ≡ false → without_mark z ≡ z
      plain z v = ap (λ (b : Bool). cond b (bare z) z) v

-- a moved term is a variable where it was one
pub moved-kind : (f : ℕ → ℕ) (x : Term) → is_variable (moved f x) ≡ is_variable x
moved-kind f x = ap (λ (op : ℕ). slotted (op_of op)) (moved_op (fields x) f x)

-- y is x moved by f, whatever their marks
module _ (f : ℕ → ℕ) (x y : Term) (e : without_mark y ≡ without_mark (moved f x)) where
  -- what looks at variables alone, and not at marks, sees the same
  pub shown : {A : Type 0} (g : Term → A) (other : A) → ((z : Term) → g (bare z) ≡ g z) → ((z : Term) → is_variable z ≡ false → g z ≡ other) → g y ≡ g x
  shown g other blind none = seen y (moved f x) e g blind ∙ go (is_variable x) refl
    where
      go : (v : Bool) → is_variable x ≡ v → g (moved f x) ≡ g x
      go true v = ap g (moved_variable f x v)
      go false v = none (moved f x) (moved-kind f x ∙ v) ∙ sym (none x v)

  pub same_kind : is_variable y ≡ is_variable x
  same_kind = shown is_variable false (λ z. refl) (λ z v. v)

  pub same-uses : (s : ℕ) → uses y s ≡ uses x s
  same-uses s = shown (λ z. uses z s) false (λ z. refl) (λ z v. ap (λ (b : Bool). b && eqb z.p s) v)

  pub same_sort_lem : y.sort ≡ x.sort
  same_sort_lem = seen y (moved f x) e (λ z. z.sort) (λ z. refl) ∙ moved_sort (fields x) f x

  -- what is no variable is the moved term
  pub same_whole : is_variable x ≡ false → y ≡ moved f x
  same_whole v = seen_whole y (moved f x) e (same_kind ∙ v)
