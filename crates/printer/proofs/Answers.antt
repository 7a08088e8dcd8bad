-- What printing answers and promises, case by case.
-- Assumes nothing.
use Rattle.std.specs.Prelude.{Ok, Err}
use mathlib.Core.Path.{◌≡◌, refl, sym, ap, subst, ◌∙◌}
use mathlib.Core.Bool.{Bool, true, false, cond}
use mathlib.Core.List.{List, ◌++◌}
use Prim.Native.Nat.{ℕ, ◌+◌, ◌*◌, ◌≤◌, ◌<◌}
use native.Mathlib.Omega.{arith}
use lib.Dec.{ltb}
use mathlib.Core.Logic.{◌⊎◌, inl, inr}
use lib.ListN.{length, take, drop}
use lib.Seq.{take-append_seam}
use borrow.Author.Tests.{lt-ltb, le-ltb}
use Rattle.smtlib.specs.Writing.{limit}
use Rattle.table.specs.Terms.{terms}
use Rattle.table.specs.Admission.{and_then}
use Rattle.table.proofs.Refusals.{admission_by}
use Rattle.table.specs.WellFormed.{WellFormed}
use Rattle.printer.specs.Printing.{Printing}
use Rattle.printer.specs.Scripts.{Script, SoundCommands, script_text}
use Rattle.printer.specs.Printed.{script, text}
use Rattle.printer.specs.Printing.{fitting, room_after, print_numbers, NotPrintedBy, PrintingNumbers}
use Rattle.printer.specs.Meaning.{meaning, Question, PrintingPromise}
use Rattle.printer.proofs.Readings.{one_reading}
use Rattle.printer.proofs.SoundScripts.{script-sound}
use Rattle.printer.proofs.Meanings.{script_means_rule}
use Rattle.printer.proofs.Taking.{script-taken}
use Rattle.printer.proofs.Sizes.{text_bounded}

module _ (needed room : ℕ) where
  answer : Bool → Printing
  answer b = cond b (Err (record { number = 24; place = needed })) (Ok needed)

  pub too_short : (n : ℕ) → n ≡ needed → room < n → Err (record { number = 24; place = n }) ≡ fitting needed room
  unfolding answer
  too_short n is h = ap (λ (k : ℕ). Err (record { number = 24; place = k })) is ∙ ap answer (sym (lt-ltb room needed (rw is at h)))

  pub long-enough : (n : ℕ) → n ≡ needed → n ≤ room → Ok n ≡ fitting needed room
  unfolding answer
  long-enough n is h = ap Ok is ∙ ap answer (sym (le-ltb room needed (rw is at h)))

  -- a count that is answered is the count needed
  pub is-needed : (n : ℕ) → Ok n ≡ fitting needed room → n ≡ needed
  unfolding answer
  is-needed n e = go (ltb room needed) e
    where
      go : (b : Bool) → Ok n ≡ answer b → n ≡ needed
      go true e = cc
      go false e = cc

-- the room after both ways: the text written where it fits, else as it was
pub left_so : (t room after : List ℕ) (r : Printing) → r ≡ fitting (length (text t)) (length room)
    → ((length (text t) ≤ length room) × (after ≡ text t ++ drop (length (text t)) room)) ⊎ ((length room < length (text t)) × (after ≡ room))
    → after ≡ room_after r t room
left_so t room after r e (inl h) = h.1 ∙ ap (λ (x : Printing). room_after x t room) (sym (e ∙ sym (long-enough (length (text t)) (length room) (length (text t)) refl h.0)))
left_so t room after r e (inr h) = h.1 ∙ ap (λ (x : Printing). room_after x t room) (sym (e ∙ sym (too_short (length (text t)) (length room) (length (text t)) refl h.0)))

-- what a printed text promises, the room being as it was left
pub promised : (t room : List ℕ) → Question t (text t) → (r : Printing) → r ≡ fitting (length (text t)) (length room) → PrintingPromise t (room_after r t room) r
promised t room q (Ok n) e = subst (Question t) (sym (ap (λ (k : ℕ). take k (text t ++ drop (length (text t)) room)) (is-needed (length (text t)) (length room) n e) ∙ take-append_seam (text t) (drop (length (text t)) room))) q
promised t room q (Err r) e = tt

-- a text is shorter than the limit of places
pub below-limit : (t : List ℕ) → WellFormed 80000 t → length (text t) ≤ limit
below-limit t ok = omega (arith, text_bounded t ok, ok.few)

-- The asserted value is the rule's, of every script that has the text.
pub question : (t : List ℕ) → WellFormed 80000 t → length (text t) ≤ 14639 + 88 * terms t → Question t (text t)
question t w few =
    let sound = script-sound 80000 t w in
    let reading : (s : Script) → SoundCommands s.commands → script_text s ≡ text t → s ≡ script t = λ s h e. one_reading s (script t) h sound e in
    record {
      sound = sound;
      taken = script-taken 80000 t w;
      reading = reading;
      means = λ s h e I. ap (meaning I) (reading s h e) ∙ script_means_rule 80000 t w I;
      few = few;
    }

-- the questions of well-formed tables
pub asked : (t : List ℕ) → WellFormed 80000 t → Question t (text t)
asked t ok = question t ok (text_bounded t ok)

pub printing-numbers : PrintingNumbers
printing-numbers t room =
    admission_by (λ a. NotPrintedBy print_numbers (and_then Err a (fitting (length (text t)) room)))
    (go (ltb room (length (text t)))) (λ number place e. rw e) 80000 t
  where
    go : (b : Bool) → NotPrintedBy print_numbers (cond b (Err (record { number = 24; place = length (text t) })) (Ok (length (text t))))
    go true = refl
    go false = tt
