-- What finishing leaves at a room's front.
-- Assumes nothing.
use Rattle.std.specs.Prelude.{Ok, Err}
use Rattle.std.proofs.Common.{◌≡◌, ℕ, ◌*◌, ◌≤◌, Bool, true, false, cond, ltb, List, ◌++◌, length, take, drop, sym, refl, ap, ◌∙◌, ltb-false}
use lib.Seq.{take-append_seam}
use Rattle.table.specs.Answers.{Acceptance, accepted}
use Rattle.table.specs.Terms.{words, terms}
use Rattle.table.specs.Admission.{and_then, admission}
use Rattle.table.proofs.Admitted.{admission-sound}
use Rattle.finish.specs.declared.Extent.{Extent}
use Rattle.ops.proofs.Booleans.{never}
use Rattle.finish.specs.Finished.{Finishing}
use Rattle.finish.specs.Finished.{finished, extent, finishing, not_finished, room_after}
use Rattle.finish.proofs.Promises.{finished_admitted}

-- a table is finished
abbrev done : Finishing → Bool
done (Ok e) = true
done (Err r) = false

pub record Front (w left : List ℕ) (e : Extent) : Type 0 where
  pub long : e.terms * words ≤ length left
  pub holds : take (e.terms * words) left ≡ finished w

-- where a table is finished, the room that is left is long enough, and its front of so many terms is the finished table
pub front : (w room left : List ℕ) (r : Finishing) (e : Extent) → r ≡ finishing w (length room) → left ≡ room_after r w room → length left ≡ length room
    → r ≡ Ok e → Front w left e
front w room left r e is after kept h = go (admission w) refl (ltb (length room) (terms (finished w) * words)) refl (sym h ∙ is)
  where
    go : (a : Acceptance) → admission w ≡ a → (b : Bool) → ltb (length room) (terms (finished w) * words) ≡ b
        → Ok e ≡ and_then Err a (cond b (not_finished 21 (terms (finished w))) (Ok (extent w))) → Front w left e
    go (Ok _) p true q h = never (sym (ap done h))
    go (Ok _) p false q g =
        let same : e ≡ extent w = (cc) in
        let whole : length (finished w) ≡ terms (finished w) * words = (finished_admitted w (admission-sound 512 w p)).whole in
        let count : e.terms * words ≡ length (finished w) = ap (λ (x : Extent). x.terms * words) same ∙ sym whole in
        let low : terms (finished w) * words ≤ length room = ltb-false (length room) (terms (finished w) * words) q in
        let all : left ≡ finished w ++ drop (length (finished w)) room = after ∙ ap (λ (x : Finishing). room_after x w room) h in
        record {
          long = rw (count, kept, whole) low;
          holds = ap (λ (k : ℕ). take k left) count ∙ ap (take (length (finished w))) all ∙ take-append_seam (finished w) (drop (length (finished w)) room);
        }
    go (Err r) p b q h = never (sym (ap done h))
