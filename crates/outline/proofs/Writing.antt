-- Writing lines into a room.
-- Assumes nothing.
use mathlib.Core.Path.{◌≡◌, refl, sym, ap, ◌∙◌}
use mathlib.Core.List.{List, [], ◌∷◌, ◌++◌, append_assoc, append-nil}
use mathlib.Core.Bool.{Bool, cond}
use Prim.Native.Nat.{ℕ, suc, ◌+◌, ◌-◌, ◌≤◌, ◌<◌}
use native.Mathlib.Numerals.{add-one}
use native.Mathlib.Omega.{arith}
use lib.ListN.{length, get_or, take, drop, set, length-append, length-drop, take-append-drop}
use lib.Dec.{leb}
use lib.Seq.{length-take-le, drop-cons, set_at, take-append_seam, drop-append-add, drop-drop}
use borrow.Rule.Slice.PartMut.{put_mid}
use Rattle.std.proofs.lemmas.Slice.{take-put_mid, drop-put_mid}
use borrow.Author.Tests.{le-leb, lt-leb}
use Rattle.outline.specs.NameLines.{name_line, lines_from, names_in}

front_more : (front room : List ℕ) (i v : ℕ) → length front ≡ i → i < length room → set (front ++ drop i room) i v ≡ (front ++ (v ∷ [])) ++ drop (i + 1) room
front_more front room i v e h = rw (drop-cons room i 0 h, set_at front (get_or room i 0) (drop (suc i) room) v i e, append_assoc, add-one)

front_length : (front room : List ℕ) (i : ℕ) → length front ≡ i → i ≤ length room → length (front ++ drop i room) ≡ length room
front_length front room i e h = rw (length-append, e, length-drop) (omega arith)

-- a name is written at a place, and a byte after it
pub line_put : (name room : List ℕ) (at k v : ℕ) → k ≡ length name → at + length name < length room
    → set (put_mid at k room name) (at + length name) v ≡ (take at room ++ (name ++ (v ∷ []))) ++ drop (at + length name + 1) room
line_put name room at k v e h =
    let n : ℕ = at + length name in
    let size : length (take at room ++ name) ≡ n = rw (length-append, length-take-le at room (omega arith)) in
    let w : put_mid at k room name ≡ (take at room ++ name) ++ drop n room =
    sym (take-append-drop n (put_mid at k room name))
    ∙ rw (take-put_mid at k room name n refl (omega arith), drop-put_mid at k room name n (omega arith) (omega arith) (sym e)) in
    rw w (front_more (take at room ++ name) room n v size h) ∙ ap (λ (l : List ℕ). l ++ drop (n + 1) room) (append_assoc (take at room) name (v ∷ []))

-- The lines of the first k names stand in front

pub record Filled (text begin : List ℕ) (names : ℕ) (room : List ℕ) (at k : ℕ) : Type 0 where
  pub within : k ≤ names
  pub done : List ℕ
  pub size : length done ≡ at
  pub fits : at ≤ length begin
  pub is : room ≡ done ++ drop at begin
  pub whole : done ++ lines_from text k (names - k) (length begin - at) ≡ names_in text names (length begin)

pub none_filled : (text begin : List ℕ) (names : ℕ) → Filled text begin names begin 0 0
none_filled text begin names =
    let z : names - 0 ≡ names = omega arith in
    let y : length begin - 0 ≡ length begin = omega arith in
    record {
      within = omega arith;
      done = [];
      size = refl;
      fits = omega arith;
      is = refl;
      whole = ap (λ (n : ℕ). lines_from text 0 n (length begin - 0)) z ∙ ap (lines_from text 0 names) y;
    }

pub record Answered (text begin : List ℕ) (names : ℕ) (room : List ℕ) (at : ℕ) : Type 0 where
  pub count : at ≡ length (names_in text names (length begin))
  pub room_is : room ≡ names_in text names (length begin) ++ drop at begin

module _ (text begin : List ℕ) (names : ℕ) (room : List ℕ) (at k : ℕ) (h : Filled text begin names room at k) where
  pub filled_length : length room ≡ length begin
  filled_length = ap length h.is ∙ front_length h.done begin at h.size h.fits

  answered : lines_from text k (names - k) (length begin - at) ≡ [] → Answered text begin names room at
  answered e =
      let all : h.done ≡ names_in text names (length begin) = sym (ap (λ (l : List ℕ). h.done ++ l) e ∙ append-nil h.done) ∙ h.whole in
      record { count = sym h.size ∙ ap length all; room_is = h.is ∙ ap (λ (l : List ℕ). l ++ drop at begin) all }

  pub filled_all : names ≤ k → Answered text begin names room at
  unfolding lines_from
  filled_all b = let z : names - k ≡ 0 = omega arith in answered (ap (λ (n : ℕ). lines_from text k n (length begin - at)) z)

  module _ (low : k < names) (name : List ℕ) (is : name ++ (10 ∷ []) ≡ name_line text k) where
    long : length (name_line text k) ≡ length name + 1
    long = ap length (sym is) ∙ length-append name (10 ∷ [])

    later : List ℕ
    later = lines_from text (suc k) (names - (k + 1)) (length begin - at - length (name_line text k))

    turn : lines_from text k (names - k) (length begin - at) ≡ cond (leb (length (name_line text k)) (length begin - at)) (name_line text k ++ later) []
    unfolding lines_from later
    turn = let e : names - k ≡ suc (names - (k + 1)) = omega arith in ap (λ (n : ℕ). lines_from text k n (length begin - at)) e

    pub filled_stop : length begin - at ≤ length name → Answered text begin names room at
    filled_stop b = answered (turn ∙ ap (λ (x : Bool). cond x (name_line text k ++ later) []) (lt-leb (length (name_line text k)) (length begin - at) (omega (arith, long))))

    pub filled_more : length name < length begin - at → (after : List ℕ) → after ≡ (take at room ++ (name ++ (10 ∷ []))) ++ drop (at + length name + 1) room
        → Filled text begin names after (at + length name + 1) (k + 1)
    unfolding later
    filled_more b after e =
        let line : List ℕ = name_line text k in
        let m : ℕ = length name in
        let front : take at room ≡ h.done = ap (take at) h.is ∙ ap (λ (n : ℕ). take n (h.done ++ drop at begin)) (sym h.size) ∙ take-append_seam h.done (drop at begin) in
        let sum : at + m + 1 ≡ length h.done + (m + 1) = omega (arith, h.size) in
        let back : at + (m + 1) ≡ at + m + 1 = omega arith in
        let left : drop (at + m + 1) room ≡ drop (at + m + 1) begin =
        ap (drop (at + m + 1)) h.is ∙ ap (λ (n : ℕ). drop n (h.done ++ drop at begin)) sum ∙ drop-append-add h.done (drop at begin) (m + 1)
        ∙ drop-drop (m + 1) at begin ∙ ap (λ (n : ℕ). drop n begin) back
        in
        let less : length begin - (at + m + 1) ≡ length begin - at - length line = omega (arith, long) in
        record {
          within = omega arith;
          done = h.done ++ line;
          size = length-append h.done line ∙ omega (arith, h.size, long);
          fits = omega (arith, h.fits);
          is =
              e ∙ ap (λ (l : List ℕ). (l ++ (name ++ (10 ∷ []))) ++ drop (at + m + 1) room) front
              ∙ ap (λ (l : List ℕ). (h.done ++ l) ++ drop (at + m + 1) room) is
              ∙ ap (λ (l : List ℕ). (h.done ++ line) ++ l) left;
          whole =
              append_assoc h.done line (lines_from text (k + 1) (names - (k + 1)) (length begin - (at + m + 1)))
              ∙ ap (λ (n : ℕ). h.done ++ (line ++ lines_from text n (names - (k + 1)) (length begin - (at + m + 1)))) (add-one k)
              ∙ ap (λ (n : ℕ). h.done ++ (line ++ lines_from text (suc k) (names - (k + 1)) n)) less
              ∙ ap (λ (l : List ℕ). h.done ++ l) (sym (turn ∙ ap (λ (x : Bool). cond x (line ++ later) []) (le-leb (length line) (length begin - at) (omega (arith, long)))))
              ∙ h.whole;
        }
