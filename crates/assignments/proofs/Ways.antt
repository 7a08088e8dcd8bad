-- Ways through a text byte by byte and token by token, and through rooms.
-- Assumes nothing.
use mathlib.Core.Path.{◌≡◌, refl, sym, ap, ◌∙◌}
use mathlib.Core.Logic.{◌≢◌}
use mathlib.Core.Bool.{Bool, true, false, cond, not, ◌&&◌, ◌||◌}
use mathlib.Core.List.{List, [], ◌∷◌}
use Prim.Native.Nat.{ℕ, zero, suc, ◌+◌, ◌-◌, ◌*◌, ◌≤◌, ◌<◌}
use native.Mathlib.Numerals.{add-one}
use native.Mathlib.Omega.{arith}
use lib.Dec.{eqb, ltb}
use lib.ListN.{length, drop, get_or, set, length-set, drop_of_length-le}
use lib.Seq.{drop-cons}
use borrow.Author.Tests.{lt-ltb, le-ltb, ne_eqb}
use Rattle.std.specs.Prelude.{Some, None}
use Rattle.cases.specs.Bytes.{digit}
use Rattle.cases.specs.Lexing.{next_value}
use Rattle.std.specs.List.{prefix_len}
use Rattle.outline.proofs.Lengths.{ahead_is}
use Rattle.outline.specs.declared.scan.Span.{Span}
use Rattle.outline.specs.Scanning.{spanned}
use Rattle.smtlib.specs.Bytes.{same_bytes}
use Rattle.assignments.specs.declared.seek.Met.{Met}
use Rattle.assignments.specs.Tokens.{word, kind_of, assigns, bracket, inside, token_at, skipped, comment_after, skipped_from, decimal_from}
use Rattle.assignments.specs.Seeking.{more, slot_at, slot_from, valued, met_after, place_from, neutral, heading, by_parts_from, value_place}
use Rattle.assignments.specs.Statements.{listed_in}
use Rattle.assignments.specs.Reading.{missing_from, value_of, values_in}

-- past white space and comments
pub skipped-most : (comment : Bool) (l : List ℕ) → skipped_from comment l ≤ length l
unfolding skipped_from
skipped-most comment [] = omega arith
skipped-most comment (b ∷ bs) = go (skipped comment b) (skipped-most (comment_after comment b) bs)
  where
    go : (t : Bool) → skipped_from (comment_after comment b) bs ≤ length bs → cond t (suc (skipped_from (comment_after comment b) bs)) 0 ≤ suc (length bs)
    go true h = omega arith
    go false h = omega arith

module _ (text : List ℕ) (i : ℕ) (comment : Bool) (h : i + skipped_from comment (drop i text) ≡ skipped_from false text) where
  pub skip_none : length text ≤ i → i ≤ length text → length text ≡ skipped_from false text
  unfolding skipped_from
  skip_none b c = let e : length text ≡ i + 0 = omega arith in e ∙ sym (ap (λ (l : List ℕ). i + skipped_from comment l) (drop_of_length-le text b)) ∙ h

  module _ (b : i < length text) where
    abbrev byte : ℕ
    byte = get_or text i 0

    here : i + cond (skipped comment byte) (suc (skipped_from (comment_after comment byte) (drop (suc i) text))) 0 ≡ skipped_from false text
    unfolding skipped_from
    here = sym (ap (λ (l : List ℕ). i + skipped_from comment l) (drop-cons text i 0 b)) ∙ h

    pub skip_found : skipped comment byte ≡ false → i ≡ skipped_from false text
    skip_found t =
        let e : i ≡ i + 0 = omega arith in
        e ∙ ap (λ (x : Bool). i + cond x (suc (skipped_from (comment_after comment byte) (drop (suc i) text))) 0) (sym t) ∙ here

    pub skip_on : skipped comment byte ≡ true → (c : Bool) → c ≡ comment_after comment byte → (i + 1) + skipped_from c (drop (i + 1) text) ≡ skipped_from false text
    skip_on t c e =
        let more : ℕ = skipped_from (comment_after comment byte) (drop (suc i) text) in
        let sum : (i + 1) + more ≡ i + suc more = omega arith in
        ap (λ (x : Bool). (i + 1) + skipped_from x (drop (i + 1) text)) e
        ∙ ap (λ (n : ℕ). (i + 1) + skipped_from (comment_after comment byte) (drop n text)) (add-one i)
        ∙ sum
        ∙ ap (λ (x : Bool). i + cond x (suc more) 0) (sym t)
        ∙ here

-- the token that begins after s bytes of white space and comments
module _ (text : List ℕ) (at s : ℕ) (e : s ≡ skipped_from false (drop at text)) where
  pub token_bracket : bracket (get_or text (at + s) 0) ≡ true → spanned (at + s) (at + s + 1) ≡ token_at text at
  unfolding token_at
  token_bracket t = rw (← e, t)

  pub token_inside : bracket (get_or text (at + s) 0) ≡ false → (n : ℕ) → n ≡ prefix_len inside (drop (at + s) text) → spanned (at + s) (at + s + n) ≡ token_at text at
  unfolding token_at
  token_inside t n f = rw (← e, t, f, ahead_is inside (drop (at + s) text))

-- the digits of a number
module _ (w : List ℕ) (v i : ℕ) (h : decimal_from v (drop i w) ≡ decimal_from 0 w) where
  pub decimal_all : length w ≤ i → Some v ≡ decimal_from 0 w
  unfolding decimal_from
  decimal_all b = sym (ap (decimal_from v) (drop_of_length-le w b)) ∙ h

  module _ (b : i < length w) where
    digit-here : cond (digit (get_or w i 0)) (decimal_from (next_value v (get_or w i 0)) (drop (i + 1) w)) None ≡ decimal_from 0 w
    unfolding decimal_from
    digit-here =
        ap (λ (n : ℕ). cond (digit (get_or w i 0)) (decimal_from (next_value v (get_or w i 0)) (drop n w)) None) (add-one i)
        ∙ sym (ap (decimal_from v) (drop-cons w i 0 b))
        ∙ h

    pub decimal_none : digit (get_or w i 0) ≡ false → None ≡ decimal_from 0 w
    decimal_none t = ap (λ (x : Bool). cond x (decimal_from (next_value v (get_or w i 0)) (drop (i + 1) w)) None) (sym t) ∙ digit-here

    pub decimal_on : digit (get_or w i 0) ≡ true → (n : ℕ) → n ≡ next_value v (get_or w i 0) → decimal_from n (drop (i + 1) w) ≡ decimal_from 0 w
    decimal_on t n e =
        ap (λ (x : ℕ). decimal_from x (drop (i + 1) w)) e
        ∙ ap (λ (x : Bool). cond x (decimal_from (next_value v (get_or w i 0)) (drop (i + 1) w)) None) (sym t)
        ∙ digit-here

-- back over the cells of a room
module _ (cells : List ℕ) (slot index : ℕ) where
  abbrev hit : ℕ → Bool
  hit n = eqb (get_or cells (3 * n) 0) slot && eqb (get_or cells (3 * n + 1) 0) index

  turn : (n : ℕ) → 0 < n → listed_in cells n slot index ≡ (hit (n - 1) || listed_in cells (n - 1) slot index)
  unfolding listed_in
  turn zero b = absurd (omega arith)
  turn (suc n) b = let z : suc n - 1 ≡ n = omega arith in ap (λ (k : ℕ). hit k || listed_in cells k slot index) (sym z)

  module _ (count n : ℕ) (h : listed_in cells n slot index ≡ listed_in cells count slot index) where
    pub listed_none : n ≡ 0 → false ≡ listed_in cells count slot index
    unfolding listed_in
    listed_none z = sym (ap (λ (k : ℕ). listed_in cells k slot index) z) ∙ h

    module _ (b : 0 < n) (x y : ℕ) (p : x ≡ get_or cells (3 * (n - 1)) 0) (q : y ≡ get_or cells (3 * (n - 1) + 1) 0) where
      told : (eqb x slot && eqb y index) ≡ hit (n - 1)
      told = ap (λ (k : ℕ). eqb k slot && eqb y index) p ∙ ap (λ (k : ℕ). eqb (get_or cells (3 * (n - 1)) 0) slot && eqb k index) q

      pub listed_found : (eqb x slot && eqb y index) ≡ true → true ≡ listed_in cells count slot index
      listed_found t = sym (turn n b ∙ ap (λ (k : Bool). k || listed_in cells (n - 1) slot index) (sym told ∙ t)) ∙ h

      pub listed_on : (eqb x slot && eqb y index) ≡ false → listed_in cells (n - 1) slot index ≡ listed_in cells count slot index
      listed_on t = sym (turn n b ∙ ap (λ (k : Bool). k || listed_in cells (n - 1) slot index) (sym told ∙ t)) ∙ h

-- the names that have values
pub record Sought (names text : List ℕ) (count k : ℕ) : Type 0 where
  pub within : k ≤ count
  pub is : missing_from names text (count - k) k ≡ missing_from names text count 0

module _ (names text : List ℕ) (count : ℕ) where
  pub sought_none : Sought names text count 0
  sought_none = let z : count - 0 ≡ count = omega arith in record { within = omega arith; is = ap (λ (n : ℕ). missing_from names text n 0) z }

  module _ (k : ℕ) (h : Sought names text count k) where
    pub sought_all : count ≤ k → None ≡ missing_from names text count 0
    unfolding missing_from
    sought_all b = let z : count - k ≡ 0 = omega arith in ap (λ (n : ℕ). missing_from names text n k) (sym z) ∙ h.is

    module _ (b : k < count) (place : ℕ) (p : place ≡ value_place names text k) where
      seek_here : cond (ltb place (length text)) (missing_from names text (count - (k + 1)) (k + 1)) (Some k) ≡ missing_from names text count 0
      unfolding missing_from
      seek_here =
          let e : count - k ≡ suc (count - (k + 1)) = omega arith in
          ap (λ (n : ℕ). cond (ltb n (length text)) (missing_from names text (count - (k + 1)) (k + 1)) (Some k)) p
          ∙ sym (ap (λ (n : ℕ). missing_from names text n k) e)
          ∙ h.is

      pub sought_found : length text ≤ place → Some k ≡ missing_from names text count 0
      sought_found t = rw (le-ltb place (length text) t) at seek_here

      pub sought_on : place < length text → Sought names text count (k + 1)
      sought_on t = record { within = omega arith; is = rw (lt-ltb place (length text) t) at seek_here }

pub values_length : (names text : List ℕ) (n : ℕ) (room : List ℕ) → length (values_in names text n room) ≡ length room
unfolding values_in
values_length names text zero room = refl
values_length names text (suc n) room = length-set (values_in names text n room) n (value_of names text n) ∙ values_length names text n room

-- the values of the first k names
pub record Filled (names text : List ℕ) (count : ℕ) (room : List ℕ) (values : List ℕ) (k : ℕ) : Type 0 where
  pub within : k ≤ count
  pub is : values ≡ values_in names text k room

module _ (names text : List ℕ) (count : ℕ) (room : List ℕ) where
  pub none_filled : Filled names text count room room 0
  unfolding values_in
  none_filled = record { within = omega arith; is = refl }

  module _ (values : List ℕ) (k : ℕ) (h : Filled names text count room values k) where
    pub all_filled : count ≤ k → values ≡ values_in names text count room
    all_filled b = let e : k ≡ count = let w : k ≤ count = h.within in omega arith in h.is ∙ ap (λ (n : ℕ). values_in names text n room) e

    pub one_filled : k < count → (v : ℕ) → v ≡ value_of names text k → (after : List ℕ) → after ≡ set values k v → Filled names text count room after (k + 1)
    unfolding values_in
    one_filled b v f after e =
        record {
          within = omega arith;
          is =
              e ∙ ap (λ (l : List ℕ). set l k v) h.is ∙ ap (set (values_in names text k room) k) f
              ∙ ap (λ (n : ℕ). values_in names text n room) (sym (add-one k));
        }

-- the tokens that are left: the place of a value
module _ (text sought : List ℕ) (equals : Bool) (k : ℕ) (met : Met) (left : List Span) where
  pub place_none : left ≡ [] → length text ≡ place_from text sought equals k met left
  unfolding place_from
  place_none e = rw e

  module _ (t : Span) (others : List Span) (is : left ≡ t ∷ others) where
    pub place_here : valued equals met (word text t) ≡ true → k ≡ 0 → t.from ≡ place_from text sought equals k met left
    unfolding place_from
    place_here v z = rw (is, v, z)

    pub place_next : valued equals met (word text t) ≡ true → k ≢ 0 → place_from text sought equals (k - 1) (met_after sought met (word text t)) others ≡ place_from text sought equals k met left
    unfolding place_from
    place_next v z = rw (is, v, ne_eqb k 0 z)

    pub place_on : valued equals met (word text t) ≡ false → place_from text sought equals k (met_after sought met (word text t)) others ≡ place_from text sought equals k met left
    unfolding place_from
    place_on v = rw (is, v)

-- whether they are in parts
module _ (text : List ℕ) (left : List Span) where
  pub parts_none : (found : Bool) → left ≡ [] → found ≡ by_parts_from text found left
  unfolding by_parts_from
  parts_none found e = rw e

  module _ (t : Span) (others : List Span) (is : left ≡ t ∷ others) where
    pub parts_found : not (assigns (kind_of (word text t))) ≡ by_parts_from text true left
    unfolding by_parts_from
    parts_found = rw is

    pub parts_stop : neutral (word text t) ≡ false → heading (word text t) ≡ false → false ≡ by_parts_from text false left
    unfolding by_parts_from
    parts_stop n h = rw (is, n, h)

    pub parts_on : (neutral (word text t) || heading (word text t)) ≡ true → by_parts_from text (not (neutral (word text t))) others ≡ by_parts_from text false left
    unfolding by_parts_from
    parts_on n = rw (is, n)

-- the names that are left
module _ (w : List ℕ) (k : ℕ) (left : List (List ℕ)) where
  pub slot_none : left ≡ [] → None ≡ slot_from left w k
  unfolding slot_from
  slot_none e = rw e

  module _ (name : List ℕ) (others : List (List ℕ)) (is : left ≡ name ∷ others) where
    pub slot_here : same_bytes name w ≡ true → slot_at k ≡ slot_from left w k
    unfolding slot_from
    slot_here e = rw (is, e)

    pub slot_later : same_bytes name w ≡ false → slot_from others w (more k) ≡ slot_from left w k
    unfolding slot_from
    slot_later e = rw (is, e)
