-- Texts of the same words are answered the same; so white space changes neither table nor number.
-- Assumes nothing.
use mathlib.Core.Path.{◌≡◌, refl, sym, ap, ◌∙◌}
use mathlib.Core.Bool.{Bool, true, false, cond}
use mathlib.Core.List.{List, ◌∷◌, ◌++◌}
use Prim.Native.Nat.{ℕ, ◌≤◌}
use native.Mathlib.Omega.{arith}
use lib.Dec.{eqb, ltb}
use lib.ListN.{length, length-append, drop}
use borrow.Author.Tests.{eq-eqb, ne_eqb, eqb-true, eqb-false, ltb-false}
use Rattle.parser.specs.Parsing.{Parsing}
use Rattle.std.specs.Prelude.{Ok, Err}
use Rattle.parser.specs.Expressions.{fault_in, number}
use Rattle.parser.specs.Rules.{rule_of}
use Rattle.parser.specs.Parsing.{not_parsed, built, tabled, parsing, room_after}
use Rattle.parser.specs.Trees.{rule_terms}
use Rattle.parser.specs.Laws.{Storable}
use Rattle.parser.proofs.Sound.{sound}
use Rattle.parser.proofs.Complete.{complete}
use Rattle.prefixes.specs.Spelling.{SameWords}
use Rattle.prefixes.specs.Laws.{SameWordsAnswered, WhiteSpaceAnswered}
use Rattle.prefixes.proofs.Carrying.{same-reading}
use Rattle.prefixes.proofs.Alike.{same-words-refused}
use Rattle.prefixes.proofs.Chunks.{white_space}
use Rattle.prefixes.proofs.Counting.{terms-counted}

abbrev fault_of : List ℕ → ℕ
fault_of text = (fault_in (rule_of text).progress.state)

abbrev count_of : List ℕ → ℕ
count_of text = (rule_of text).progress.state.count

-- as many terms, and the same table where there is room for them
record Tables (a b : List ℕ) : Type 0 where
  count : count_of a ≡ count_of b
  table : ltb 512 (count_of a) ≡ false → built a ≡ built b

tables : (a b : List ℕ) → Storable a → Storable b → SameWords a b → fault_of a ≡ 0 → Tables a b
tables a b small little same f =
    let x = sound a small f in
    let r = x.rule in
    let d = same-reading a b same r x.reads in
    let i = terms-counted a r small x.reads x.met in
    let j = terms-counted b r little d x.met in
    record {
      count = i ∙ sym j;
      table =
          λ e. let n = few (length (rule_terms r)) (omega (arith, ltb-false 512 (count_of a) e, i)) in
          (complete a r small x.reads x.met).table n ∙ sym ((complete b r little d x.met).table n);
    }
  where
    few : (n : ℕ) → number n ≤ 512 → n ≤ 512
    few n h = go (ltb n 513) refl h
      where
        go : (t : Bool) → ltb n 513 ≡ t → cond t n 513 ≤ 512 → n ≤ 512
        go true e i = i
        go false e i = absurd (omega arith)

-- the room, by the answer
same_room : (a b : List ℕ) → built a ≡ built b → (p : Parsing) (l : List ℕ) → room_after p a l ≡ room_after p b l
same_room a b e (Ok n) l = ap (λ (t : List ℕ). t ++ drop n l) e
same_room a b e (Err r) l = refl

module _ (a b : List ℕ) (f : fault_of a ≡ 0) (g : fault_of b ≡ 0) (t : Tables a b) where
  read : (text : List ℕ) → fault_of text ≡ 0 → (room : ℕ) → parsing text room ≡ tabled (built text) (count_of text) room
  read text e room = rw (eq-eqb _ _ e)

  many : (text : List ℕ) → fault_of text ≡ 0 → ltb 512 (count_of text) ≡ true → (room : ℕ) → parsing text room ≡ not_parsed 2 0
  many text e d room = read text e room ∙ rw d

  same-parsing : (room : ℕ) → parsing a room ≡ parsing b room
  same-parsing room = read a f room ∙ go (ltb 512 (count_of a)) refl ∙ sym (read b g room)
    where
      go : (x : Bool) → ltb 512 (count_of a) ≡ x → tabled (built a) (count_of a) room ≡ tabled (built b) (count_of b) room
      go true e = let d : ltb 512 (count_of b) ≡ true = ap (ltb 512) (sym t.count) ∙ e in rw (e, d)
      go false e = ap (λ (l : List ℕ). tabled l (count_of a) room) (t.table e) ∙ ap (λ (n : ℕ). tabled (built b) n room) t.count

  same_left : (l : List ℕ) → room_after (parsing a (length l)) a l ≡ room_after (parsing b (length l)) b l
  same_left l = go (ltb 512 (count_of a)) refl
    where
      go : (x : Bool) → ltb 512 (count_of a) ≡ x → room_after (parsing a (length l)) a l ≡ room_after (parsing b (length l)) b l
      go true e =
          let d : ltb 512 (count_of b) ≡ true = ap (ltb 512) (sym t.count) ∙ e in
          ap (λ (p : Parsing). room_after p a l) (many a f e (length l)) ∙ sym (ap (λ (p : Parsing). room_after p b l) (many b g d (length l)))
      go false e = ap (λ (p : Parsing). room_after p a l) (same-parsing (length l)) ∙ same_room a b (t.table e) (parsing b (length l)) l

pub same-words-answered : SameWordsAnswered
same-words-answered a b small little same =
    let r = same-words-refused a b small little same in
    record {
      refusal = r;
      answer = λ f. same-parsing a b f (sym r.number ∙ f) (tables a b small little same f);
      room = λ l. go l (eqb (fault_of a) 0) refl r.number;
    }
  where
    refused : (text : List ℕ) (l : List ℕ) → (fault_of text ≡ 0 → ⊥) → room_after (parsing text (length l)) text l ≡ l
    refused text l n = rw (ne_eqb _ _ n)

    go : (l : List ℕ) (x : Bool) → eqb (fault_of a) 0 ≡ x → fault_of a ≡ fault_of b
        → room_after (parsing a (length l)) a l ≡ room_after (parsing b (length l)) b l
    go l true e n = let f = eqb-true _ _ e in same_left a b f (sym n ∙ f) (tables a b small little same f) l
    go l false e n = let f = eqb-false _ _ e in refused a l f ∙ sym (refused b l (λ z. f (n ∙ z)))

pub white_space_answered : WhiteSpaceAnswered
white_space_answered u v c small e h =
    same-words-answered (u ++ v) (u ++ (c ∷ v)) (omega (arith, length-append u v, length-append u (c ∷ v))) small (white_space u v c e h)
