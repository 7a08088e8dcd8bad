-- Wherever words that are expected lead, a sentence can be finished; so 31 is the grammar's.
-- Assumes nothing.
use Rattle.std.specs.Prelude.{None}
use mathlib.Core.Path.{◌≡◌, refl, sym, ap, ◌∙◌, subst}
use mathlib.Core.Bool.{Bool, true, false, cond, not}
use mathlib.Core.List.{List, [], ◌∷◌, ◌++◌, append_assoc}
use Prim.Native.Nat.{ℕ, zero, suc, ◌<◌, ◌≤◌}
use native.Mathlib.Omega.{arith}
use lib.Dec.{eqb}
use lib.ListN.{length}
use borrow.Author.Tests.{eq-eqb}
use Rattle.smtlib.specs.Bytes.{part}
use Rattle.smtlib.proofs.Cuts.{and_left, and_right}
use Rattle.parser.specs.declared.words.Word.{Word}
use Rattle.parser.specs.declared.words.Word.TheVariants.{Operator, Literal, Width, Name, End}
use Rattle.parser.specs.Words.{token_at}
use Rattle.parser.specs.Rules.{code_of}
use Rattle.parser.proofs.Choices.{by_test}
use Rattle.parser.proofs.Accepts.{never}
use Rattle.parser.proofs.Wanted.{word_by, coded}
use Rattle.prefixes.specs.Spelling.{Spelt, is_end, spelt_at, spelt_from}
use Rattle.prefixes.specs.Prefixes.{Want, Role, Level, Place, Spot, start_spot, on_to, vector_then, counted, role_of, after_operand, after_operator, place_after, asserted_after, expected_at, after, unexpected}
use Rattle.prefixes.specs.Prefixes.Want.{the, width}
use Rattle.prefixes.specs.Prefixes.Role.{opens, closes, constant, named, operates, other}
use Rattle.prefixes.specs.Prefixes.Place.{commands, command, naming, sorting, sort_opened, wanting, operand, operator}
use Rattle.prefixes.specs.Sentences.{Sentence}
use Rattle.prefixes.specs.Laws.{words_of, spot_from, expected_from, Begins, Unexpected}
use Rattle.prefixes.proofs.Spellings.{is_end_lem, onto, words_are}
use Rattle.prefixes.proofs.Following.{not_end}
use Rattle.prefixes.proofs.Commanding.{twice}
use Rattle.prefixes.proofs.Carrying.{front, back}
use Rattle.prefixes.proofs.Chunks.{Reaches, reaches}
use Rattle.prefixes.proofs.Chunks.Reaches.{splits, last}
use Rattle.prefixes.proofs.Spacing.{Written, coded_text, a_width, a_constant, a_name, an_operator, Spells, text_of}
use Rattle.prefixes.proofs.Spacing.Spells.{only_end, and_written}
use Rattle.prefixes.proofs.Reading.{sentences-read}
use Rattle.prefixes.proofs.Accepting.{is_none, accepts, sentence_accepted}
use Rattle.prefixes.proofs.Deriving.{Told, AllTold, sentence_of}
use Rattle.prefixes.proofs.Deriving.AllTold.{no_word, and_word}

-- words to finish a sentence with
record Finishes (p : Place) (b : Bool) : Type 0 where
  words : List Word
  on : accepts p b words ≡ true
  told : AllTold words
  spells : Spells words

coded_word : (code : ℕ) → suc code < 10 → code_of (word_by (suc code)) ≡ suc code
coded_word zero h = refl
coded_word (suc zero) h = refl
coded_word (suc (suc zero)) h = refl
coded_word (suc (suc (suc zero))) h = refl
coded_word (suc (suc (suc (suc zero)))) h = refl
coded_word (suc (suc (suc (suc (suc zero))))) h = refl
coded_word (suc (suc (suc (suc (suc (suc zero)))))) h = refl
coded_word (suc (suc (suc (suc (suc (suc (suc zero))))))) h = refl
coded_word (suc (suc (suc (suc (suc (suc (suc (suc zero)))))))) h = refl
coded_word (suc (suc (suc (suc (suc (suc (suc (suc (suc n))))))))) h = absurd (omega arith)

told-word : (code : ℕ) → suc code < 10 → Told (word_by (suc code))
told-word code h = record { is = λ c e. ap word_by (sym (coded_word code h) ∙ e) }

-- one word more in front
in_front : {p : Place} {b : Bool} (w : Word) → Written w → expected_at p b w ≡ true → is_end w ≡ false → Told w
    → Finishes (place_after p w) (asserted_after p b w) → Finishes p b
unfolding accepts
in_front w x e f t r = record { words = w ∷ r.words; on = rw (e, f) r.on; told = and_word t r.told; spells = and_written x r.spells }

-- the words of a code, and those of none
plain : (code : ℕ) → suc code < 10 → {p : Place} {b : Bool} → expected_at p b (word_by (suc code)) ≡ true
    → Finishes (place_after p (word_by (suc code))) (asserted_after p b (word_by (suc code))) → Finishes p b
plain code h e r =
    in_front (word_by (suc code)) (coded_text code h) e (not_end (word_by (suc code)) (suc code) (coded_word code h) h) (told-word code h) r

the_end : (b : Bool) → Finishes (wanting (the 10) []) b
unfolding accepts
the_end b = record { words = End ∷ []; on = refl; told = and_word (record { is = λ c e. ap word_by e }) no_word; spells = only_end }

at_command : (b : Bool) → Finishes command b
at_command b = plain 4 (omega arith) refl (plain 1 (omega arith) refl (the_end b))

at_commands : (b : Bool) → Finishes commands b
at_commands b = plain 0 (omega arith) refl (at_command b)

-- the rows of words that can be finished
data Good : List Want → Type 0 where
  all : Good []
  ending : Good (the 10 ∷ [])
  and_the : {xs : List Want} (code : ℕ) → suc code < 10 → Good xs → Good (the (suc code) ∷ xs)
  and_width : {xs : List Want} → Good xs → Good (width ∷ xs)

at_wants : {xs : List Want} (b : Bool) → Good xs → Finishes (on_to xs) b
at_wants b all = at_commands b
at_wants b ending = the_end b
at_wants b (and_the code h g) = plain code h (eq-eqb _ _ (coded_word code h)) (at_wants b g)
at_wants b (and_width g) = in_front (Width 1) a_width refl refl (record { is = λ c e. absurd (omega arith) }) (at_wants b g)

shut : Good (the 2 ∷ [])
shut = and_the 1 (omega arith) all

at_list : (ls : List Level) (l : Level) (b : Bool) → Finishes (operand (l ∷ ls)) b
at_list [] l b = plain 1 (omega arith) refl (at_wants b shut)
at_list (m ∷ ms) l b = plain 1 (omega arith) refl (at_list ms (record { op = m.op; operands = suc m.operands }) b)

at_operand_lem : (ls : List Level) (b : Bool) → Finishes (operand ls) b
at_operand_lem [] b = in_front (Literal 0 1) a_constant refl refl (record { is = λ c e. absurd (omega arith) }) (at_wants b shut)
at_operand_lem (l ∷ ls) b = at_list ls l b

-- a place whose words can be finished, as every one is to which expected words lead
GoodPlace : Place → Type 0
GoodPlace commands = Unit
GoodPlace command = Unit
GoodPlace naming = Unit
GoodPlace sorting = Unit
GoodPlace sort_opened = Unit
GoodPlace (wanting x xs) = Good (x ∷ xs)
GoodPlace (operand ls) = Unit
GoodPlace (operator ls) = Unit

good_vector : {xs : List Want} → Good xs → Good (vector_then xs)
good_vector g = and_the 0 (omega arith) (and_the 5 (omega arith) (and_the 7 (omega arith) (and_width (and_the 1 (omega arith) g))))

at_place : (p : Place) (b : Bool) → GoodPlace p → Finishes p b
unfolding GoodPlace
at_place commands b g = at_commands b
at_place command b g = at_command b
at_place naming b g = in_front (Name None) a_name refl refl (record { is = λ c e. absurd (omega arith) }) (plain 6 (omega arith) refl (at_wants b shut))
at_place sorting b g = plain 6 (omega arith) refl (at_wants b shut)
at_place sort_opened b g = plain 5 (omega arith) refl (at_wants b (and_the 7 (omega arith) (and_width (and_the 1 (omega arith) shut))))
at_place (wanting x xs) b g = at_wants b g
at_place (operand ls) b g = at_operand_lem ls b
at_place (operator ls) b g =
    in_front (Operator 2) an_operator refl refl (record { is = λ c e. absurd (omega arith) }) (at_list ls (record { op = 2; operands = 0 }) b)

good_counted : (ls : List Level) → GoodPlace (counted ls)
unfolding GoodPlace
good_counted [] = shut
good_counted (l ∷ ls) = tt

good_operand : (ls : List Level) (r : Role) → GoodPlace (after_operand ls r)
unfolding GoodPlace
good_operand ls opens = tt
good_operand [] closes = tt
good_operand (l ∷ ls) closes = good_counted ls
good_operand ls constant = good_counted ls
good_operand ls named = good_counted ls
good_operand ls (operates op) = tt
good_operand ls other = tt

good_operator : (ls : List Level) (r : Role) → GoodPlace (after_operator ls r)
unfolding GoodPlace
good_operator ls opens = tt
good_operator ls closes = tt
good_operator ls constant = tt
good_operator ls named = tt
good_operator ls (operates op) = tt
good_operator ls other = tt

good_wants : {x : Want} {xs : List Want} → Good (x ∷ xs) → GoodPlace (on_to xs)
unfolding GoodPlace
good_wants ending = tt
good_wants (and_the {xs = []} code h g) = tt
good_wants (and_the {xs = y ∷ ys} code h g) = g
good_wants (and_width {xs = []} g) = tt
good_wants (and_width {xs = y ∷ ys} g) = g

good_after : (p : Place) (w : Word) → GoodPlace p → GoodPlace (place_after p w)
unfolding GoodPlace
good_after commands w g = tt
good_after command w g =
    by_test GoodPlace (eqb (code_of w) 3) (λ e. tt) (λ e. by_test GoodPlace (eqb (code_of w) 4) (λ f. tt) (λ f. and_the 1 (omega arith) ending))
good_after naming w g = tt
good_after sorting w g = by_test GoodPlace (eqb (code_of w) 1) (λ e. tt) (λ e. shut)
good_after sort_opened w g =
    by_test GoodPlace (eqb (code_of w) 9) (λ e. good_vector (good_vector (and_the 1 (omega arith) shut)))
    (λ e. and_the 7 (omega arith) (and_width (and_the 1 (omega arith) shut)))
good_after (wanting x xs) w g = good_wants g
good_after (operand ls) w g = good_operand ls (role_of w)
good_after (operator ls) w g = good_operator ls (role_of w)

-- Along some words

good_from : (ws : List Spelt) (s : Spot) → GoodPlace s.place → GoodPlace (spot_from s ws).place
unfolding spot_from
good_from [] s g = g
good_from (w ∷ ws) s g = good_from ws (after s w) (good_after s.place w.word g)

-- a word of a text: its code tells it, and it can be written
record Own (w : Word) : Type 0 where
  told : Told w
  written : is_end w ≡ false → Written w

own_at : (text : List ℕ) (at : ℕ) → at ≤ length text → (w : Spelt) → spelt_at text at ≡ w → Own w.word
own_at text at low w e =
    subst (λ (v : Spelt). Own v.word) e (record { told = record { is = coded text at }; written = write (reaches text at low) })
  where
    write : Reaches text at (token_at text at) → is_end (token_at text at).word ≡ false → Written (token_at text at).word
    write (splits s f) n = record { text = part text (token_at text at).from (token_at text at).next; piece = s.piece; is = sym s.word }
    write (last l) n = absurd (never (sym n ∙ ap is_end l.word))

-- words of a text before another: none is the end
data Inner : List Spelt → Type 0 where
  no_more : Inner []
  and_more : {w : Spelt} {ws : List Spelt} → is_end w.word ≡ false → Own w.word → Inner ws → Inner (w ∷ ws)

record Split (before : List Spelt) (word : Spelt) : Type 0 where
  inner : Inner before
  own : Own word.word

some : (before : List Spelt) (word : Spelt) (rest : List Spelt) → [] ≡ before ++ (word ∷ rest) → ⊥
some [] word rest e = omega (arith, ap length e)
some (b ∷ bs) word rest e = omega (arith, ap length e)

split : (text : List ℕ) (before : List Spelt) (at : ℕ) → at ≤ length text → (word : Spelt) (rest : List Spelt)
    → spelt_from text at ≡ before ++ (word ∷ rest) → Split before word
split text [] at low word rest e = record { inner = no_more; own = own_at text at low word (front (sym (words_are text at) ∙ e)) }
split text (b ∷ bs) at low word rest e =
    go (is_end (token_at text at).word) refl (back (sym (words_are text at) ∙ e)) (λ h. split text bs (token_at text at).next h word rest)
  where
    is : spelt_at text at ≡ b
    is = front (sym (words_are text at) ∙ e)

    go : (t : Bool) → is_end (token_at text at).word ≡ t → cond t [] (spelt_from text (token_at text at).next) ≡ bs ++ (word ∷ rest)
        → ((token_at text at).next ≤ length text → spelt_from text (token_at text at).next ≡ bs ++ (word ∷ rest) → Split bs word)
        → Split (b ∷ bs) word
    go true f g next = absurd (some bs word rest g)
    go false f g next =
        let r = next (onto text at f).within g in
        record { inner = and_more (ap (λ (v : Spelt). is_end v.word) (sym is) ∙ f) (own_at text at low b is) r.inner; own = r.own }

-- expected words, and then words that are accepted
accepts-all : (ws : List Spelt) (s : Spot) (us : List Word) → Inner ws → expected_from s ws ≡ true
    → accepts (spot_from s ws).place (spot_from s ws).asserted us ≡ true
    → accepts s.place s.asserted (words_of ws ++ us) ≡ true
unfolding accepts words_of spot_from expected_from
accepts-all [] s us no_more e f = f
accepts-all (w ∷ ws) s us (and_more n t i) e f =
    let x = not (unexpected s w) in
    let y = expected_from (after s w) ws in
    let here : expected_at s.place s.asserted w.word ≡ true = sym (twice (expected_at s.place s.asserted w.word)) ∙ and_left x y e in
    rw (here, n) (accepts-all ws (after s w) us i (and_right x y e) f)

all_told : (ws : List Spelt) (us : List Word) → Inner ws → AllTold us → AllTold (words_of ws ++ us)
unfolding words_of
all_told [] us no_more t = t
all_told (w ∷ ws) us (and_more n x i) t = and_word x.told (all_told ws us i t)

all-written : (ws : List Spelt) (us : List Word) → Inner ws → Spells us → Spells (words_of ws ++ us)
unfolding words_of
all-written [] us no_more t = t
all-written (w ∷ ws) us (and_more n x i) t = and_written (x.written n) (all-written ws us i t)

-- of words that are accepted each is expected
accepts-here : (ws : List Spelt) (s : Spot) (w : Word) (us : List Word) → Inner ws → accepts s.place s.asserted (words_of ws ++ (w ∷ us)) ≡ true
    → expected_at (spot_from s ws).place (spot_from s ws).asserted w ≡ true
unfolding accepts words_of spot_from
accepts-here [] s w us no_more e =
    and_left (expected_at s.place s.asserted w)
    (cond (is_end w) (is_none us) (accepts (place_after s.place w) (asserted_after s.place s.asserted w) us)) e
accepts-here (v ∷ ws) s w us (and_more n t i) e =
    let x = expected_at s.place s.asserted v.word in
    let rest = accepts (after s v).place (after s v).asserted (words_of ws ++ (w ∷ us)) in
    accepts-here ws (after s v) w us i (ap (λ (b : Bool). cond b (is_none (words_of ws ++ (w ∷ us))) rest) (sym n)
    ∙ and_right x (cond (is_end v.word) (is_none (words_of ws ++ (w ∷ us))) rest) e)

-- a word that is expected, and words to finish with
record Finishes-with (p : Place) (b : Bool) (w : Word) : Type 0 where
  words : List Word
  on : accepts p b (w ∷ words) ≡ true
  told : AllTold (w ∷ words)
  spells : Spells (w ∷ words)

follow : (p : Place) (b : Bool) (w : Word) → GoodPlace p → Own w → expected_at p b w ≡ true → Finishes-with p b w
unfolding accepts
follow p b w g o e = go (is_end w) refl
  where
    go : (x : Bool) → is_end w ≡ x → Finishes-with p b w
    go true f =
        record {
          words = [];
          on = rw (e, f);
          told = and_word o.told no_word;
          spells = subst (λ (v : Word). Spells (v ∷ [])) (sym (is_end_lem w f)) only_end;
        }
    go false f =
        let r = at_place (place_after p w) (asserted_after p b w) (good_after p w g) in
        record { words = r.words; on = rw (e, f) r.on; told = and_word o.told r.told; spells = and_written (o.written f) r.spells }

pub unexpected_is : Unexpected
unfolding GoodPlace
unexpected_is text before word rest e all-expected = (to, from)
  where
    parts : Split before word
    parts = split text before 0 (omega arith) word rest e

    s : Spot
    s = spot_from start_spot before

    regroup : (us : List Word) → (words_of before ++ (word.word ∷ [])) ++ us ≡ words_of before ++ (word.word ∷ us)
    regroup us = append_assoc (words_of before) (word.word ∷ []) us

    to : unexpected s word ≡ false → Begins (words_of before ++ (word.word ∷ []))
    to f =
        let x = expected_at s.place s.asserted word.word in
        let r = follow s.place s.asserted word.word (good_from before start_spot tt) parts.own (sym (twice x) ∙ ap not f) in
        let us = word.word ∷ r.words in
        let ws = words_of before ++ us in
        let all = accepts-all before start_spot us parts.inner all-expected r.on in
        let d = sentence_of (suc (length ws)) ws (omega arith) (all_told before us parts.inner r.told) all in
        let t = text_of (all-written before us parts.inner r.spells) in
        let found = (sentences-read t.text).1 (subst Sentence (sym t.words_are) d) in
        record { text = t.text; more = r.words; words_are = t.words_are ∙ sym (regroup r.words); rule = found.rule; reads = found.reads }

    from : Begins (words_of before ++ (word.word ∷ [])) → unexpected s word ≡ false
    from r =
        let d = (sentences-read r.text).0 (record { rule = r.rule; reads = r.reads }) in
        let e = sentence_accepted (subst Sentence (r.words_are ∙ regroup r.more) d) in
        ap not (accepts-here before start_spot word.word r.more parts.inner e)
