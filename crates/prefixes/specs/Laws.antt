-- What is proved of words that refuse a text, and of white space, as named statements. The proofs are in proofs/.
-- Assumes nothing.
use Rattle.std.specs.Prelude.{◌≡◌, Bool, true, false, not, ◌&&◌, List, [], ◌∷◌, ◌++◌, ℕ, zero, suc, ◌≤◌, length, take}
use Rattle.parser.specs.declared.words.Word.{Word}
use Rattle.parser.specs.declared.states.State.{State}
use Rattle.parser.specs.Words.{white, inside}
use Rattle.parser.specs.Expressions.{fault_in, number}
use Rattle.parser.specs.Rules.{rule_of}
use Rattle.parser.specs.Parsing.{not_parsed, parsing, room_after}
use Rattle.parser.specs.Grammar.{Rule, Reads}
use Rattle.parser.specs.Trees.{meets, rule_terms}
use Rattle.parser.specs.Laws.{Storable}
use Rattle.prefixes.specs.Spelling.{Spelt, spelling, SameWords}
use Rattle.prefixes.specs.Prefixes.{Spot, start_spot, after, unexpected, refuses_from, Refused, first_refusal}
use Rattle.prefixes.specs.Sentences.{Sentence}

-- The parser stops at the first word that is refused

pub record Tells (s : State) (f : Refused) : Type 0 where
  pub number : f.number ≡ (fault_in s)
  pub place : (fault_in s ≡ 0 → ⊥) → f.place ≡ s.at

abbrev pub FirstRefusal : Type 0
FirstRefusal = (text : List ℕ) → Storable text → Tells (rule_of text).progress.state (first_refusal (spelling text))

-- a prefix of some words is refused by n at its last word, which is at p; and no shorter prefix is refused
pub record RefusedFrom (s : Spot) (ws : List Spelt) (n p : ℕ) : Type 0 where
  pub before : List Spelt
  pub word : Spelt
  pub rest : List Spelt
  pub splits : ws ≡ before ++ (word ∷ rest)
  pub refused : refuses_from s (before ++ (word ∷ [])) ≡ n
  pub place : word.from ≡ p
  pub earliest : (k : ℕ) → k ≤ length before → refuses_from s (take k before) ≡ 0

abbrev pub RefusedAt : List Spelt → ℕ → ℕ → Type 0
RefusedAt ws n p = RefusedFrom start_spot ws n p

-- parse answers n at p, 31 to 35, just where the text's words are refused so
abbrev pub PrefixRefused : Type 0
PrefixRefused =
    (text : List ℕ) (room n p : ℕ) → Storable text → 31 ≤ n → n ≤ 35
    → (parsing text room ≡ not_parsed n p → RefusedAt (spelling text) n p) × (RefusedAt (spelling text) n p → parsing text room ≡ not_parsed n p)

-- Words decide

-- the place of a word, by its number from 0
unfoldable pub place_of : List Spelt → ℕ → ℕ
place_of [] i = 0
place_of (w ∷ ws) zero = w.from
place_of (w ∷ ws) (suc i) = place_of ws i

-- two texts are refused by the same number at the same word, or neither is by 31 to 35
pub record SameRefusal (a b : List ℕ) : Type 0 where
  pub number : (fault_in (rule_of a).progress.state) ≡ (fault_in (rule_of b).progress.state)
  pub word : ℕ
  pub place : ((fault_in (rule_of a).progress.state) ≡ 0 → ⊥) → (rule_of a).progress.state.at ≡ place_of (spelling a) word
  pub other_place : ((fault_in (rule_of a).progress.state) ≡ 0 → ⊥) → (rule_of b).progress.state.at ≡ place_of (spelling b) word

abbrev pub SameWordsRefused : Type 0
SameWordsRefused = (a b : List ℕ) → Storable a → Storable b → SameWords a b → SameRefusal a b

-- a reading of one is a reading of the other
abbrev pub SameWordsRead : Type 0
SameWordsRead = (a b : List ℕ) → SameWords a b → (r : Rule) → Reads a r → Reads b r

-- so many terms are counted as the rule has, and 513 where it has more
abbrev pub TermsCounted : Type 0
TermsCounted =
    (text : List ℕ) (r : Rule) → Storable text → Reads text r → meets r ≡ true
    → (rule_of text).progress.state.count ≡ number (length (rule_terms r))

-- what parse answers two texts: the same table, the same refusal of the table, or the same of 31 to 35 at the same word; and the room that it leaves
pub record SameAnswer (a b : List ℕ) : Type 0 where
  pub refusal : SameRefusal a b
  pub answer : (fault_in (rule_of a).progress.state) ≡ 0 → (room : ℕ) → parsing a room ≡ parsing b room
  pub room : (l : List ℕ) → room_after (parsing a (length l)) a l ≡ room_after (parsing b (length l)) b l

abbrev pub SameWordsAnswered : Type 0
SameWordsAnswered = (a b : List ℕ) → Storable a → Storable b → SameWords a b → SameAnswer a b

-- White space

-- the byte beside a place of a text is inside a word
abbrev pub begins_inside : List ℕ → Bool
begins_inside [] = false
begins_inside (b ∷ bs) = inside b

unfoldable pub ends_inside : List ℕ → Bool
ends_inside [] = false
ends_inside (b ∷ []) = inside b
ends_inside (b ∷ c ∷ bs) = ends_inside (c ∷ bs)

-- a white byte where no word is parted: between two words, before the first, after the last
abbrev pub WhiteSpace : Type 0
WhiteSpace = (u v : List ℕ) (c : ℕ) → white c ≡ true → ends_inside u && begins_inside v ≡ false → SameWords (u ++ v) (u ++ (c ∷ v))

-- so it changes neither table nor number
abbrev pub WhiteSpaceAnswered : Type 0
WhiteSpaceAnswered =
    (u v : List ℕ) (c : ℕ) → Storable (u ++ (c ∷ v)) → white c ≡ true → ends_inside u && begins_inside v ≡ false → SameAnswer (u ++ v) (u ++ (c ∷ v))

-- 31 is the grammar's

unfoldable pub words_of : List Spelt → List Word
words_of [] = []
words_of (w ∷ ws) = w.word ∷ words_of ws

unfoldable pub spot_from : Spot → List Spelt → Spot
spot_from s [] = s
spot_from s (w ∷ ws) = spot_from (after s w) ws

-- none of some words is refused by 31
unfoldable pub expected_from : Spot → List Spelt → Bool
expected_from s [] = true
expected_from s (w ∷ ws) = not (unexpected s w) && expected_from (after s w) ws

-- some text of the grammar begins with these words
pub record Begins (ws : List Word) : Type 0 where
  pub text : List ℕ
  pub more : List Word
  pub words_are : words_of (spelling text) ≡ ws ++ more
  pub rule : Rule
  pub reads : Reads text rule

-- a word is not refused by 31 just where some text of the grammar begins with the words before it and then it; the end, where they are all its words
abbrev pub Unexpected : Type 0
Unexpected =
    (text : List ℕ) (before : List Spelt) (word : Spelt) (rest : List Spelt) → spelling text ≡ before ++ (word ∷ rest)
    → expected_from start_spot before ≡ true
    → (unexpected (spot_from start_spot before) word ≡ false → Begins (words_of before ++ (word.word ∷ [])))
    × (Begins (words_of before ++ (word.word ∷ [])) → unexpected (spot_from start_spot before) word ≡ false)

-- a text has a reading just where its words are a sentence
pub record Read (text : List ℕ) : Type 0 where
  pub rule : Rule
  pub reads : Reads text rule

abbrev pub SentencesRead : Type 0
SentencesRead = (text : List ℕ) → (Read text → Sentence (words_of (spelling text))) × (Sentence (words_of (spelling text)) → Read text)
