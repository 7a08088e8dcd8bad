-- The tokens of a setting: `[` and `]`, and every other longest run of bytes that are no white space. A semicolon starts a comment
-- up to the line feed.
-- Assumes nothing.
use Rattle.std.specs.Prelude.{Bool, true, false, cond, not, ◌&&◌, ◌||◌, List, [], ◌∷◌, ℕ, zero, suc, ◌+◌, eqb, ltb, length, drop, get_or, Option, Some, None}
use Rattle.smtlib.specs.Bytes.{bytes, part, same_bytes}
use Rattle.cases.specs.Bytes.{white, digit}
use Rattle.cases.specs.Lexing.{next_value}
use Rattle.parser.specs.declared.words.Word.{Word}
use Rattle.parser.specs.declared.words.Word.TheVariants.{Literal}
use Rattle.parser.specs.Words.{word_of, past}
use Rattle.outline.specs.declared.scan.Span.{Span}
use Rattle.assignments.specs.declared.tokens.Kind.{Kind}
use Rattle.assignments.specs.declared.tokens.Kind.TheVariants.{Equals, Open, Close, Allowance, Mark, Keep, Other}
use Rattle.assignments.specs.declared.tokens.Number.{Number}
use Rattle.assignments.specs.declared.tokens.Number.TheVariants.{Decimal, Binary, Truth, TooLarge}

-- in a comment or not: a byte that is skipped, and how it is after it
abbrev pub skipped : Bool → ℕ → Bool
skipped comment b = comment || white b || eqb b 59

abbrev pub comment_after : Bool → ℕ → Bool
comment_after comment b = not (eqb b 10) && (comment || eqb b 59)

-- how many bytes in front are white space and comments
unfoldable pub skipped_from : Bool → List ℕ → ℕ
skipped_from comment [] = 0
skipped_from comment (b ∷ bs) =
    let rest = suc (skipped_from (comment_after comment b) bs) in
    cond (skipped comment b) rest 0

abbrev pub past_skipped : List ℕ → ℕ → ℕ
past_skipped text at = at + skipped_from false (drop at text)

abbrev pub bracket : ℕ → Bool
bracket b = eqb b 91 || eqb b 93

-- a byte of a longest run
abbrev pub inside : ℕ → Bool
inside b = not (white b || eqb b 59 || bracket b)

-- the token at a place, after white space and comments; at the end both its places are the text's length, or further
unfoldable pub token_at : List ℕ → ℕ → Span
token_at text at =
    let from = past_skipped text at in
    record { from = from; to = cond (bracket (get_or text from 0)) (from + 1) (past inside text from) }

-- at most n tokens from a place on
unfoldable pub tokens_from : ℕ → List ℕ → ℕ → List Span
tokens_from zero text at = []
tokens_from (suc n) text at =
    let t = token_at text at in
    let rest = tokens_from n text t.to in
    cond (ltb t.from (length text)) (t ∷ rest) []

-- all from a place on, and from the text's begin on: a token takes a byte at least
abbrev pub tokens_left : List ℕ → ℕ → List Span
tokens_left text at = tokens_from (length text) text at

abbrev pub tokens : List ℕ → List Span
tokens text = tokens_left text 0

abbrev pub word : List ℕ → Span → List ℕ
word text t = part text t.from t.to

-- what a token is to a setting
abbrev pub kind_of : List ℕ → Kind
kind_of w =
    cond (same_bytes w (bytes "=")) Equals
    (cond (same_bytes w (bytes "[")) Open
    (cond (same_bytes w (bytes "]")) Close
    (cond (same_bytes w (bytes "allowance")) Allowance
    (cond (same_bytes w (bytes "mark")) Mark
    (cond (same_bytes w (bytes "keep")) Keep
    Other)))))

-- = or [, which follow a name that is given a value; =; allowance
abbrev pub assigns : Kind → Bool
assigns Equals = true
assigns Open = true
assigns k = false

abbrev pub equals_kind : Kind → Bool
equals_kind Equals = true
equals_kind k = false

abbrev pub allowance_kind : Kind → Bool
allowance_kind Allowance = true
allowance_kind k = false

-- the number that digits say, after those that say v; from 2^32 on it stays as large; none where another byte is among them
unfoldable pub decimal_from : ℕ → List ℕ → Option ℕ
decimal_from v [] = Some v
decimal_from v (b ∷ bs) =
    let rest = decimal_from (next_value v b) bs in
    cond (digit b) rest None

abbrev pub literal : Word → Option Number
literal (Literal n v) = Some (cond (eqb n 0) (Truth v) (Binary v))
literal w = None

abbrev pub decimal_number : ℕ → Number
decimal_number v = cond (ltb v 4294967296) (Decimal v) TooLarge

-- a decimal number, or else a constant of the rules
abbrev pub number_from : Option ℕ → List ℕ → Option Number
number_from (Some v) w = Some (decimal_number v)
number_from None w = literal (word_of w)

unfoldable pub number_of : List ℕ → Option Number
number_of w = number_from (decimal_from 0 w) w

-- its value; 0 where it is too large
abbrev pub value_of : Number → ℕ
value_of (Decimal v) = v
value_of (Binary v) = v
value_of (Truth v) = v
value_of TooLarge = 0
