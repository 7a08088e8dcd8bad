-- Where a text stands, word by word from the left: in which command, how deep, how many terms its words have added. Terms are
-- counted as the table of a typed rule holds them (Req 02).
-- Assumes nothing.
use Rattle.std.specs.Prelude.{Bool, true, false, cond, ◌&&◌, ◌||◌, List, [], ◌∷◌, ℕ, zero, suc, ◌+◌, ◌-◌, min, eqb, ltb, leb, length}
use Rattle.parser.specs.declared.words.Keyword.{Keyword}
use Rattle.parser.specs.declared.words.Keyword.TheVariants as keyword
use Rattle.parser.specs.declared.words.Word.{Word}
use Rattle.parser.specs.declared.words.Word.TheVariants as words
use Rattle.parser.specs.declared.words.Token.{Token}
use Rattle.parser.specs.Words.{token_at}
use Rattle.outline.specs.declared.scan.Scan.{Scan}
use Rattle.outline.specs.declared.scan.Span.{Span}
use Rattle.outline.specs.declared.scan.Kind.{Kind}
use Rattle.outline.specs.declared.scan.Kind.TheVariants.{Open, Close, Constant, Name, DeclareConst, Assert, CheckSat, Other}
use Rattle.outline.specs.declared.scan.Command.{Command}
use Rattle.outline.specs.declared.scan.Command.TheVariants as commands

-- the words of a text that begin before a place: at most n, from a place on
unfoldable pub words_from : ℕ → List ℕ → ℕ → ℕ → List Token
words_from zero text stop at = []
words_from (suc n) text stop at =
    let t = token_at text at in
    let rest = words_from n text stop t.next in
    cond (ltb t.from stop) (t ∷ rest) []

-- those before a place: a word takes a byte at least, so that there are no more than bytes
abbrev pub words_to : List ℕ → ℕ → List Token
words_to text stop = words_from (length text) text (min stop (length text)) 0

-- all of them from a place on, and from the text's begin on
abbrev pub words_left : List ℕ → ℕ → List Token
words_left text at = words_from (length text) text (length text) at

abbrev pub all_words : List ℕ → List Token
all_words text = words_left text 0

-- what a word is to the scan
abbrev pub keyword_kind : Keyword → Kind
keyword_kind keyword.DeclareConst = DeclareConst
keyword_kind keyword.Assert = Assert
keyword_kind keyword.CheckSat = CheckSat
keyword_kind keyword.Underscore = Other

abbrev pub kind_of : Word → Kind
kind_of words.Open = Open
kind_of words.Close = Close
kind_of (words.Keyword k) = keyword_kind k
kind_of (words.Literal n v) = Constant
kind_of (words.Name k) = Name
kind_of w = Other

-- one more; 2^32 - 1 is the most that is counted
abbrev pub more : ℕ → ℕ
more n = cond (ltb n 4294967295) (n + 1) n

-- a word is a closing parenthesis, a constant, a name, check-sat
abbrev pub closing : Kind → Bool
closing Close = true
closing k = false

abbrev pub constant_kind : Kind → Bool
constant_kind Constant = true
constant_kind k = false

abbrev pub name_kind : Kind → Bool
name_kind Name = true
name_kind k = false

abbrev pub check_kind : Kind → Bool
check_kind CheckSat = true
check_kind k = false

-- the scan stands between commands, after a command's parenthesis, in a declaration, in an assert
abbrev pub outside : Command → Bool
outside commands.Outside = true
outside c = false

abbrev pub opened : Command → Bool
opened commands.Begun = true
opened c = false

abbrev pub declaring : Command → Bool
declaring commands.DeclareConst = true
declaring c = false

abbrev pub asserting : Command → Bool
asserting commands.Assert = true
asserting c = false

-- a word of kind k closes the command
abbrev pub ends : Scan → Kind → Bool
ends s k = closing k && leb s.depth 1

-- it is the declared name; a constant; the end of a list
abbrev pub declares : Scan → Kind → Bool
declares s k = declaring s.command && eqb s.words 2

abbrev pub constant : Scan → Kind → Bool
constant s k = asserting s.command && constant_kind k

abbrev pub lists : Scan → Kind → Bool
lists s k = asserting s.command && (closing k && ltb 1 s.depth)

-- the end of an assert that is joined to those before it; check-sat after a sole assert of a bare name
abbrev pub joins : Scan → Kind → Bool
joins s k = asserting s.command && (ends s k && ltb 0 s.asserts)

abbrev pub doubles : Scan → Kind → Bool
doubles s k = opened s.command && check_kind k && (eqb s.asserts 1 && s.bare)

-- it adds a term
abbrev pub adds : Scan → Kind → Bool
adds s k = declares s k || constant s k || lists s k || joins s k || doubles s k

-- what each is after a word of kind k: a parenthesis opens a command, and its first word says which
abbrev pub named : Command → Kind → Command
named commands.Outside Open = commands.Begun
named commands.Begun DeclareConst = commands.DeclareConst
named commands.Begun Assert = commands.Assert
named commands.Begun CheckSat = commands.CheckSat
named c k = c

abbrev pub command_after : Scan → Kind → Command
command_after s k = cond (ends s k) commands.Outside (named s.command k)

abbrev pub depth_after : Scan → Kind → ℕ
depth_after s Open = more s.depth
depth_after s Close = s.depth - 1
depth_after s k = s.depth

abbrev pub words_after : Scan → Kind → ℕ
words_after s k = cond (outside (command_after s k)) 0 (more s.words)

-- the word ends an assert
abbrev pub asserted : Scan → Kind → Bool
asserted s k = asserting s.command && ends s k

abbrev pub terms_after : Scan → Kind → ℕ
terms_after s k = cond (adds s k) (more s.terms) s.terms

abbrev pub asserts_after : Scan → Kind → ℕ
asserts_after s k = cond (asserted s k) (more s.asserts) s.asserts

-- the assert that it ends, if it does, is ( assert name )
abbrev pub bare_after : Scan → Kind → Bool
bare_after s k = cond (asserted s k) (eqb s.words 3 && name_kind (kind_of s.previous)) s.bare

abbrev pub spanned : ℕ → ℕ → Span
spanned from to = record { from = from; to = to }

-- where the command begins, and the last assert
abbrev pub begun_after : Scan → Token → ℕ
begun_after s t = cond (outside s.command) t.from s.begun

abbrev pub last_after : Scan → Token → Span
last_after s t = cond (asserted s (kind_of t.word)) (spanned s.begun t.next) s.last

-- before the first word
abbrev pub start : Scan
start =
    record {
      command = commands.Outside;
      depth = 0;
      words = 0;
      terms = 0;
      asserts = 0;
      bare = false;
      begun = 0;
      last = spanned 0 0;
      previous = words.End;
    }

-- after one word more
unfoldable pub step : Scan → Token → Scan
step s t =
    let k = kind_of t.word in
    record {
      command = command_after s k;
      depth = depth_after s k;
      words = words_after s k;
      terms = terms_after s k;
      asserts = asserts_after s k;
      bare = bare_after s k;
      begun = begun_after s t;
      last = last_after s t;
      previous = t.word;
    }

-- after the words of a list
unfoldable pub scanned : Scan → List Token → Scan
scanned s [] = s
scanned s (t ∷ ts) = scanned (step s t) ts

-- before the word at a place
abbrev pub context_at : List ℕ → ℕ → Scan
context_at text place = scanned start (words_to text place)
