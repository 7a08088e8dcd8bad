-- Which reason is told for a rule that is refused: by what is expected where it is refused, and what stands there.
-- Assumes nothing.
use Rattle.std.specs.Prelude.{ℕ, Bool, true, false, cond, not, ◌&&◌, ◌||◌, ◌==◌, nat_le}
use Rattle.parser.specs.declared.words.Keyword.TheVariants as keyword
use Rattle.parser.specs.declared.words.Word.{Word}
use Rattle.parser.specs.declared.words.Word.TheVariants.{Open, Close, Keyword, Operator as OperatorWord, Literal, Width as WidthWord, Name as NameWord, Other, End}
use Rattle.outline.specs.declared.scan.Command.{Command}
use Rattle.outline.specs.declared.scan.Command.TheVariants.{Outside, Begun, DeclareConst, Assert, CheckSat}
use Rattle.errors.specs.declared.kinds.Expected.{Expected}
use Rattle.errors.specs.declared.kinds.Expected.TheVariants.{Opening, Command as CommandWord, Symbol, Sort, Width, DeclarationEnd, Expression, AssertEnd, Operator, Operand, CheckSatEnd, Nothing}
use Rattle.errors.specs.declared.kinds.Found.{Found}
use Rattle.errors.specs.declared.kinds.Found.TheVariants.{TextEnd, Semicolon, LeftParenthesis, RightParenthesis, DeclareConst as DeclareConstWord, OtherKeyword, OperatorName, Constant, Reserved, Numeric, Name, Unknown, CheckSat as CheckSatWord}
use Rattle.errors.specs.declared.kinds.Reason.{Reason}
use Rattle.errors.specs.declared.kinds.Reason.TheVariants.{NotExpected, Comment, EndsEarly, LateDeclaration, ReservedForName, OperatorForName, ConstantForName, BadConstant, OperatorForOperand}
use Rattle.errors.specs.declared.kinds.Reason.TheVariants.{ReservedForOperand, NameForOperator, NotDeclared, DeclaredTwice, TooDeep, TooFewOperands, TooManyOperands, NoAssert, TooManyTerms, TooManyNames}

-- What is expected: a command, its word, a name, a sort, a width, the end of a declaration or of its sort, an expression, the end of an
-- assert, an operator, an operand, the end of check-sat, nothing

-- in a declaration, by how many parentheses are open and how many words of it were read, the first "(" too
abbrev pub in_declaration : ℕ → ℕ → Expected
in_declaration depth words =
    cond (words == 2) Symbol
    (cond ((depth == 2 && words == 6) || (depth == 3 && (words == 8 || words == 13))) Width
    (cond ((depth == 1 && not (words == 3)) || (depth == 2 && (words == 7 || words == 15)) || (depth == 3 && (words == 9 || words == 14))) DeclarationEnd Sort))

-- in an assert, after a parenthesis or another word
abbrev pub in_assert : ℕ → ℕ → Bool → Expected
in_assert depth words opened = cond (depth == 1) (cond (words == 2) Expression AssertEnd) (cond opened Operator Operand)

-- in a command, or after the last
abbrev pub expected : Command → ℕ → ℕ → Bool → Bool → Expected
expected Outside depth words opened ended = cond ended Nothing Opening
expected Begun depth words opened ended = CommandWord
expected DeclareConst depth words opened ended = in_declaration depth words
expected Assert depth words opened ended = in_assert depth words opened
expected CheckSat depth words opened ended = CheckSatEnd

-- What stands there: the end, a comment, "(", ")", declare-const, assert or _, an operator, a constant, a reserved word, a word that
-- begins like a number or a constant, a name, any other word, check-sat

-- a word that is none of the language: by its first byte, and whether it has a symbol's bytes alone
abbrev pub found_other : ℕ → Bool → Found
found_other first symbolic =
    cond (first == 59) Semicolon (cond (first == 35 || (nat_le 48 first && nat_le first 57)) Numeric (cond symbolic Reserved Unknown))

abbrev pub found : Word → ℕ → Bool → Found
found Open first symbolic = LeftParenthesis
found Close first symbolic = RightParenthesis
found (Keyword keyword.DeclareConst) first symbolic = DeclareConstWord
found (Keyword keyword.Assert) first symbolic = OtherKeyword
found (Keyword keyword.CheckSat) first symbolic = CheckSatWord
found (Keyword keyword.Underscore) first symbolic = OtherKeyword
found (OperatorWord op) first symbolic = OperatorName
found (Literal n v) first symbolic = Constant
found (WidthWord n) first symbolic = Numeric
found (NameWord k) first symbolic = Name
found Other first symbolic = found_other first symbolic
found End first symbolic = TextEnd

abbrev pub taken : Found → Bool
taken DeclareConstWord = true
taken OtherKeyword = true
taken Reserved = true
taken CheckSatWord = true
taken f = false

abbrev pub is_opening : Found → Bool
is_opening LeftParenthesis = true
is_opening f = false

abbrev pub is_closing : Found → Bool
is_closing RightParenthesis = true
is_closing f = false

abbrev pub is_check_sat : Found → Bool
is_check_sat CheckSatWord = true
is_check_sat f = false

-- Reasons

-- a name is expected
abbrev pub for_name : Found → Reason
for_name OperatorName = OperatorForName
for_name Constant = ConstantForName
for_name f = cond (taken f) ReservedForName (NotExpected Symbol)

-- an expression or an operand is expected
abbrev pub for_operand : Expected → Found → Reason
for_operand e Numeric = BadConstant
for_operand e OperatorName = OperatorForOperand
for_operand e f = cond (taken f) ReservedForOperand (NotExpected e)

-- 31
abbrev pub for_word : Expected → Found → Reason
for_word e Semicolon = Comment
for_word Nothing f = NotExpected Nothing
for_word e TextEnd = EndsEarly e
for_word CommandWord DeclareConstWord = LateDeclaration
for_word Symbol f = for_name f
for_word Expression f = for_operand Expression f
for_word Operand f = for_operand Operand f
for_word Operator Name = NameForOperator
for_word e f = NotExpected e

-- a name is expected
abbrev pub is_symbol : Expected → Bool
is_symbol Symbol = true
is_symbol e = false

-- a refusal of the text, 31 to 35, or of its table: 2, or 7
abbrev pub reason : ℕ → Expected → Found → Reason
reason number e f =
    cond (number == 31) (for_word e f)
    (cond (number == 32) (cond (is_symbol e) DeclaredTwice NotDeclared)
    (cond (number == 33) TooDeep
    (cond (number == 34) (cond (is_closing f) TooFewOperands TooManyOperands)
    (cond (number == 35) NoAssert
    (cond (number == 2) TooManyTerms TooManyNames)))))
