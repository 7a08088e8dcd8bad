-- What each rank asks of the term and its operands, in order: docs/PROGRAM.md, "Refusals", for 6.
-- Assumes nothing.
use Rattle.std.specs.Prelude.{Bool, List, [], ◌∷◌}
use Rattle.table.specs.declared.words.Sort.{Sort}
use Rattle.table.specs.declared.ranks.Rank.{Rank}
use Rattle.table.specs.declared.ranks.Rank.TheVariants.{Literal, Input, BoolUnary, BoolBinary, Equality, Choice, BvUnary, BvBinary, BvCompare, Read, Write, Other}
use Rattle.table.specs.Terms.{boolean, vector, scalar, array, vector_of, same_sort}
use Rattle.diagnosis.specs.declared.asking.Asking.{Asking}
use Rattle.diagnosis.specs.declared.asking.Asking.TheVariants.{ABool, AVector, AnArray, AScalar, TermSort, FirstSort, TermIndex, TermElement, FirstIndex, FirstElement}
use Rattle.diagnosis.specs.declared.reason.Asked.{Asked}
use Rattle.diagnosis.specs.declared.reason.Asked.TheVariants.{Exactly, AnyVector, AnyArray, NoArray}
use Rattle.diagnosis.specs.declared.reason.Part.{Part}
use Rattle.diagnosis.specs.declared.reason.Part.TheVariants.{Whole, P, Q, R}
use Rattle.diagnosis.specs.Telling.{vector_sort, boolean_sort}

-- of which part, and what
abbrev pub asks : Rank → List (Part × Asking)
asks Literal = (Whole, AScalar) ∷ []
asks Input = []
asks BoolUnary = (Whole, ABool) ∷ (P, ABool) ∷ []
asks BoolBinary = (Whole, ABool) ∷ (P, ABool) ∷ (Q, ABool) ∷ []
asks Equality = (Whole, ABool) ∷ (P, AScalar) ∷ (Q, FirstSort) ∷ []
asks Choice = (P, ABool) ∷ (Q, TermSort) ∷ (R, TermSort) ∷ []
asks BvUnary = (Whole, AVector) ∷ (P, TermSort) ∷ []
asks BvBinary = (Whole, AVector) ∷ (P, TermSort) ∷ (Q, TermSort) ∷ []
asks BvCompare = (Whole, ABool) ∷ (P, AVector) ∷ (Q, FirstSort) ∷ []
asks Read = (P, AnArray) ∷ (Q, FirstIndex) ∷ (Whole, FirstElement) ∷ []
asks Write = (Whole, AnArray) ∷ (P, TermSort) ∷ (Q, TermIndex) ∷ (R, TermElement) ∷ []
asks Other = []

-- a part's sort s meets what is asked, where x is the term's sort and a that of p
abbrev pub met : Asking → Sort → Sort → Sort → Bool
met ABool x a s = boolean s
met AVector x a s = vector s
met AnArray x a s = array s
met AScalar x a s = scalar s
met TermSort x a s = same_sort s x
met FirstSort x a s = same_sort a s
met TermIndex x a s = vector_of x.m s
met TermElement x a s = vector_of x.n s
met FirstIndex x a s = vector_of a.m s
met FirstElement x a s = vector_of a.n s

-- what is asked, as it is told
abbrev pub asked : Asking → Sort → Sort → Asked
asked ABool x a = Exactly boolean_sort
asked AVector x a = AnyVector
asked AnArray x a = AnyArray
asked AScalar x a = NoArray
asked TermSort x a = Exactly x
asked FirstSort x a = Exactly a
asked TermIndex x a = Exactly (vector_sort x.m)
asked TermElement x a = Exactly (vector_sort x.n)
asked FirstIndex x a = Exactly (vector_sort a.m)
asked FirstElement x a = Exactly (vector_sort a.n)

-- what a part stands for
abbrev pub of_part : {A : Type 0} → Part → A → A → A → A → A
of_part Whole x p q r = x
of_part P x p q r = p
of_part Q x p q r = q
of_part R x p q r = r
