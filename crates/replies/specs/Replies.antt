-- What the C interface answers: 0, or the refusal's number; and four numbers. A refusal's place stands first, the rest is 0.
-- Assumes nothing.
use Rattle.std.specs.Prelude.{Result, Ok, Err, List, [], ◌∷◌, ℕ}
use Rattle.ops.specs.Meaning.{bit}
use Rattle.table.specs.declared.Refusal.{Refusal}
use Rattle.table.specs.Answers.{Acceptance}
use Rattle.evaluate.specs.declared.Spent.{Spent}
use Rattle.evaluate.specs.Evaluation.{Evaluation}
use Rattle.judge.specs.declared.Verdict.{Verdict}
use Rattle.judge.specs.Judgement.{Judgement}
use Rattle.finish.specs.declared.Extent.{Extent}
use Rattle.finish.specs.Finished.{Finishing}
use Rattle.printer.specs.Printing.{Printing}
use Rattle.parser.specs.Parsing.{Parsing}
use Rattle.replies.specs.declared.Reply.{Reply}

abbrev pub results : ℕ → ℕ → ℕ → ℕ → Reply
results a b c d = record { number = 0; first = a; second = b; third = c; fourth = d }

abbrev pub refusal : Refusal → Reply
refusal r = record { number = r.number; first = r.place; second = 0; third = 0; fourth = 0 }

-- the four numbers
abbrev pub row : Reply → List ℕ
row r = r.first ∷ r.second ∷ r.third ∷ r.fourth ∷ []

-- a reply from an answer: its results, or the refusal
abbrev pub reply_of : {T : Type 0} → (T → Reply) → Result T Refusal → Reply
reply_of of (Ok x) = of x
reply_of of (Err r) = refusal r

abbrev pub admitted : Unit {0} → Reply
admitted _ = results 0 0 0 0

-- terms, number of C(rule), last
abbrev pub finished : Extent → Reply
finished e = results e.terms e.condition e.last 0

-- steps, left
abbrev pub evaluated : Spent → Reply
evaluated s = results s.steps s.left 0 0

-- rule, condition, steps, left
abbrev pub judged : Verdict → Reply
judged v = results (bit v.rule) (bit v.condition) v.steps v.left

-- bytes or numbers written
abbrev pub counted : ℕ → Reply
counted n = results n 0 0 0

-- of each routine
abbrev pub admission_reply : Acceptance → Reply
admission_reply = reply_of admitted

abbrev pub finishing_reply : Finishing → Reply
finishing_reply = reply_of finished

abbrev pub evaluation_reply : Evaluation → Reply
evaluation_reply = reply_of evaluated

abbrev pub judgement_reply : Judgement → Reply
judgement_reply = reply_of judged

abbrev pub printing_reply : Printing → Reply
printing_reply = reply_of counted

abbrev pub parsing_reply : Parsing → Reply
parsing_reply = reply_of counted
