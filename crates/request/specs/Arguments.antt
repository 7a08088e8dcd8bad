-- The program's arguments.
-- Assumes nothing.
use Rattle.std.specs.Prelude.{ℕ, Bool, true, false, cond, not, ◌&&◌, ◌||◌, ◌+◌, ◌-◌, ◌^◌, min, List, length, codes, ◌==◌, nat_lt, slice_index, Option, Some, None}
use Rattle.std.specs.Str.{bytes_eq}
use Rattle.request.specs.declared.arguments.Command.{Command}
use Rattle.request.specs.declared.arguments.Command.TheVariants.{Judge, Explain, Evaluate, Tree, Graph, Finish, Print, PrintFinished}
use Rattle.request.specs.declared.arguments.Argument.{Argument}
use Rattle.request.specs.declared.arguments.Options.{Options}
use Rattle.request.specs.declared.arguments.Argument.TheVariants.{File, Json, Color, Plain, End, Unknown}

-- the command that a word is
abbrev pub command_of : List ℕ → Option Command
command_of word =
    cond (bytes_eq word (codes "judge")) (Some Judge)
    (cond (bytes_eq word (codes "explain")) (Some Explain)
    (cond (bytes_eq word (codes "evaluate")) (Some Evaluate)
    (cond (bytes_eq word (codes "tree")) (Some Tree)
    (cond (bytes_eq word (codes "graph")) (Some Graph)
    (cond (bytes_eq word (codes "finish")) (Some Finish)
    (cond (bytes_eq word (codes "print")) (Some Print)
    (cond (bytes_eq word (codes "print-finished")) (Some PrintFinished) None)))))))

-- a hyphen and more
abbrev pub hyphened : List ℕ → Bool
hyphened word = nat_lt 1 (length word) && slice_index word 0 == 45

-- what an argument is, where the options have ended or not
abbrev pub kind_of : List ℕ → Bool → Argument
kind_of word ended =
    cond ended File
    (cond (bytes_eq word (codes "--json")) Json
    (cond (bytes_eq word (codes "--color")) Color
    (cond (bytes_eq word (codes "--no-color")) Plain
    (cond (bytes_eq word (codes "--")) End
    (cond (hyphened word) Unknown File)))))

-- a hyphen alone
abbrev pub is_hyphen : List ℕ → Bool
is_hyphen word = bytes_eq word (codes "-")

-- a judgement is told, in JSON too
abbrev pub telling : Command → Bool
telling Judge = true
telling Explain = true
telling _ = false

-- solver text is printed
abbrev pub printing : Command → Bool
printing Print = true
printing PrintFinished = true
printing _ = false

-- a rule alone will do
abbrev pub alone : Command → Bool
alone Finish = true
alone command = printing command

-- colours are for a tree
abbrev pub drawing : Command → Bool
drawing Tree = true
drawing _ = false

-- graph and finish take a case, or a rule and its setting; print and print-finished one file; the others any
abbrev pub taking : Command → ℕ → Bool
taking Graph files = files == 1 || files == 2
taking Finish files = files == 1 || files == 2
taking Print files = files == 1
taking PrintFinished files = files == 1
taking _ files = not (files == 0)

-- the options after one more argument; 2^32 - 1 files stand for more than that
abbrev pub counted : Options → Argument → Options
counted o File = record o { files = min (o.files + 1) (2 ^ 32 - 1) }
counted o Json = record o { json = true }
counted o Color = record o { color = true }
counted o Plain = record o { color = false; plain = true }
counted o End = record o { ended = true }
counted o Unknown = record o { unknown = true }

-- whether a command takes these options and so many files
abbrev pub fitting : Option Command → Options → Bool
fitting None o = false
fitting (Some c) o =
    not o.unknown && (not o.json || telling c) && (not (o.color || o.plain) || drawing c) && taking c o.files

-- whether an answer is one of several: two files are one question where the first is a rule
abbrev pub several : ℕ → Bool → Bool
several files rule = nat_lt 2 files || (files == 2 && not rule)

-- whether there is a file too many for a command on a case
abbrev pub crowded : Command → ℕ → Bool
crowded Judge files = false
crowded Explain files = false
crowded Evaluate files = false
crowded Tree files = false
crowded _ files = nat_lt 1 files
