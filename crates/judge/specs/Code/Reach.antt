-- Where free tests lead a read at a free index, as the code goes: past the stores at other indexes, into the branches that are picked.
-- Assumes nothing.
use Rattle.std.specs.Prelude.{Bool, true, not, cond, ◌&&◌, List, ℕ, zero, suc, eqb, get_or}
use Rattle.ops.specs.Meaning.{holds}
use Rattle.table.specs.declared.words.Term.{Term}
use Rattle.table.specs.Terms.{term_at}
use Rattle.table.specs.Faults.{is_store, is_choice}
use Rattle.judge.specs.Code.Labelled.{truth_in, picked_by}

-- whether a free test passes over store x at j
abbrev pub passed_by : List ℕ → List ℕ → Term → ℕ → Bool
passed_by front truths x j = truth_in truths x.q && not (eqb (get_or front x.q 0) j)

-- from array term a, through at most left terms: a variable, a store that is picked or a test that is not free
unfoldable pub reach_within : ℕ → List ℕ → List ℕ → List ℕ → ℕ → ℕ → ℕ
reach_within zero w front truths j a = a
reach_within (suc left) w front truths j a =
    let x = term_at w a in
    let beneath = reach_within left w front truths j x.p in
    let picked = cond (holds (get_or front x.p 0)) (reach_within left w front truths j x.q) (reach_within left w front truths j x.r) in
    cond (is_store x) (cond (passed_by front truths x j) beneath a) (cond (is_choice x) (cond (truth_in truths x.p) picked a) a)

-- an array's number falls along it, so its own is terms enough
abbrev pub reach_at : List ℕ → List ℕ → List ℕ → ℕ → ℕ → ℕ
reach_at w front truths j a = reach_within (suc a) w front truths j a

-- whether it is a store that is picked: then no variable is asked for
abbrev pub held_at : List ℕ → List ℕ → List ℕ → ℕ → ℕ → Bool
held_at w front truths j a = is_store (term_at w a) && picked_by front truths (term_at w a) j true
