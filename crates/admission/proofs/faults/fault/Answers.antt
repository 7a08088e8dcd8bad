use mathlib.Core.Path.{◌≡◌, sym, ap, ◌∙◌}
use mathlib.Core.Bool.{true}
use Rattle.table.specs.declared.ranks.Rank.{Rank}
use Rattle.table.specs.declared.words.Term.{Term}
use Rattle.table.specs.Terms.{term_at}
use Rattle.table.specs.Faults.{rank, known, sorted}
use Rattle.table.proofs.FaultOrder.{ranked, refused_3, refused_4, refused_ranked, left_to_8}
use Rattle.admission.proofs.faults.fault.Goals as goal

-- what the code tests of x is what the definition asks of term i
pub returns-then-not-known : goal.returns-then-not-known
returns-then-not-known c = refused_3 c.args.table.now c.args.i c.args.clashing (sym (c.known.ensures ∙ ap known c.term_in-x.ensures) ∙ c.if-not-known.true)

pub returns-then-not-sorted : goal.returns-then-not-sorted
returns-then-not-sorted c =
    let known-here : known (term_at c.args.table.now c.args.i) ≡ true = sym (c.known.ensures ∙ ap known c.term_in-x.ensures) ∙ c.if-not-known.false in
    refused_4 c.args.table.now c.args.i c.args.clashing known-here
    (sym (c.sorted.ensures ∙ ap (λ (x : Term). sorted x.sort) c.term_in-x.ensures) ∙ c.if-not-sorted.true)

pub returns-then-number-ne0 : goal.returns-then-number-ne0
returns-then-number-ne0 c =
    let known-here : known (term_at c.args.table.now c.args.i) ≡ true = sym (c.known.ensures ∙ ap known c.term_in-x.ensures) ∙ c.if-not-known.false in
    let sorted-here : sorted (term_at c.args.table.now c.args.i).sort ≡ true = sym (c.sorted.ensures ∙ ap (λ (x : Term). sorted x.sort) c.term_in-x.ensures) ∙ c.if-not-sorted.false in
    let ranked-here : c.rank_fault-number.result ≡ ranked c.args.table.now c.args.i (rank (term_at c.args.table.now c.args.i)) (term_at c.args.table.now c.args.i) 0 = c.rank_fault-number.ensures
    ∙ ap (λ (r : Rank). ranked c.args.table.now c.args.i r c.term_in-x.result 0) c.rank_of.ensures
    ∙ ap (λ (y : Term). ranked c.args.table.now c.args.i (rank y) y 0) c.term_in-x.ensures in
    refused_ranked c.args.table.now c.args.i c.args.clashing known-here sorted-here c.rank_fault-number.result ranked-here c.if-number-ne0.true

pub short-requires : goal.short-requires
short-requires c = c.term_in-x.ensures

pub returns : goal.returns
returns c =
    let known-here : known (term_at c.args.table.now c.args.i) ≡ true = sym (c.known.ensures ∙ ap known c.term_in-x.ensures) ∙ c.if-not-known.false in
    let sorted-here : sorted (term_at c.args.table.now c.args.i).sort ≡ true = sym (c.sorted.ensures ∙ ap (λ (x : Term). sorted x.sort) c.term_in-x.ensures) ∙ c.if-not-sorted.false in
    let ranked-here : c.rank_fault-number.result ≡ ranked c.args.table.now c.args.i (rank (term_at c.args.table.now c.args.i)) (term_at c.args.table.now c.args.i) 0 = c.rank_fault-number.ensures
    ∙ ap (λ (r : Rank). ranked c.args.table.now c.args.i r c.term_in-x.result 0) c.rank_of.ensures
    ∙ ap (λ (y : Term). ranked c.args.table.now c.args.i (rank y) y 0) c.term_in-x.ensures in
    rw (c.refuse_unless-2.ensures, c.refuse_unless.ensures, c.short.ensures)
    (left_to_8 c.args.table.now c.args.i c.args.clashing known-here sorted-here c.rank_fault-number.result ranked-here c.if-number-ne0.false)
