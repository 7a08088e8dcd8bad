use Prim.Native.Nat.{ℕ, ◌≤◌}
use mathlib.Core.Path.{◌≡◌, sym, ap, subst, ◌∙◌}
use mathlib.Core.Bool.{Bool, cond}
use mathlib.Core.List.{List}
use Rattle.ops.specs.Meaning.{ones}
use Rattle.ops.specs.Signed.{greatest, least}
use Rattle.table.specs.declared.words.Sort.{Sort}
use Rattle.table.specs.declared.words.Term.{Term}
use Rattle.table.specs.Terms.{sort_at}
use Rattle.table.specs.WellFormed.{WellFormed}
use Rattle.table.proofs.SoundTerms.{n_most_at}
use Rattle.groups.specs.Groups.{bounds_group}
use Rattle.groups.specs.Code.Writing.{placed_all, less_group, after}
use Rattle.groups.proofs.terms.less.Goals as goal

-- an operand's width
most : (w : List ℕ) → WellFormed 512 w → (k : ℕ) {s : Sort} → s ≡ sort_at w k → s.n ≤ 32
most w f k e = subst (λ (y : Sort). y.n ≤ 32) (sym e) (n_most_at 512 w f k)

-- the group with constants that were computed
group-is : (b : ℕ) (x : Term) (cp cq n m u v : ℕ) (signed : Bool) → n ≡ m → u ≡ cond signed (greatest n) (ones n) → v ≡ cond signed (least n) 0
    → bounds_group b n u v x.p x.q cp cq cq ≡ less_group b m signed x cp cq
group-is b x cp cq n m u v signed e f g = rw (f, g) (ap (λ (k : ℕ). less_group b k signed x cp cq) e)

pub highest-requires : goal.highest-requires
highest-requires c = most c.args.table.now c.requires.well_formed c.args.x.p c.sort_at-sort.ensures

pub lowest-requires : goal.lowest-requires
lowest-requires c = most c.args.table.now c.requires.well_formed c.args.x.p c.sort_at-sort.ensures

pub returns : goal.returns
returns c =
    let e =
    group-is c.args.b c.args.x c.args.cp c.args.cq _ _ _ _ c.args.signed (ap (λ (y : Sort). y.n) c.sort_at-sort.ensures) c.highest.ensures c.lowest.ensures in
    record { value = c.bounds.ensures.value ∙ ap (after c.args.b) e; room_after = c.bounds.ensures.room_after ∙ ap (placed_all c.args.room.now c.args.b) e }
