-- What a parse keeps: the parts are among the numbers read, and these are all the text's numbers.
-- Assumes nothing.
use Rattle.std.proofs.Common.{◌≡◌, ℕ, suc, ◌+◌, ◌-◌, ◌≤◌, Bool, true, false, cond, eqb, ltb, List, [], ◌∷◌, length, length-append, Option, Some, None, Result, Ok, Err, refl, sym, ap, subst, ◌∙◌, arith}
use Rattle.std.proofs.lemmas.List.{length-set}
use Rattle.std.specs.Option.{ok_or, option_map}
use Rattle.std.specs.Bool.{⊤}
use borrow.Author.Tests.{eqb-false, ltb-false}
use Rattle.cases.specs.declared.part.Part.{Part}
use Rattle.cases.specs.declared.part.Part.TheVariants.{Table, Values, Cells, Allowance, Sheet}
use Rattle.cases.specs.declared.error.ErrorKind.{ErrorKind}
use Rattle.cases.specs.declared.error.ErrorKind.TheVariants.{RoomFull, NoTable, NoValues, NoCells, NoAllowance, EmptyAllowance, LongText}
use Rattle.cases.specs.declared.lexer.Token.{Token}
use Rattle.cases.specs.declared.lexer.Token.TheVariants.{Number, Heading, Unknown, TooLarge}
use Rattle.cases.specs.declared.parser.Run.{Run}
use Rattle.cases.specs.declared.parser.Fault.{Fault}
use Rattle.cases.specs.declared.parser.Parser.{Parser}
use Rattle.cases.specs.declared.Case.{Case}
use Rattle.cases.specs.Parts.{index}
use Rattle.cases.specs.Parsing.{table_limit, others_limit, start, run_of, size, size_of, others, limit, begun, until, extended, headed_at, number_fault, counted_in, taken_by, found_at, taken, parse, case_of}
use Rattle.cases.specs.Numbers.{number_in, numbers_in}
use Rattle.cases.specs.Reading.{capped, WithinIf, Placed}
use Rattle.cases.proofs.Results.{then_ok, then_err, passed_on, met, unmet}
use Rattle.cases.proofs.Limits.{set_each, table_after, EndsAt, wider, grown_within, grown_size, grown_ends, table_few, others_few, fits, number_short}

-- the parts are among the numbers read, both limits are kept, and the table goes up to the last number while it is being read
pub record Sound (room : ℕ) (p : Parser) : Type 0 where
  pub five : length p.runs ≡ 5
  pub runs : (part : Part) → WithinIf (run_of p part) p.total
  pub few : p.total ≤ room
  pub table : size_of p Table ≤ table_limit
  pub others : others p ≤ others_limit
  pub reading : p.part ≡ Some Table → EndsAt p.total (run_of p Table)

none_given : (part : Part) → run_of start part ≡ None
none_given Table = refl
none_given Values = refl
none_given Cells = refl
none_given Allowance = refl
none_given Sheet = refl

pub start-sound : (room : ℕ) → Sound room start
start-sound room =
    record {
      five = refl;
      runs = λ part. subst (λ r. WithinIf r 0) (sym (none_given part)) tt;
      few = omega arith;
      table = omega arith;
      others = omega arith;
      reading = λ z. absurd cc;
    }

module _ (room : ℕ) (p : Parser) (h : Sound room p) where
  begun-sound : (part : Part) → run_of p part ≡ None → Sound room (begun p part)
  begun-sound part none =
      record {
        five = length-set p.runs (index part) _ ∙ h.five;
        runs = λ other. set_each (λ r. WithinIf r p.total) p.runs (index part) (index other) _ (record { low = omega arith; high = omega arith }) (h.runs other);
        few = h.few;
        table = table_after (λ r. size r ≤ table_limit) p.runs part _ h.five (λ _. omega arith) (λ _. h.table);
        others = table_after (λ r. p.total - size r ≤ others_limit) p.runs part _ h.five (λ z. let e = ap size (ap (run_of p) (sym z) ∙ none) in let o = h.others in omega arith) (λ _. h.others);
        reading = table_after (λ r. Some part ≡ Some Table → EndsAt p.total r) p.runs part _ h.five (λ _ _. refl) (λ ne z. absurd (ne cc));
      }

  extended-sound : (part : Part) → p.part ≡ Some part → (a : ⊤) → number_fault p part room ≡ Ok a → Sound room (extended p part)
  extended-sound part now a e =
      let ok = fits p part room a e in
      let ends : part ≡ Table → EndsAt p.total (run_of p Table) = λ z. h.reading (now ∙ ap Some z) in
      let table = run_of p Table in
      let at : part ≡ Table → option_map (until (p.total + 1)) (run_of p part) ≡ option_map (until (p.total + 1)) table = λ z. ap (λ (k : Part). option_map (until (p.total + 1)) (run_of p k)) z in
      record {
        five = length-set p.runs (index part) _ ∙ h.five;
        runs = λ other. set_each (λ r. WithinIf r (p.total + 1)) p.runs (index part) (index other) _ (grown_within (run_of p part) p.total (h.runs part)) (wider (run_of p other) p.total (p.total + 1) (omega arith) (h.runs other));
        few = let room_left = ok.1 in omega arith;
        table = table_after (λ r. size r ≤ table_limit) p.runs part _ h.five
            (λ z.
            let more = ap size (at z) ∙ grown_size table p.total (h.runs Table) (ends z) in
            let few = table_few p tt (subst (λ (k : Part). limit p k ≡ Ok tt) z ok.0) in
            omega arith)
            (λ _. h.table);
        others = table_after (λ r. (p.total + 1) - size r ≤ others_limit) p.runs part _ h.five
            (λ z.
            let more = ap size (at z) ∙ grown_size table p.total (h.runs Table) (ends z) in
            let o = h.others in
            omega arith)
            (λ ne. let few = others_few p part tt ok.0 ne in omega arith);
        reading = table_after (λ r. p.part ≡ Some Table → EndsAt (p.total + 1) r) p.runs part _ h.five
            (λ z _. subst (EndsAt (p.total + 1)) (sym (at z)) (grown_ends table p.total (ends z)))
            (λ ne z. absurd (ne (let same : Some part ≡ Some Table = sym now ∙ z in cc)));
      }

  headed-sound : (part : Part) (given : Option Run) → run_of p part ≡ given → (q : Parser) → headed_at p part given ≡ Ok q → Sound room q
  headed-sound part None none q e = let same : begun p part ≡ q = cc in subst (Sound room) same (begun-sound part none)
  headed-sound part (Some run) given q e = absurd cc

  counted-sound : (now : Option Part) → p.part ≡ now → (q : Parser) → counted_in p room now ≡ Ok q → Sound room q
  counted-sound None now q e = absurd cc
  counted-sound (Some part) now q e =
      then_ok (number_fault p part room) (λ _. Ok (extended p part)) q e (λ a i d. let same : extended p part ≡ q = cc in subst (Sound room) same (extended-sound part now a i))

  taken_by-sound : (token : Token) (q : Parser) → taken_by room p token ≡ Ok q → Sound room q
  taken_by-sound (Number n) q e = counted-sound p.part refl q e
  taken_by-sound (Heading part) q e = headed-sound part (run_of p part) refl q e
  taken_by-sound Unknown q e = absurd cc
  taken_by-sound TooLarge q e = absurd cc

  -- a room for all is never too short
  counted-short : (now : Option Part) → table_limit + others_limit ≤ room → counted_in p room now ≡ Err RoomFull → ⊥
  counted-short None b e = cc
  counted-short (Some part) b e =
      then_err (number_fault p part room) (λ _. Ok (extended p part)) RoomFull e
      (number_short p part room b h.table h.others)
      (λ a i d. cc)

  headed-short : (part : Part) (given : Option Run) → headed_at p part given ≡ Err RoomFull → ⊥
  headed-short part None e = cc
  headed-short part (Some run) e = cc

  taken_by-short : (token : Token) → table_limit + others_limit ≤ room → taken_by room p token ≡ Err RoomFull → ⊥
  taken_by-short (Number n) b e = counted-short p.part b e
  taken_by-short (Heading part) b e = headed-short part (run_of p part) e
  taken_by-short Unknown b e = cc
  taken_by-short TooLarge b e = cc

-- a token that was taken, with no fault, or found at fault
pub found_ok : (at : ℕ) (r : Result Parser ErrorKind) (q : Parser) → found_at at r ≡ Ok q → r ≡ Ok q
found_ok at (Ok p) q e = cc
found_ok at (Err kind) q e = absurd cc

pub found_err : (at : ℕ) (r : Result Parser ErrorKind) (f : Fault) → found_at at r ≡ Err f → r ≡ Err f.kind
found_err at (Ok p) f e = absurd cc
found_err at (Err kind) f e = let same : record { kind = kind; at = at } ≡ f = cc in ap (λ (g : Fault). Err g.kind) same

pub taken-sound : (room at : ℕ) (p : Parser) (token : Option Token) (q : Parser) → Sound room p → taken room at p token ≡ Ok q → Sound room q
taken-sound room at p None q h e = let same : p ≡ q = cc in subst (Sound room) same h
taken-sound room at p (Some token) q h e = taken_by-sound room p h token q (found_ok at (taken_by room p token) q e)

pub parse-sound : (room at : ℕ) (p : Parser) (tokens : List (Option Token)) (q : Parser) → Sound room p → parse room at p tokens ≡ Ok q → Sound room q
unfolding parse
parse-sound room at p [] q h e = let same : p ≡ q = cc in subst (Sound room) same h
parse-sound room at p (token ∷ tokens) q h e =
    then_ok (taken room at p token) (λ r. parse room (suc at) r tokens) q e
    (λ r i later. parse-sound room (suc at) r tokens q (taken-sound room at p token r h i) later)

taken-short : (room at : ℕ) (p : Parser) (token : Option Token) (f : Fault) → Sound room p → table_limit + others_limit ≤ room → taken room at p token ≡ Err f → f.kind ≡ RoomFull → ⊥
taken-short room at p None f h b e z = cc
taken-short room at p (Some token) f h b e z = taken_by-short room p h token b (found_err at (taken_by room p token) f e ∙ ap Err z)

pub parse-short : (room at : ℕ) (p : Parser) (tokens : List (Option Token)) (f : Fault) → Sound room p → table_limit + others_limit ≤ room → parse room at p tokens ≡ Err f → f.kind ≡ RoomFull → ⊥
unfolding parse
parse-short room at p [] f h b e z = cc
parse-short room at p (token ∷ tokens) f h b e z =
    then_err (taken room at p token) (λ r. parse room (suc at) r tokens) f e
    (λ i. taken-short room at p token f h b i z)
    (λ r i later. parse-short room (suc at) r tokens f (taken-sound room at p token r h i) b later z)

-- The count

headed_counts : (p : Parser) (part : Part) (given : Option Run) (q : Parser) → headed_at p part given ≡ Ok q → q.total ≡ p.total
headed_counts p part None q e = let same : begun p part ≡ q = cc in sym (ap (λ (r : Parser). r.total) same)
headed_counts p part (Some run) q e = absurd cc

counted_counts : (room : ℕ) (p : Parser) (now : Option Part) (q : Parser) → counted_in p room now ≡ Ok q → q.total ≡ p.total + 1
counted_counts room p None q e = absurd cc
counted_counts room p (Some part) q e =
    then_ok (number_fault p part room) (λ _. Ok (extended p part)) q e (λ a i d. let same : extended p part ≡ q = cc in sym (ap (λ (r : Parser). r.total) same))

taken_by_counts : (room : ℕ) (p : Parser) (token : Token) (q : Parser) → taken_by room p token ≡ Ok q → q.total ≡ p.total + length (number_in (Some token))
taken_by_counts room p (Number n) q e = counted_counts room p p.part q e
taken_by_counts room p (Heading part) q e = let same = headed_counts p part (run_of p part) q e in omega arith
taken_by_counts room p Unknown q e = absurd cc
taken_by_counts room p TooLarge q e = absurd cc

taken_counts : (room at : ℕ) (p : Parser) (token : Option Token) (q : Parser) → taken room at p token ≡ Ok q → q.total ≡ p.total + length (number_in token)
taken_counts room at p None q e = let same : p ≡ q = cc in let total = ap (λ (r : Parser). r.total) same in omega arith
taken_counts room at p (Some token) q e = taken_by_counts room p token q (found_ok at (taken_by room p token) q e)

pub parse_counts : (room at : ℕ) (p : Parser) (tokens : List (Option Token)) (q : Parser) → parse room at p tokens ≡ Ok q → q.total ≡ p.total + length (numbers_in tokens)
unfolding parse numbers_in
parse_counts room at p [] q e = let same : p ≡ q = cc in let total = ap (λ (r : Parser). r.total) same in omega arith
parse_counts room at p (token ∷ tokens) q e =
    then_ok (taken room at p token) (λ r. parse room (suc at) r tokens) q e
    (λ r i later.
    let rest = parse_counts room (suc at) r tokens q later in
    let now = taken_counts room at p token r i in
    omega (arith, length-append (number_in token) (numbers_in tokens)))

-- The case

-- a parsed text with each part
pub record Read (p : Parser) (n : ℕ) (c : Case) : Type 0 where
  pub table : run_of p Table ≡ Some c.table
  pub values : run_of p Values ≡ Some c.values
  pub cells : run_of p Cells ≡ Some c.cells
  pub sheet : run_of p Sheet ≡ c.sheet
  pub allowance : (run : Run) × (run_of p Allowance ≡ Some run) × (run.from ≡ c.allowance) × (run.from ≡ run.to → ⊥)
  pub count : c.count ≡ n

given : {E : Type 0} (o : Option Run) (x : E) (run : Run) → ok_or o x ≡ Ok run → o ≡ Some run
given None x run e = absurd cc
given (Some r) x run e = cc

pub case_read : (p : Parser) (whole : Bool) (count : ℕ) (c : Case) → case_of p whole count ≡ Ok c → Read p count c
case_read p whole count c e =
    met whole LongText _ c e
    (λ _ one.
    then_ok (ok_or (run_of p Table) NoTable) _ c one
    (λ table t two.
    then_ok (ok_or (run_of p Values) NoValues) _ c two
    (λ values v three.
    then_ok (ok_or (run_of p Cells) NoCells) _ c three
    (λ cells l four.
    then_ok (ok_or (run_of p Allowance) NoAllowance) _ c four
    (λ allowance a five.
    passed_on (eqb allowance.from allowance.to) EmptyAllowance _ c five
    (λ ne six.
    let same : record { table = table; values = values; cells = cells; sheet = run_of p Sheet; allowance = allowance.from; count = count } ≡ c = cc in
    subst (Read p count) same
    (record {
      table = given _ _ table t;
      values = given _ _ values v;
      cells = given _ _ cells l;
      sheet = refl;
      allowance = (allowance, given _ _ allowance a, refl, eqb-false allowance.from allowance.to ne);
      count = refl;
    })))))))

missing : {E : Type 0} (o : Option Run) (x kind : E) → ok_or o x ≡ Err kind → x ≡ kind
missing None x kind e = cc
missing (Some run) x kind e = absurd cc

-- what is missing is no fault of the room
pub case_not : (p : Parser) (whole : Bool) (n : ℕ) (kind : ErrorKind) → case_of p whole n ≡ Err kind → kind ≡ RoomFull → ⊥
case_not p whole n kind e z =
    unmet whole LongText _ kind e (λ i. cc)
    (λ one.
    then_err (ok_or (run_of p Table) NoTable) _ kind one (λ i. let x = missing (run_of p Table) NoTable kind i in cc)
    (λ table _ two.
    then_err (ok_or (run_of p Values) NoValues) _ kind two (λ i. let x = missing (run_of p Values) NoValues kind i in cc)
    (λ values _ three.
    then_err (ok_or (run_of p Cells) NoCells) _ kind three (λ i. let x = missing (run_of p Cells) NoCells kind i in cc)
    (λ cells _ four.
    then_err (ok_or (run_of p Allowance) NoAllowance) _ kind four (λ i. let x = missing (run_of p Allowance) NoAllowance kind i in cc)
    (λ allowance _ five. last (eqb allowance.from allowance.to) _ five)))))
  where
    last : (b : Bool) (c : Case) → cond b (Err EmptyAllowance) (Ok c) ≡ Err kind → ⊥
    last true c f = let x : EmptyAllowance ≡ kind = cc in cc
    last false c f = cc

pub capped-most : (n : ℕ) → capped n ≤ n
capped-most n = go (ltb n 4294967295) refl
  where
    go : (b : Bool) → ltb n 4294967295 ≡ b → cond b n 4294967295 ≤ n
    go true e = omega arith
    go false e = ltb-false n 4294967295 e

pub capped-least : (m n : ℕ) → m ≤ n → m ≤ 4294967295 → m ≤ capped n
capped-least m n b d = go (ltb n 4294967295)
  where
    go : (t : Bool) → m ≤ cond t n 4294967295
    go true = b
    go false = d

-- the tokens are read with nothing refused: their numbers are within the room, and the parts are among them
module _ (room : ℕ) (tokens : List (Option Token)) (p : Parser) (is : parse room 0 start tokens ≡ Ok p) where
  pub sound : Sound room p
  sound = parse-sound room 0 start tokens p (start-sound room) is

  pub all : p.total ≡ length (numbers_in tokens)
  all = let counts = parse_counts room 0 start tokens p is in omega arith

  pub placed : (whole : Bool) (n m : ℕ) (c : Case) → p.total ≤ m → case_of p whole n ≡ Ok c → Placed c m
  placed whole n m c few e =
      let read = case_read p whole n c e in
      let within : (part : Part) → WithinIf (run_of p part) m = λ part. wider (run_of p part) p.total m few (sound.runs part) in
      let allowance : WithinIf (Some read.allowance.0) m = subst (λ r. WithinIf r m) read.allowance.1 (within Allowance) in
      let ne = read.allowance.3 in
      record {
        table = subst (λ r. WithinIf r m) read.table (within Table);
        values = subst (λ r. WithinIf r m) read.values (within Values);
        cells = subst (λ r. WithinIf r m) read.cells (within Cells);
        sheet = subst (λ r. WithinIf r m) read.sheet (within Sheet);
        allowance = let from = read.allowance.2 in omega (arith, allowance.low, allowance.high);
      }
