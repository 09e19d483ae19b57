-- The cases of the call, and the rows that are given: at most a hundred, and no more than there is room for.
use Rattle.std.specs.Prelude.{Ok, Err}
use mathlib.Core.Path.{◌≡◌, refl, sym, ◌∙◌, ap}
use mathlib.Core.Bool.{Bool, true, false, cond}
use mathlib.Core.List.{List, [], ◌∷◌, ◌++◌}
use Prim.Native.Nat.{ℕ, zero, suc, ◌+◌, ◌≤◌, ◌<◌, zero-le}
use native.Mathlib.Omega.{arith}
use borrow.Author.Tests.{ltb-false, lt-ltb, le-ltb}
use lib.Dec.{eqb}
use lib.ListN.{length, take, length-append}
use lib.Seq.{take_at}
use Rattle.basics.specs.Outcomes.{refusal, first_refusal, Outcome}
use Rattle.basics.specs.declared.Refusal.TheVariants as why
use Rattle.basics.proofs.RefusalLaws.{done, if_done_lem, if_refused, passes, stops, none_left, none_applies, asked-on, ended-there}
use Rattle.files.specs.Files.{stations}
use Rattle.files.specs.Calls.{file_tests}
use Rattle.files.proofs.LengthLaws.{length_passed}
use Rattle.operator_counts.specs.declared.Tally.{Tally}
use Rattle.operator_counts.specs.Counts.{operators, heard_at, tally_of, no_tally, tabled}
use Rattle.operator_counts.proofs.TableLaws.{table_at}
use Rattle.operator_pages.specs.declared.OperatorRow.{OperatorRow}
use Rattle.operator_pages.specs.declared.Page.{Page}
use Rattle.operator_pages.specs.Pages.{operator_row, row_if_any, rows_below, tally_in, page_of}
use Rattle.operator_pages.specs.Calls.{room_test, page_outcome, rows_for, page_answer, filled_up, paged}

-- a row or none
one_at_most : (b : Bool) (y : OperatorRow) → length {A = OperatorRow} (cond b [] (y ∷ [])) ≤ 1
one_at_most true y = zero-le
one_at_most false y = omega arith

-- The operators below k have k rows at most,
rows_most : (f : ℕ → Tally) (k : ℕ) → length (rows_below f k) ≤ k
unfolding rows_below row_if_any
rows_most f zero = zero-le
rows_most f (suc k) = omega (arith, length-append (rows_below f k) (cond (eqb (f k).stations 0) [] (operator_row k (f k) ∷ [])), rows_most f k, one_at_most (eqb (f k).stations 0) (operator_row k (f k)))

-- and equal figures give equal rows.
rows_same : (f g : ℕ → Tally) (k : ℕ) → ((c : ℕ) → c < k → f c ≡ g c) → rows_below f k ≡ rows_below g k
unfolding rows_below
rows_same f g zero e = refl
rows_same f g (suc k) e = rw (rows_same f g k (λ c l. e c (omega arith)), e k (omega arith))

-- A page has a hundred rows at most.
pub page_hundred : (file : List ℕ) → length (page_of file) ≤ operators
unfolding page_of
page_hundred file = rows_most (tally_of (heard_at file) (stations file)) operators

-- What stands in front of a page's rows are those that are given.
pub front_rows : (rows : List OperatorRow) → take (length rows) (filled_up rows) ≡ rows
unfolding filled_up
front_rows rows = take_at rows _ (length rows) refl

module _ (file : List ℕ) (room : ℕ) where
  -- A refused call gives no rows,
  pub rows_none : done (page_outcome file room) ≡ false → rows_for file room ≡ []
  unfolding rows_for
  rows_none d = if_refused (page_outcome file room) (page_of file) [] d

  -- and one that is done the page, which has room.
  pub rows_all : done (page_outcome file room) ≡ true → rows_for file room ≡ page_of file
  unfolding rows_for
  rows_all d = if_done_lem (page_outcome file room) (page_of file) [] d

  page_fits : done (page_outcome file room) ≡ true → length (page_of file) ≤ room
  unfolding page_outcome refusal
  page_fits d = ltb-false room (length (page_of file)) (none_applies (file_tests file ++ (room_test file room ∷ [])) refl d).1.1.0

  -- There are no more rows than a hundred, nor than there is room for.
  pub rows_fit : (length (rows_for file room) ≤ operators) × (length (rows_for file room) ≤ room)
  rows_fit = by (done (page_outcome file room)) refl
    where
      by : (b : Bool) → done (page_outcome file room) ≡ b → (length (rows_for file room) ≤ operators) × (length (rows_for file room) ≤ room)
      by true d = rw (rows_all d) (page_hundred file, page_fits d)
      by false d = rw (rows_none d) (zero-le, zero-le)

  -- A refusal answers with no rows, and so does its page.
  pub refused_answer : (o : Outcome) → o ≡ page_outcome file room → done o ≡ false → record { outcome = o; rows = 0 } ≡ page_answer file room
  unfolding page_answer
  refused_answer o e d =
      let none : rows_for file room ≡ [] = rows_none (ap done (sym e) ∙ d) in
      rw (none, e)

  refusing : (o : Outcome) (p : Page) → o ≡ page_outcome file room → done o ≡ false → p ≡ paged o [] → p ≡ paged (page_outcome file room) (rows_for file room)
  refusing o p e d is =
      let none : rows_for file room ≡ [] = rows_none (ap done (sym e) ∙ d) in
      is ∙ rw (none, e)

  -- The file's length is wrong.
  pub length_ends : done (first_refusal (file_tests file)) ≡ false → first_refusal (file_tests file) ≡ page_outcome file room
  unfolding page_outcome
  length_ends d = ended-there (file_tests file) (room_test file room ∷ []) d

  pub length_refused : (p : Page) → done (first_refusal (file_tests file)) ≡ false → p ≡ paged (first_refusal (file_tests file)) [] → p ≡ paged (page_outcome file room) (rows_for file room)
  length_refused p d is = refusing (first_refusal (file_tests file)) p (length_ends d) d is

  -- The file's length is right, and its stations were counted.
  module _ (right : done (first_refusal (file_tests file)) ≡ true) (counts : List Tally) (counted : counts ≡ tabled (tally_of (heard_at file) (stations file)) operators) where
    on : page_outcome file room ≡ first_refusal (room_test file room ∷ [])
    unfolding page_outcome
    on = asked-on (file_tests file) (room_test file room ∷ []) (length_passed file right)

    all : rows_below (tally_in counts) operators ≡ page_of file
    unfolding page_of
    all = rows_same (tally_in counts) (tally_of (heard_at file) (stations file)) operators (λ c l. rw counted (table_at (tally_of (heard_at file) (stations file)) no_tally operators c l))

    -- There is no room for their rows,
    pub no_room : room < length (rows_below (tally_in counts) operators) → (Err why.TooFewRows) ≡ page_outcome file room
    unfolding refusal
    no_room l = sym (on ∙ stops (Err why.TooFewRows) [] (lt-ltb room (length (page_of file)) (omega (arith, l, ap length all))))

    -- or there is, and they are given.
    module _ (l : length (rows_below (tally_in counts) operators) ≤ room) where
      pub room-there : (Ok tt) ≡ page_outcome file room
      unfolding refusal
      room-there = sym (on ∙ passes (Err why.TooFewRows) [] (le-ltb room (length (page_of file)) (omega (arith, l, ap length all))) ∙ none_left)

      pub given : rows_below (tally_in counts) operators ≡ rows_for file room
      unfolding refusal
      given = all ∙ sym (rows_all (ap done (sym room-there)))

    -- So it is where the rows were packed.
    module _ (p : Page) (is : p ≡ paged (Ok tt) (rows_below (tally_in counts) operators)) where
      many : p.answer.rows ≡ length (rows_below (tally_in counts) operators)
      unfolding paged
      many = ap (λ (q : Page). q.answer.rows) is

      pub packed_refused : (q : Page) → room < p.answer.rows → q ≡ paged (Err why.TooFewRows) [] → q ≡ paged (page_outcome file room) (rows_for file room)
      unfolding refusal
      packed_refused q l e = refusing (Err why.TooFewRows) q (no_room (omega (arith, l, many))) refl e

      pub packed_given : p.answer.rows ≤ room → p ≡ paged (page_outcome file room) (rows_for file room)
      packed_given l =
          let fits : length (rows_below (tally_in counts) operators) ≤ room = omega (arith, l, many) in
          is ∙ rw (room-there fits, given fits)
