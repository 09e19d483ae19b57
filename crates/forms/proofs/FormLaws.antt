-- Sheets of any form: lengths of numbers, rows and trailers, and what is read back of a sheet that was written.
use mathlib.Core.Path.{◌≡◌, refl, sym, ap, ◌∙◌}
use mathlib.Core.Bool.{true, ◌&&◌}
use mathlib.Core.List.{List, [], ◌∷◌, ◌++◌, append_assoc}
use Prim.Native.Nat.{ℕ, zero, suc, ◌+◌, ◌-◌, ◌*◌, ◌/◌, ◌%◌, ◌≤◌, ◌<◌}
use native.Mathlib.Nat.{div-add-mod', mul-suc, mul-zero, mul-le-mul_left}
use native.Mathlib.Omega.{arith}
use lib.ListN.{length, get_or, take, drop, length-append, length-drop}
use lib.Seq.{drop-drop, drop_at, take_at, get_or-append-add, take-append-le, drop-append-le, get_or-take, get_or-drop}
use Rattle.words.proofs.WordLaws.{part_of_front}
use Rattle.columns.specs.Texts.{same}
use Rattle.forms.specs.Counting.{first, count}
use Rattle.forms.specs.Forms.{Form, code_in, number_in, spread, number, numbers, value_from, row_bytes, trailer_bytes, sheet_bytes, page_row, bad_at, shape, trailer_of, closed, head_at, lowest_at, found_at, fits_form}
use Rattle.forms.proofs.CountLaws.{first_cong, count_cong}
use Rattle.columns.proofs.SameLaws.{same_refl}

-- A number in b bytes has b bytes,
length-spread : (b x : ℕ) (t : List ℕ) → length (spread b x t) ≡ b + suc (length t)
length-spread zero x t = omega arith
length-spread (suc b) x t = length-spread b (x / 256) (x % 256 ∷ t) ∙ omega arith

pub length-number : (b x : ℕ) → length (number b x) ≡ b
length-number zero x = refl
length-number (suc b) x = length-spread b x [] ∙ omega arith

pub length-numbers : (b : ℕ) (xs : List ℕ) → length (numbers b xs) ≡ b * length xs
length-numbers b [] = sym (mul-zero b)
length-numbers b (x ∷ xs) = rw (length-append, length-number b x, length-numbers b xs, mul-suc b (length xs)) (omega arith)

-- and gives the number back.
value_spread : (b x : ℕ) (t : List ℕ) → value_from 0 (spread b x t) ≡ value_from x t
value_spread zero x t = ap (λ (v : ℕ). value_from v t) (omega arith)
value_spread (suc b) x t = value_spread b (x / 256) (x % 256 ∷ t) ∙ ap (λ (v : ℕ). value_from v t) (div-add-mod' x 256)

pub number_back : (b x : ℕ) → 1 ≤ b → value_from 0 (number b x) ≡ x
number_back zero x h = absurd (omega arith)
number_back (suc b) x h = value_spread b x []

-- Number q of numbers one after the other.
pub numbers_back : (b : ℕ) (xs : List ℕ) (q : ℕ) → 1 ≤ b → q < length xs → value_from 0 (take b (drop (b * q) (numbers b xs))) ≡ get_or xs q 0
numbers_back b [] q h l = absurd (omega arith)
numbers_back b (x ∷ xs) zero h l =
    let z : b * 0 ≡ 0 = mul-zero b in
    rw (z, take_at (number b x) (numbers b xs) b (length-number b x)) (number_back b x h)
numbers_back b (x ∷ xs) (suc q) h l =
    let e : b * suc q ≡ b + b * q = mul-suc b q ∙ omega arith in
    let past : drop (b * suc q) (number b x ++ numbers b xs) ≡ drop (b * q) (numbers b xs) =
    rw e (sym (drop-drop (b * q) b (number b x ++ numbers b xs)) ∙ rw (drop_at (number b x) (numbers b xs) b (length-number b x))) in
    rw past (numbers_back b xs q h (omega arith))

module _ (f : Form) where
  -- What was put into a row is read back.
  pub row_number : (code : ℕ) (xs : List ℕ) (q : ℕ) → 1 ≤ f.bytes → q < length xs → number_in f (row_bytes f code xs) q ≡ get_or xs q 0
  row_number code xs q h l = rw (← drop-drop (f.bytes * q) 1 (row_bytes f code xs)) (numbers_back f.bytes xs q h l)

  -- What follows the rows makes none of them bad or good.
  pub row_standing : (standing rest : List ℕ) (i : ℕ) → f.width * i + f.width ≤ length standing → page_row f (standing ++ rest) (suc i) ≡ page_row f standing (suc i)
  unfolding page_row
  row_standing standing rest i h =
      let e : suc i - 1 ≡ i = omega arith in
      let left : f.width ≤ length (drop (f.width * i) standing) = rw length-drop (omega arith) in
      rw (e, drop-append-le (f.width * i) standing rest (omega arith), take-append-le f.width (drop (f.width * i) standing) rest left)

  -- Row i + 1's code and numbers, where they stand in the sheet.
  pub code_place : (sheet : List ℕ) (i : ℕ) → 1 ≤ f.width → code_in (page_row f sheet (i + 1)) ≡ get_or sheet (f.width * i) 0
  unfolding page_row
  code_place sheet i h =
      let e : i + 1 - 1 ≡ i = omega arith in
      rw e (get_or-take f.width (drop (f.width * i) sheet) 0 0 h ∙ get_or-drop (f.width * i) sheet 0 0 ∙ ap (λ (m : ℕ). get_or sheet m 0) (omega arith))

  pub number_place : (sheet : List ℕ) (i q : ℕ) → 1 + f.bytes * q + f.bytes ≤ f.width
      → number_in f (page_row f sheet (i + 1)) q ≡ value_from 0 (take f.bytes (drop (f.width * i + (1 + f.bytes * q)) sheet))
  unfolding page_row
  number_place sheet i q h =
      let e : i + 1 - 1 ≡ i = omega arith in
      let w = f.width in
      let a = 1 + f.bytes * q in
      rw (e, part_of_front f.bytes a w (drop (w * i) sheet) h, drop-drop a (w * i) sheet)

  pub bad_standing : (standing rest : List ℕ) (i : ℕ) → f.width * i + f.width ≤ length standing → bad_at f (standing ++ rest) (suc i) ≡ bad_at f standing (suc i)
  unfolding bad_at
  bad_standing standing rest i h = rw (row_standing standing rest i h)

  -- A row of m numbers has 1 + m * b bytes.
  pub row_length : (code : ℕ) (xs : List ℕ) → length (row_bytes f code xs) ≡ 1 + f.bytes * length xs
  row_length code xs = rw (length-numbers f.bytes xs) (omega arith)

  trailer_length : (n head lowest found : ℕ) → length f.mark ≡ 2 → length (trailer_of f n head lowest found) ≡ trailer_bytes f
  unfolding trailer_of
  trailer_length n head lowest found m = simp (length-append, length-number, m) (omega arith)

  -- Rows with a trailer behind them, whatever it says.
  module _ (n head lowest found : ℕ) (standing : List ℕ) (fits : length standing ≡ f.width * n) where
    abbrev last_of : List ℕ
    last_of = trailer_of f n head lowest found

    abbrev whole : List ℕ
    whole = standing ++ last_of

    -- behind the rows stands the trailer,
    trailer_back : drop (f.width * n) whole ≡ last_of
    trailer_back = drop_at standing last_of (f.width * n) fits

    pub ended-rows : take (f.width * n) whole ≡ standing
    ended-rows = take_at standing last_of (f.width * n) fits

    -- in which each part stands in its place.
    pub ended-head : head_at f whole n ≡ head
    unfolding head_at trailer_of
    ended-head = ap (λ (m : ℕ). get_or whole (m + 3) 0) (sym fits) ∙ get_or-append-add standing last_of 3 0

    four_on : drop (f.width * n + 4) whole ≡ number f.bytes lowest ++ (number f.bytes found ++ f.mark)
    unfolding trailer_of
    four_on = sym (drop-drop 4 (f.width * n) whole) ∙ rw trailer_back

    pub ended_lowest : 1 ≤ f.bytes → lowest_at f whole n ≡ lowest
    unfolding lowest_at
    ended_lowest h = rw (four_on, take_at (number f.bytes lowest) (number f.bytes found ++ f.mark) f.bytes (length-number f.bytes lowest)) (number_back f.bytes lowest h)

    pub ended_found : 1 ≤ f.bytes → found_at f whole n ≡ found
    unfolding found_at
    ended_found h =
        let place : f.width * n + (4 + f.bytes) ≡ f.width * n + 4 + f.bytes = omega arith in
        let rest : drop (f.width * n + 4 + f.bytes) whole ≡ number f.bytes found ++ f.mark =
        sym (drop-drop f.bytes (f.width * n + 4) whole) ∙ rw four_on (drop_at (number f.bytes lowest) (number f.bytes found ++ f.mark) f.bytes (length-number f.bytes lowest)) in
        rw (place, rest, take_at (number f.bytes found) f.mark f.bytes (length-number f.bytes found)) (number_back f.bytes found h)

    -- The rows are those that stand.
    room : (i : ℕ) → i < n → f.width * i + f.width ≤ length standing
    room i h = rw fits (let m : f.width * suc i ≤ f.width * n = mul-le-mul_left f.width h in omega (arith, m, mul-suc f.width i))

    pub ended_row : (i : ℕ) → i < n → page_row f whole (suc i) ≡ page_row f standing (suc i)
    ended_row i h = row_standing standing last_of i (room i h)

    pub ended-bad : (i : ℕ) → i < n → bad_at f whole (suc i) ≡ bad_at f standing (suc i)
    ended-bad i h = bad_standing standing last_of i (room i h)

    mark_back : drop (4 + 2 * f.bytes) last_of ≡ f.mark
    unfolding trailer_of
    mark_back =
        let two : length (number f.bytes lowest ++ number f.bytes found) ≡ 2 * f.bytes = rw (length-append, length-number f.bytes lowest, length-number f.bytes found) (omega arith) in
        sym (drop-drop (2 * f.bytes) 4 last_of)
        ∙ rw (← append_assoc (number f.bytes lowest) (number f.bytes found) f.mark) (drop_at (number f.bytes lowest ++ number f.bytes found) f.mark (2 * f.bytes) two)

    shape_back : take 3 last_of ≡ shape f n
    unfolding trailer_of
    shape_back = refl

    -- It fits its own form,
    pub ended_fits : fits_form f whole n ≡ true
    unfolding fits_form
    ended_fits = rw (trailer_back, mark_back, same_refl f.mark, shape_back, same_refl (shape f n))

    -- and has its length.
    pub ended-length : length f.mark ≡ 2 → length whole ≡ sheet_bytes f n
    ended-length m = rw (length-append, fits, trailer_length n head lowest found m)

  -- Rows with the trailer that follows from them.
  module _ (n head : ℕ) (standing : List ℕ) (fits : length standing ≡ f.width * n) where
    abbrev low : ℕ
    low = first (bad_at f standing) n

    abbrev many : ℕ
    many = count (bad_at f standing) n

    pub rows_back : take (f.width * n) (closed f n head standing) ≡ standing
    unfolding closed
    rows_back = ended-rows n head low many standing fits

    pub head_back : head_at f (closed f n head standing) n ≡ head
    unfolding closed
    head_back = ended-head n head low many standing fits

    pub lowest_back : 1 ≤ f.bytes → lowest_at f (closed f n head standing) n ≡ first (bad_at f standing) n
    unfolding closed
    lowest_back h = ended_lowest n head low many standing fits h

    pub found_back : 1 ≤ f.bytes → found_at f (closed f n head standing) n ≡ count (bad_at f standing) n
    unfolding closed
    found_back h = ended_found n head low many standing fits h

    -- So lowest bad row and number of bad rows are those of the whole sheet.
    still_bad : (i : ℕ) → i < n → bad_at f (closed f n head standing) (suc i) ≡ bad_at f standing (suc i)
    unfolding closed
    still_bad i h = ended-bad n head low many standing fits i h

    pub lowest_whole : 1 ≤ f.bytes → lowest_at f (closed f n head standing) n ≡ first (bad_at f (closed f n head standing)) n
    lowest_whole h = lowest_back h ∙ sym (first_cong (bad_at f (closed f n head standing)) (bad_at f standing) n still_bad)

    pub found_whole : 1 ≤ f.bytes → found_at f (closed f n head standing) n ≡ count (bad_at f (closed f n head standing)) n
    found_whole h = found_back h ∙ sym (count_cong (bad_at f (closed f n head standing)) (bad_at f standing) n still_bad)

    pub fits_back : fits_form f (closed f n head standing) n ≡ true
    unfolding closed
    fits_back = ended_fits n head low many standing fits

    pub closed-length : length f.mark ≡ 2 → length (closed f n head standing) ≡ sheet_bytes f n
    unfolding closed
    closed-length m = ended-length n head low many standing fits m

  -- The trailer's shape and mark, where they stand.
  pub form-parts : (sheet : List ℕ) (n : ℕ) → fits_form f sheet n ≡ (same (shape f n) (take 3 (drop (f.width * n) sheet)) && same f.mark (drop (f.width * n + (4 + 2 * f.bytes)) sheet))
  unfolding fits_form
  form-parts sheet n = rw (drop-drop (4 + 2 * f.bytes) (f.width * n) sheet)
