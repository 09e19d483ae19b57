-- What can be read has admitted bytes only, for each kind of field: so the three flaws exclude one another.
use mathlib.Core.Path.{◌≡◌, refl, sym, ap, ◌∙◌}
use mathlib.Core.Bool.{Bool, true, false, cond, not, ◌&&◌, ◌||◌, false≢true, or-true}
use mathlib.Core.List.{List, [], ◌∷◌}
use Prim.Native.Nat.{ℕ, zero, suc, ◌+◌, ◌-◌, ◌≤◌, ◌<◌}
use Prim.Native.Char.{code}
use Prim.Native.String.{String}
use Prim.Native.String as string
use native.Mathlib.Omega.{arith}
use lib.Dec.{leb, eqb}
use lib.IntN.{ℤ}
use lib.ListN.{length, get_or, take, drop, replicate, length-drop}
use lib.Seq.{drop-drop, length-take-le}
use borrow.Author.Tests.{eqb-true, leb-true, le-leb}
use Rattle.columns.specs.Sets.{is, among, between, is_digit, is_upper, is_lower, is_hex, is_text}
use Rattle.columns.specs.Texts.{bytes, head, ended, skip, blank, trimmed, every, each, byte_good, same, one_of, how_many, sized, text_good}
use Rattle.columns.proofs.TextLaws.{and_split, and_both, cond_case, every_end, each-replicate}
use Rattle.numerals.specs.Numbers.{most_digits, leading, after, whole_digits, whole_of, whole_filled, admits_whole, number_of, signed_of}
use Rattle.decimals.specs.Decimals.{magnitude_of, admits_decimal, decimal_of}
use Rattle.days.specs.Dates.{date_reads}
use Rattle.positions.specs.Positions.{admits_position, whole_reads, arc_reads, position_reads}
use Rattle.emissions.specs.Emission.{is_modulation, is_signal, is_information, is_detail, is_multiplex, bandwidth_good, detail_good, emission_good}
use Rattle.remarks.specs.Remarks.{cell_good, installation_good, remarks_good}
use Rattle.serials.specs.Serials.{serial_good, serial_passes}
use Rattle.fields.specs.Kinds.{TextRule, places, word, left_text, literal, emission, Kind, amount, unit, byte, choice, text, dropped, remarks, date, date_or_blank, tenths, kilometres, metres, metres_or_blank, position, whole, whole_or_blank, text_keeps}
use Rattle.flaw_parts.specs.Parts.{in_some, at_some, emission_sets, admits_text, number_reads, day_reads, Parts, parts}
use Rattle.flaw_parts.proofs.EveryLaws.{or_left, or_right, or_case, every_wider, every-parts, every_at, every-skip, every-blank, every-trimmed, whole_digits_in, whole_in, magnitude_in, number_in, same_in, one_in, each_in, byte_in}
use Rattle.std.specs.Prelude.{Option, Result}
use Rattle.numerals.specs.declared.Unread.{Unread}

whole_digit : (sign : Bool) (c : ℕ) → is_digit c ≡ true → admits_whole sign c ≡ true
unfolding admits_whole
whole_digit sign c e = rw e

whole_space : (sign : Bool) → admits_whole sign 32 ≡ true
unfolding admits_whole
whole_space sign = refl

whole-mark : (sign : Bool) → sign ≡ true → (c : ℕ) → among "+-" c ≡ true → admits_whole sign c ≡ true
unfolding admits_whole
whole-mark sign s c e = rw (s, e) (or-true (is_digit c || is " " c))

decimal-mark : (sign : Bool) → sign ≡ true → (c : ℕ) → among "+-" c ≡ true → admits_decimal sign c ≡ true
unfolding admits_decimal
decimal-mark sign s c e = or_left (admits_whole sign c) (is "." c) (whole-mark sign s c e)

decimal_digit : (sign : Bool) (c : ℕ) → is_digit c ≡ true → admits_decimal sign c ≡ true
unfolding admits_decimal
decimal_digit sign c e = or_left (admits_whole sign c) (is "." c) (whole_digit sign c e)

decimal_space : (sign : Bool) → admits_decimal sign 32 ≡ true
unfolding admits_decimal
decimal_space sign = or_left (admits_whole sign 32) (is "." 32) (whole_space sign)

decimal_point : (sign : Bool) → admits_decimal sign 46 ≡ true
unfolding admits_decimal
decimal_point sign = or-true (admits_whole sign 46)

-- numbers,
pub decimal_admitted : (a b : ℕ) (sign : Bool) (p : List ℕ) → number_reads (decimal_of a b sign p) ≡ true → every (admits_decimal sign) p ≡ true
unfolding decimal_of
decimal_admitted a b sign p =
    let S = admits_decimal sign in
    let sp = decimal_space sign in
    let dg = decimal_digit sign in
    number_in S sp dg sign (decimal-mark sign) S (magnitude_of a b) (magnitude_in S sp dg (decimal_point sign) a b) p

signed_admitted : (p : List ℕ) → number_reads (signed_of p) ≡ true → every (admits_whole true) p ≡ true
unfolding signed_of
signed_admitted p =
    let S = admits_whole true in
    number_in S (whole_space true) (whole_digit true) true (whole-mark true) S whole_digits (whole_digits_in S (whole_digit true)) p

whole_admitted : (p : List ℕ) → whole_filled (whole_of p) ≡ true → every (admits_whole false) p ≡ true
whole_admitted p = whole_in (admits_whole false) (whole_space false) (whole_digit false) p

-- dates,
date_admitted : (p : List ℕ) → date_reads p ≡ true → every is_digit p ≡ true
unfolding date_reads
date_admitted p e = (and_split (eqb (length p) 8) (every is_digit p) (sym (each-replicate 8 is_digit p) ∙ e)).1

day_admitted : (p : List ℕ) → day_reads p ≡ true → every (admits_whole false) p ≡ true
unfolding day_reads
day_admitted p e =
    or_case (blank p) (date_reads p) e (every-blank (admits_whole false) (whole_space false) p)
    (λ q. every_wider (admits_whole false) is_digit (whole_digit false) p (date_admitted p q))

-- 4C,
module _ (S : ℕ → Bool) (space : S 32 ≡ true) (digit : (c : ℕ) → is_digit c ≡ true → S c ≡ true) where
  arc_in : (d : ℕ) (letters : String) → ((c : ℕ) → among letters c ≡ true → S c ≡ true) → (p : List ℕ) → length p ≡ d + 5 → arc_reads d letters p ≡ true → every S p ≡ true
  unfolding arc_reads
  arc_in d letters w p n e =
      let h = and_split (whole_reads 0 d p && among letters (get_or p d 0) && whole_reads (d + 1) 2 p) (whole_reads (d + 3) 2 p) e in
      let g = and_split (whole_reads 0 d p && among letters (get_or p d 0)) (whole_reads (d + 1) 2 p) h.0 in
      let f = and_split (whole_reads 0 d p) (among letters (get_or p d 0)) g.0 in
      let end : every S (drop 2 (drop (d + 3) p)) ≡ true = ap (every S) (drop-drop 2 (d + 3) p) ∙ every_end S p (d + 3 + 2) (omega arith) in
      let last : every S (drop (d + 3) p) ≡ true = every-parts S 2 (drop (d + 3) p) (whole_in S space digit (take 2 (drop (d + 3) p)) h.1) end in
      let same_place : d + 1 + 2 ≡ d + 3 = omega arith in
      let next : drop 2 (drop (d + 1) p) ≡ drop (d + 3) p = drop-drop 2 (d + 1) p ∙ ap (λ (i : ℕ). drop i p) same_place in
      let middle : every S (drop (d + 1) p) ≡ true = every-parts S 2 (drop (d + 1) p) (whole_in S space digit (take 2 (drop (d + 1) p)) g.1) (ap (every S) next ∙ last) in
      every-parts S d p (whole_in S space digit (take d p) f.0) (every_at S p d (omega arith) (w (get_or p d 0) f.1) middle)

position_whole : (c : ℕ) → admits_whole false c ≡ true → admits_position c ≡ true
unfolding admits_position
position_whole c e = rw e

position_east : (c : ℕ) → among "EW" c ≡ true → admits_position c ≡ true
unfolding admits_position
position_east c e = or_left (admits_whole false c || among "EW" c) (among "NS" c) (or_right (admits_whole false c) (among "EW" c) e)

position_north : (c : ℕ) → among "NS" c ≡ true → admits_position c ≡ true
unfolding admits_position
position_north c e = or_right (admits_whole false c || among "EW" c) (among "NS" c) e

position_admitted : (p : List ℕ) → position_reads p ≡ true → every admits_position p ≡ true
unfolding position_reads
position_admitted p e =
    let S = admits_position in
    let space = position_whole 32 (whole_space false) in
    let digit : (c : ℕ) → is_digit c ≡ true → S c ≡ true = λ c q. position_whole c (whole_digit false c q) in
    let h = and_split (sized 15 p && arc_reads 3 "EW" (take 8 p)) (arc_reads 2 "NS" (drop 8 p)) e in
    let g = and_split (sized 15 p) (arc_reads 3 "EW" (take 8 p)) h.0 in
    let n : length p ≡ 15 = eqb-true (length p) 15 g.0 in
    every-parts S 8 p
    (arc_in S space digit 3 "EW" position_east (take 8 p) (length-take-le 8 p (omega arith)) g.1)
    (arc_in S space digit 2 "NS" position_north (drop 8 p) (length-drop 8 p ∙ omega arith) h.1)

-- text whose trailing spaces are off,
word_admitted : (set : ℕ → Bool) (w : ℕ) (p : List ℕ) → (sized w p && (not (blank p) && every set (trimmed p))) ≡ true → every (λ c. set c || is " " c) p ≡ true
word_admitted set w p e =
    let S : ℕ → Bool = λ c. set c || is " " c in
    let h = and_split (sized w p) (not (blank p) && every set (trimmed p)) e in
    let g = and_split (not (blank p)) (every set (trimmed p)) h.1 in
    every-trimmed S (or-true (set 32)) p (every_wider S set (λ c q. or_left (set c) (is " " c) q) (trimmed p) g.1)

-- 7A: of four bytes that hold three of one set and one of another, none is in neither
how_many_few : (A B : ℕ → Bool) → ((c : ℕ) → B c ≡ true → A c ≡ false) → (p : List ℕ) → how_many A p + how_many B p ≤ length p
unfolding how_many
how_many_few A B apart [] = omega arith
how_many_few A B apart (c ∷ p) = by (A c) (B c) (apart c) (how_many_few A B apart p) where
  by : (a b : Bool) → (b ≡ true → a ≡ false) → how_many A p + how_many B p ≤ length p → cond a 1 0 + how_many A p + (cond b 1 0 + how_many B p) ≤ suc (length p)
  by true true f h = absurd (false≢true (sym (f refl)))
  by true false f h = omega arith
  by false true f h = omega arith
  by false false f h = omega arith

how_many_all : (A B S : ℕ → Bool) → ((c : ℕ) → B c ≡ true → A c ≡ false) → ((c : ℕ) → A c ≡ true → S c ≡ true) → ((c : ℕ) → B c ≡ true → S c ≡ true)
    → (p : List ℕ) → length p ≤ how_many A p + how_many B p → every S p ≡ true
unfolding how_many every
how_many_all A B S apart wa wb [] h = refl
how_many_all A B S apart wa wb (c ∷ p) h = by (A c) (B c) (apart c) (wa c) (wb c) (how_many_few A B apart p) (how_many_all A B S apart wa wb p) h where
  by : (a b : Bool) → (b ≡ true → a ≡ false) → (a ≡ true → S c ≡ true) → (b ≡ true → S c ≡ true) → how_many A p + how_many B p ≤ length p → (length p ≤ how_many A p + how_many B p → every S p ≡ true)
      → suc (length p) ≤ cond a 1 0 + how_many A p + (cond b 1 0 + how_many B p) → (S c && every S p) ≡ true
  by true true f u v few rest h = absurd (false≢true (sym (f refl)))
  by true false f u v few rest h = and_both (S c) (every S p) (u refl) (rest (omega arith))
  by false true f u v few rest h = and_both (S c) (every S p) (v refl) (rest (omega arith))
  by false false f u v few rest h = absurd (omega arith)

scale_no_digit : (c : ℕ) → among "HKMG" c ≡ true → is_digit c ≡ false
unfolding among
scale_no_digit c e =
    or_case (is "H" c) (is "K" c || (is "M" c || (is "G" c || false))) e (λ q. rw (eqb-true c 72 q))
    (λ f. or_case (is "K" c) (is "M" c || (is "G" c || false)) f (λ q. rw (eqb-true c 75 q))
    (λ g. or_case (is "M" c) (is "G" c || false) g (λ q. rw (eqb-true c 77 q))
    (λ h. or_case (is "G" c) false h (λ q. rw (eqb-true c 71 q)) (λ q. absurd (false≢true q)))))

-- a byte of the set at one place
set_at : (tests : List (ℕ → Bool)) (i c : ℕ) → get_or tests i (λ x. false) c ≡ true → at_some tests c ≡ true
unfolding at_some
set_at [] i c e = absurd (false≢true e)
set_at (t ∷ ts) zero c e = or_left (t c) (at_some ts c) e
set_at (t ∷ ts) (suc i) c e = or_right (t c) (at_some ts c) (set_at ts i c e)

emission_set : (i c : ℕ) → get_or emission_sets i (λ x. false) c ≡ true → at_some emission_sets c ≡ true
emission_set i c e = set_at emission_sets i c e

bandwidth_admitted : (p : List ℕ) → bandwidth_good p ≡ true → every (at_some emission_sets) p ≡ true
unfolding bandwidth_good
bandwidth_admitted p e =
    let h = and_split (sized 4 p && eqb (how_many is_digit p) 3 && eqb (how_many (among "HKMG") p) 1) (not (among "0KMG" (head p))) e in
    let g = and_split (sized 4 p && eqb (how_many is_digit p) 3) (eqb (how_many (among "HKMG") p) 1) h.0 in
    let f = and_split (sized 4 p) (eqb (how_many is_digit p) 3) g.0 in
    how_many_all is_digit (among "HKMG") (at_some emission_sets) scale_no_digit (emission_set 0) (emission_set 1) p
    (omega (arith, eqb-true (length p) 4 f.0, eqb-true (how_many is_digit p) 3 f.1, eqb-true (how_many (among "HKMG") p) 1 g.1))

detail_admitted : (x y : ℕ) → detail_good x y ≡ true → (at_some emission_sets x ≡ true) × (at_some emission_sets y ≡ true)
unfolding detail_good
detail_admitted x y e =
    or_case (is " " x && is " " y) (is_detail x && (is " " y || is_multiplex y)) e
    (λ q. let h = and_split (is " " x) (is " " y) q in (emission_set 7 x h.0, emission_set 7 y h.1))
    (λ q. let h = and_split (is_detail x) (is " " y || is_multiplex y) q in (emission_set 5 x h.0, or_case (is " " y) (is_multiplex y) h.1 (emission_set 7 y) (emission_set 6 y)))

emission_admitted : (p : List ℕ) → emission_good p ≡ true → every (at_some emission_sets) p ≡ true
unfolding emission_good
emission_admitted p e =
    let S = at_some emission_sets in
    let m = bandwidth_good (take 4 p) in
    let h = and_split (sized 9 p) (m && is_modulation (get_or p 4 0) && is_signal (get_or p 5 0) && is_information (get_or p 6 0) && detail_good (get_or p 7 0) (get_or p 8 0)) e in
    let g = and_split (m && is_modulation (get_or p 4 0) && is_signal (get_or p 5 0) && is_information (get_or p 6 0)) (detail_good (get_or p 7 0) (get_or p 8 0)) h.1 in
    let f = and_split (m && is_modulation (get_or p 4 0) && is_signal (get_or p 5 0)) (is_information (get_or p 6 0)) g.0 in
    let k = and_split (m && is_modulation (get_or p 4 0)) (is_signal (get_or p 5 0)) f.0 in
    let l = and_split m (is_modulation (get_or p 4 0)) k.0 in
    let d = detail_admitted (get_or p 7 0) (get_or p 8 0) g.1 in
    let n : length p ≡ 9 = eqb-true (length p) 9 h.0 in
    every-parts S 4 p (bandwidth_admitted (take 4 p) l.0)
    (every_at S p 4 (omega arith) (emission_set 2 (get_or p 4 0) l.1)
    (every_at S p 5 (omega arith) (emission_set 3 (get_or p 5 0) k.1)
    (every_at S p 6 (omega arith) (emission_set 4 (get_or p 6 0) f.1)
    (every_at S p 7 (omega arith) d.0
    (every_at S p 8 (omega arith) d.1 (every_end S p 9 (omega arith)))))))

-- and 13Z
text_digit : (c : ℕ) → is_digit c ≡ true → is_text c ≡ true
unfolding is_text
text_digit c e = or_left (is_upper c || is_lower c || is_digit c) (among "+-/*.(),= " c) (or_right (is_upper c || is_lower c) (is_digit c) e)

text_upper : (c : ℕ) → is_upper c ≡ true → is_text c ≡ true
unfolding is_text
text_upper c e = rw e

text_space : is_text 32 ≡ true
unfolding is_text among
text_space = refl

in_span : (low low' high' high c : ℕ) → low ≤ low' → high' ≤ high → (leb low' c && leb c high') ≡ true → (leb low c && leb c high) ≡ true
in_span low low' high' high c l h e =
    let g = and_split (leb low' c) (leb c high') e in
    and_both (leb low c) (leb c high) (le-leb low c (omega (arith, leb-true low' c g.0))) (le-leb c high (omega (arith, leb-true c high' g.1)))

text_hex : (c : ℕ) → is_hex c ≡ true → is_text c ≡ true
unfolding is_hex
text_hex c e = or_case (is_digit c) (between "A" "F" c) e (text_digit c) (λ q. text_upper c (in_span 65 65 70 90 c (omega arith) (omega arith) q))

-- the letters of a literal are in the text set, by computing
abbrev pub all_in : (ℕ → Bool) → String → Bool
all_in S string.[] = true
all_in S (string.◌∷◌ x s) = S (code x) && all_in S s

pub all_in_lem : (S : ℕ → Bool) (s : String) → all_in S s ≡ true → (c : ℕ) → among s c ≡ true → S c ≡ true
unfolding among
all_in_lem S string.[] h c e = absurd (false≢true e)
all_in_lem S (string.◌∷◌ x s) h c e =
    let g = and_split (S (code x)) (all_in S s) h in
    or_case (is x c) (among s c) e (λ q. ap S (eqb-true c (code x) q) ∙ g.0) (all_in_lem S s g.1 c)

abbrev all_in_some : (ℕ → Bool) → List String → Bool
all_in_some S [] = true
all_in_some S (x ∷ xs) = all_in S x && all_in_some S xs

all_in_some_lem : (S : ℕ → Bool) (xs : List String) → all_in_some S xs ≡ true → (c : ℕ) → in_some xs c ≡ true → S c ≡ true
unfolding in_some
all_in_some_lem S [] h c e = absurd (false≢true e)
all_in_some_lem S (x ∷ xs) h c e =
    let g = and_split (all_in S x) (all_in_some S xs) h in
    or_case (among x c) (in_some xs c) e (all_in_lem S x g.0 c) (all_in_some_lem S xs g.1 c)

text_letters : all_in is_text "IO" ≡ true
unfolding is_text among
text_letters = refl

text_sizes : all_in_some is_text (" 0" ∷ " 2" ∷ "10" ∷ []) ≡ true
unfolding is_text among
text_sizes = refl

installation_admitted : (p : List ℕ) → length p ≡ 3 → installation_good p ≡ true → every is_text p ≡ true
unfolding installation_good
installation_admitted p n e =
    or_case (blank p) (one_of (" 0" ∷ " 2" ∷ "10" ∷ []) (take 2 p) && among "IO" (get_or p 2 0)) e (every-blank is_text text_space p)
    (λ q. let h = and_split (one_of (" 0" ∷ " 2" ∷ "10" ∷ []) (take 2 p)) (among "IO" (get_or p 2 0)) q in
    every-parts is_text 2 p (one_in is_text (" 0" ∷ " 2" ∷ "10" ∷ []) (all_in_some_lem is_text (" 0" ∷ " 2" ∷ "10" ∷ []) text_sizes) (take 2 p) h.0)
    (every_at is_text p 2 (omega arith) (all_in_lem is_text "IO" text_letters (get_or p 2 0) h.1) (every_end is_text p 3 (omega arith))))

cell_admitted : (p : List ℕ) → cell_good p ≡ true → every is_text p ≡ true
unfolding cell_good
cell_admitted p e = every-skip is_text text_space p (every_wider is_text is_hex text_hex (skip p) e)

filled_remarks : (p : List ℕ) → length p ≡ 50 → (between "2" "5" (head p) && cell_good (take 9 (drop 1 p)) && installation_good (take 3 (drop 10 p)) && every is_text (drop 13 p)) ≡ true → every is_text p ≡ true
filled_remarks p n e =
    let h = and_split (between "2" "5" (head p) && cell_good (take 9 (drop 1 p)) && installation_good (take 3 (drop 10 p))) (every is_text (drop 13 p)) e in
    let g = and_split (between "2" "5" (head p) && cell_good (take 9 (drop 1 p))) (installation_good (take 3 (drop 10 p))) h.0 in
    let f = and_split (between "2" "5" (head p)) (cell_good (take 9 (drop 1 p))) g.0 in
    let three : length (take 3 (drop 10 p)) ≡ 3 = length-take-le 3 (drop 10 p) (omega (arith, length-drop 10 p)) in
    let rest : every is_text (drop 10 p) ≡ true = every-parts is_text 3 (drop 10 p) (installation_admitted (take 3 (drop 10 p)) three g.1) (ap (every is_text) (drop-drop 3 10 p) ∙ h.1) in
    let cell : every is_text (drop 1 p) ≡ true = every-parts is_text 9 (drop 1 p) (cell_admitted (take 9 (drop 1 p)) f.1) (ap (every is_text) (drop-drop 9 1 p) ∙ rest) in
    every_at is_text p 0 (omega arith) (text_digit (head p) (in_span 48 50 53 57 (head p) (omega arith) (omega arith) f.0)) cell

remarks_admitted : (p : List ℕ) → remarks_good p ≡ true → every is_text p ≡ true
unfolding remarks_good
remarks_admitted p e =
    let filled = between "2" "5" (head p) && cell_good (take 9 (drop 1 p)) && installation_good (take 3 (drop 10 p)) && every is_text (drop 13 p) in
    let h = and_split (sized 50 p) (blank p || filled) e in
    or_case (blank p) filled h.1 (every-blank is_text text_space p) (filled_remarks p (eqb-true (length p) 50 h.0))

-- what a text's rule keeps
text_admitted : (rule : TextRule) (w : ℕ) (p : List ℕ) → text_keeps rule w p ≡ true → every (admits_text rule) p ≡ true
unfolding text_good
text_admitted (places tests) w p e = each_in (at_some tests) tests (λ c q. q) p e
text_admitted (word set) w p e = word_admitted set w p e
text_admitted (left_text set) w p e = (and_split (sized w p) (every set p) (and_split (sized w p && every set p) (blank p || not (is " " (head p))) e).0).1
text_admitted (literal x) w p e = same_in (among x) x (λ c q. q) p e
text_admitted emission w p e = emission_admitted p e

-- a file number
digits_there : (t : List ℕ) → serial_passes (whole_digits t) ≡ true → whole_filled (whole_digits t) ≡ true
unfolding whole_digits
digits_there t =
    cond_case (λ (w : Result (Option ℕ) Unread). serial_passes w ≡ true → whole_filled w ≡ true) (not (ended (leading most_digits t)) && ended (after most_digits t))
    (λ q e. refl) (λ q e. absurd (false≢true e))

serial_admitted : (p : List ℕ) → serial_good p ≡ true → every (admits_whole false) p ≡ true
unfolding serial_good whole_of
serial_admitted p =
    let S = admits_whole false in
    cond_case (λ (w : Result (Option ℕ) Unread). serial_passes w ≡ true → every S p ≡ true) (ended (skip p))
    (λ q e. every-blank S (whole_space false) p q)
    (λ q e. every-skip S (whole_space false) p (whole_digits_in S (whole_digit false) (skip p) (digits_there (skip p) e)))

-- for each kind
pub admitted : (k : Kind) (w : ℕ) (p : List ℕ) → (parts k w).reads p ≡ true → every (parts k w).admits p ≡ true
admitted amount w p e = decimal_admitted 5 5 false p e
admitted unit w p e = byte_in (among "kMG ") p e
admitted (byte first set) w p e = byte_in set p e
admitted (choice xs) w p e = one_in (in_some xs) xs (λ c q. q) p e
admitted (text rule) w p e = text_admitted rule w p e
admitted (dropped rule) w p e = text_admitted rule w p e
admitted remarks w p e = remarks_admitted p e
admitted date w p e = date_admitted p e
admitted date_or_blank w p e = day_admitted p e
admitted (tenths a sign range) w p e = decimal_admitted a 1 sign p e
admitted kilometres w p e = whole_admitted p e
admitted metres w p e = whole_admitted p e
admitted metres_or_blank w p e = signed_admitted p e
admitted position w p e = position_admitted p e
admitted whole w p e = whole_admitted p e
admitted whole_or_blank w p e = serial_admitted p e
