-- Each kind's rule is its three parts, and the split loses nothing: a field breaks its rule exactly if it has one of the three flaws, and it has one only.
use mathlib.Core.Path.{◌≡◌, refl, sym, ap, ◌∙◌}
use mathlib.Core.Bool.{Bool, true, false, cond, not, ◌&&◌, ◌||◌, false≢true, and-true, and-false}
use mathlib.Core.List.{List, [], ◌∷◌}
use Prim.Native.Nat.{ℕ, suc, ◌+◌, ◌-◌, ◌*◌}
use Prim.Native.String.{String}
use lib.Dec.{leb}
use lib.IntN.{ℤ}
use lib.ListN.{get_or, take, drop, replicate}
use borrow.Author.Tests.{eqb-true, ne_eqb}
use Rattle.columns.specs.Sets.{is, among, is_digit}
use Rattle.columns.specs.Texts.{skip, blank, every, each, byte_good, one_of, sized}
use Rattle.columns.proofs.TextLaws.{and_split, and_both, cond_case}
use Rattle.numerals.specs.Numbers.{signed_of, passes}
use Rattle.decimals.specs.Decimals.{decimal_of}
use Rattle.formats.specs.Tenths.{tenths_good}
use Rattle.days.specs.Dates.{date_reads, unread_date, date_of, date_in, date_rule, day_passes, date_filled, day_good, date_good}
use Rattle.frequencies.specs.Frequencies.{above_zero, amount_good, unit_good}
use Rattle.distances.specs.Distances.{height_range, height_good}
use Rattle.positions.specs.Positions.{whole_at, arc_seconds, arc_good, position_good, whole_reads, arc_reads, position_reads}
use Rattle.remarks.specs.Remarks.{remarks_good}
use Rattle.serials.specs.Serials.{serial_good}
use Rattle.basics.specs.Fields.{at}
use Rattle.fields.specs.Kinds.{Kind, amount, unit, byte, choice, text, dropped, remarks, date, date_or_blank, tenths, kilometres, metres, metres_or_blank, position, whole, whole_or_blank, Meaning, text_keeps, meaning}
use Rattle.fields.specs.Rows.{Row, Values, rules_from, fits_of, row_behind}
use Rattle.fields.specs.Table.{station_table}
use Rattle.flaws.specs.Flaws.{flawless, unread, ranged}
use Rattle.flaw_parts.specs.Parts.{number_reads, day_reads, number_within, date_within, day_within, arc_within, position_within, Parts, whole_there, parts, flaw_in, flaw_by, flaws_from, kept_as_bytes, typed_flaw_by, typed_flaws, flaw_at, flawless_all}
use Rattle.flaws.specs.declared.Flaw.{Flaw}
use Rattle.flaws.specs.declared.Flaw.TheVariants as flaw
use Rattle.flaw_parts.proofs.AdmittedLaws.{all_in_lem, all_in, admitted}
use Rattle.std.specs.Prelude.{Option, Some, None, Result, Ok, Err}

-- ---- a rule holds where the field is read and in range

-- numbers,
number-split : (range : ℤ → Bool) (v : Result (Option ℤ) Flaw) → passes range v ≡ (number_reads v && number_within range v)
number-split range (Err wrong) = refl
number-split range (Ok None) = refl
number-split range (Ok (Some z)) = refl

amount-split : (p : List ℕ) → amount_good p ≡ (number_reads (decimal_of 5 5 false p) && number_within above_zero (decimal_of 5 5 false p))
unfolding amount_good
amount-split p = number-split above_zero (decimal_of 5 5 false p)

tenths_split : (a b : ℕ) (sign : Bool) (range : ℤ → Bool) (p : List ℕ) → tenths_good a b sign range p ≡ (number_reads (decimal_of a b sign p) && number_within range (decimal_of a b sign p))
unfolding tenths_good
tenths_split a b sign range p = number-split range (decimal_of a b sign p)

height_split : (p : List ℕ) → height_good p ≡ (number_reads (signed_of p) && number_within height_range (signed_of p))
unfolding height_good
height_split p = number-split height_range (signed_of p)

-- units,
one_wider : (A B : ℕ → Bool) → ((c : ℕ) → A c ≡ true → B c ≡ true) → (q : List ℕ) → each (A ∷ []) q ≡ true → each (B ∷ []) q ≡ true
unfolding each
one_wider A B w [] e = e
one_wider A B w (c ∷ []) e = and_both (B c) true (w c (and_split (A c) true e).0) refl
one_wider A B w (c ∷ d ∷ q) e = absurd (false≢true (and_split (A c) false e).1)

unit_letters : all_in (among "kMG ") "kMG" ≡ true
unfolding among
unit_letters = refl

unit_space : among "kMG " 32 ≡ true
unfolding among
unit_space = refl

unit_reads : (p q : List ℕ) → unit_good p q ≡ true → byte_good (among "kMG ") q ≡ true
unfolding unit_good byte_good
unit_reads p q =
    cond_case (λ (b : Bool). b ≡ true → each (among "kMG " ∷ []) q ≡ true) (blank p)
    (λ r e. one_wider (is " ") (among "kMG ") (λ c h. ap (among "kMG ") (eqb-true c 32 h) ∙ unit_space) q e)
    (λ r e. one_wider (among "kMG") (among "kMG ") (all_in_lem (among "kMG ") "kMG" unit_letters) q e)

absorbed : (a b : Bool) → (b ≡ true → a ≡ true) → b ≡ (a && b)
absorbed true b h = refl
absorbed false true h = sym (h refl)
absorbed false false h = refl

-- dates,
day_split : (p : List ℕ) → day_good p ≡ (day_reads p && day_within p)
unfolding day_good date_of day_reads day_within date_reads date_within
day_split p = by (unread_date p) (blank p) (each (replicate 8 is_digit) p) (date_rule (date_in p)) where
  by : (x : Flaw) (b e r : Bool) → day_passes (cond b (Ok None) (cond (e && r) (Ok (Some (date_in p))) (Err x))) ≡ ((b || e) && (b || r))
  by x true e r = refl
  by x false true true = refl
  by x false true false = refl
  by x false false r = refl

-- eight digits are not blank
digit_no_space : (c : ℕ) → is_digit c ≡ true → is " " c ≡ false
digit_no_space c e = ne_eqb c 32 (λ q. false≢true (sym (ap is_digit q) ∙ e))

digits_unblank : (p : List ℕ) → each (replicate 8 is_digit) p ≡ true → blank p ≡ false
unfolding each skip
digits_unblank [] e = absurd (false≢true e)
digits_unblank (c ∷ p) e = rw (digit_no_space c (and_split (is_digit c) (each (replicate 7 is_digit) p) e).0)

date_split : (p : List ℕ) → date_good p ≡ (date_reads p && date_within p)
unfolding date_good date_of date_reads date_within
date_split p = by (unread_date p) (blank p) (each (replicate 8 is_digit) p) (date_rule (date_in p)) (digits_unblank p) where
  by : (x : Flaw) (b e r : Bool) → (e ≡ true → b ≡ false) → date_filled (cond b (Ok None) (cond (e && r) (Ok (Some (date_in p))) (Err x))) ≡ (e && r)
  by x true true r h = absurd (false≢true (sym (h refl)))
  by x true false r h = refl
  by x false true true h = refl
  by x false true false h = refl
  by x false false r h = refl

-- and 4C
arc_split : (d : ℕ) (letters : String) (degrees : ℕ) (p : List ℕ) → arc_good d letters degrees p ≡ (arc_reads d letters p && arc_within d degrees p)
unfolding arc_good arc_reads arc_within
arc_split d letters degrees p = by (whole_reads 0 d p) (leb (whole_at 0 d p) degrees) (among letters (get_or p d 0)) (whole_reads (d + 1) 2 p) (leb (whole_at (d + 1) 2 p) 59) (whole_reads (d + 3) 2 p) (leb (whole_at (d + 3) 2 p) 59) (leb (arc_seconds d p) (3600 * degrees)) where
  by : (g u l m v s w t : Bool) → ((g && u) && l && (m && v) && (s && w) && t) ≡ ((g && l && m && s) && (u && v && w && t))
  by false u l m v s w t = refl
  by true false l m v s w t = sym (and-false (l && m && s))
  by true true false m v s w t = refl
  by true true true false v s w t = refl
  by true true true true false s w t = sym (and-false s)
  by true true true true true false w t = refl
  by true true true true true true w t = refl

position_split : (p : List ℕ) → position_good p ≡ (position_reads p && position_within p)
unfolding position_good position_reads position_within
position_split p = rw (arc_split 3 "EW" 180 (take 8 p), arc_split 2 "NS" 90 (drop 8 p)) (by (sized 15 p) (arc_reads 3 "EW" (take 8 p)) (arc_within 3 180 (take 8 p)) (arc_reads 2 "NS" (drop 8 p)) (arc_within 2 90 (drop 8 p))) where
  by : (n a u b v : Bool) → (n && (a && u) && (b && v)) ≡ ((n && a && b) && (u && v))
  by false a u b v = refl
  by true false u b v = refl
  by true true false b v = sym (and-false b)
  by true true true b v = refl

alone : (a : Bool) → a ≡ (a && true)
alone a = sym (and-true a)

-- A field keeps its rule exactly if it can be read and is in range, for each kind in w columns.
pub split : (kind : Kind) (w : ℕ) (f : List (List ℕ)) (k : ℕ) → (meaning kind w).good f k ≡ ((parts kind w).reads (at f k) && (parts kind w).within (at f (k - 1)) (at f k))
split amount w f k = amount-split (at f k)
split unit w f k = absorbed (byte_good (among "kMG ") (at f k)) (unit_good (at f (k - 1)) (at f k)) (unit_reads (at f (k - 1)) (at f k))
split (byte first set) w f k = alone (byte_good set (at f k))
split (choice xs) w f k = alone (one_of xs (at f k))
split (text rule) w f k = alone (text_keeps rule w (at f k))
split (dropped rule) w f k = alone (text_keeps rule w (at f k))
split remarks w f k = alone (remarks_good (at f k))
split date w f k = date_split (at f k)
split date_or_blank w f k = day_split (at f k)
split (tenths a sign range) w f k = tenths_split a 1 sign range (at f k)
split kilometres w f k = alone (whole_there (at f k))
split metres w f k = alone (whole_there (at f k))
split metres_or_blank w f k = height_split (at f k)
split position w f k = position_split (at f k)
split whole w f k = alone (whole_there (at f k))
split whole_or_blank w f k = alone (serial_good (at f k))

-- ---- the split loses nothing

-- three tests, of which the second gives the first
three : (a r w : Bool) → (r ≡ true → a ≡ true) → (r && w) ≡ flawless (cond (not a) flaw.Byte (cond (r && not w) flaw.Range (cond (not r) flaw.Shape flaw.None)))
three true true true h = refl
three true true false h = refl
three true false w h = refl
three false true w h = absurd (false≢true (h refl))
three false false w h = refl

-- A field keeps its rule exactly if it has no flaw, and so breaks it exactly if it has one of the three.
pub rule_split : (kind : Kind) (w : ℕ) (f : List (List ℕ)) (k : ℕ) → (meaning kind w).good f k ≡ flawless (flaw_in (parts kind w) (at f (k - 1)) (at f k))
rule_split kind w f k =
    let part = parts kind w in
    split kind w f k ∙ three (every part.admits (at f k)) (part.reads (at f k)) (part.within (at f (k - 1)) (at f k)) (admitted kind w (at f k))

-- Each flaw says what it means, and none of the three applies together with another: what lies outside its range has admitted bytes only.
module _ (kind : Kind) (w : ℕ) (before p : List ℕ) where
  pub outside_admitted : ((parts kind w).reads p && not ((parts kind w).within before p)) ≡ true → every (parts kind w).admits p ≡ true
  outside_admitted e = admitted kind w p (and_split ((parts kind w).reads p) (not ((parts kind w).within before p)) e).0

  pub byte_means : every (parts kind w).admits p ≡ false → flaw_in (parts kind w) before p ≡ flaw.Byte
  byte_means e = rw e

  pub range_means : ((parts kind w).reads p && not ((parts kind w).within before p)) ≡ true → flaw_in (parts kind w) before p ≡ flaw.Range
  range_means e = rw (outside_admitted e, e)

  pub shape_means : every (parts kind w).admits p ≡ true → (parts kind w).reads p ≡ false → flaw_in (parts kind w) before p ≡ flaw.Shape
  shape_means a e = rw (a, e)

  pub none_means : (parts kind w).reads p ≡ true → (parts kind w).within before p ≡ true → flaw_in (parts kind w) before p ≡ flaw.None
  none_means r i = rw (admitted kind w p r, r, i)

-- What cannot be read has a byte that is not admitted, or no shape.
pub unread_flaw : (part : Parts) (before p : List ℕ) → part.reads p ≡ false → unread part.admits p ≡ flaw_in part before p
unread_flaw part before p e = rw e (by (every part.admits p)) where
  by : (a : Bool) → cond a flaw.Shape flaw.Byte ≡ cond (not a) flaw.Byte flaw.Shape
  by true = refl
  by false = refl

-- The parts of the station's field number k.
abbrev pub parts_at : ℕ → Parts
parts_at k = let r = row_behind station_table (k - 1) in parts r.kind r.length

-- It has no flaw where it is read and in range,
pub kept : (k : ℕ) (p : List ℕ) → (parts_at k).reads p ≡ true → (parts_at k).within [] p ≡ true → flaw.None ≡ flaw_at k [] p
kept k p e w = let r = row_behind station_table (k - 1) in sym (none_means r.kind r.length [] p e w)

-- and where it is not read that of its bytes.
pub broken : (k : ℕ) (p : List ℕ) → (parts_at k).reads p ≡ false → unread (parts_at k).admits p ≡ flaw_at k [] p
broken k p e = unread_flaw (parts_at k) [] p e

-- So it is in any table of fields,
pub table-split : (k : ℕ) (t : List Row) (f : List (List ℕ)) → rules_from k t f ≡ flawless_all (flaws_from k t f)
table-split k [] f = refl
table-split k (r ∷ rs) f = λ j. rule_split r.kind r.length f k j ∷ table-split (suc k) rs f j

-- with typed values,
in_range : (b : Bool) → b ≡ flawless (ranged b)
in_range true = refl
in_range false = refl

one_typed : (test : ℕ → Bool) (v : ℕ) → test v ≡ byte_good test (v ∷ [])
unfolding byte_good each
one_typed test v = sym (and-true (test v))

-- a text is judged as a field of its own
abbrev as_read : (kind : Kind) (w : ℕ) (p : List ℕ) → (meaning kind w).good (p ∷ []) 1 ≡ flawless (flaw_in (parts kind w) p p)
as_read kind w p = rule_split kind w (p ∷ []) 1

pub typed_split : (r : Row) (v : (meaning r.kind r.length).Value) → (meaning r.kind r.length).fits v ≡ flawless (typed_flaw_by r v)
typed_split r = by r.kind r.length where
  by : (kind : Kind) (w : ℕ) (v : (meaning kind w).Value) → (meaning kind w).fits v ≡ flawless (cond (kept_as_bytes kind) (flaw_in (parts kind w) [] ((meaning kind w).spelt v)) (ranged ((meaning kind w).fits v)))
  by amount w v = in_range ((meaning amount w).fits v)
  by unit w v = refl
  by (byte first set) w v = one_typed set v ∙ as_read (byte first set) w (v ∷ [])
  by (choice xs) w v = as_read (choice xs) w v
  by (text rule) w v = as_read (text rule) w v
  by (dropped rule) w v = refl
  by remarks w v = as_read remarks w v
  by date w v = in_range ((meaning date w).fits v)
  by date_or_blank w v = in_range ((meaning date_or_blank w).fits v)
  by (tenths a sign range) w v = in_range ((meaning (tenths a sign range) w).fits v)
  by kilometres w v = in_range ((meaning kilometres w).fits v)
  by metres w v = in_range ((meaning metres w).fits v)
  by metres_or_blank w v = in_range ((meaning metres_or_blank w).fits v)
  by position w v = in_range ((meaning position w).fits v)
  by whole w v = in_range ((meaning whole w).fits v)
  by whole_or_blank w v = in_range ((meaning whole_or_blank w).fits v)

-- and in any table of them.
pub typed_table_split : (t : List Row) (v : Values t) → fits_of t v ≡ flawless_all (typed_flaws t v)
typed_table_split [] v = refl
typed_table_split (r ∷ rs) v = λ j. typed_split r v.0 j ∷ typed_table_split rs v.1 j
