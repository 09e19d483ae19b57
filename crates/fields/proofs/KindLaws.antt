-- Each kind of field reads back what it writes and writes what it reads, where its columns are as many as it asks for.
use mathlib.Core.Path.{◌≡◌, refl, sym, ap, subst, ◌∙◌}
use mathlib.Core.Bool.{Bool, true, not, ◌&&◌}
use mathlib.Core.List.{List, [], ◌∷◌}
use Prim.Native.Nat.{ℕ, suc, ◌-◌}
use Prim.Native.String.{String}
use native.Mathlib.Omega.{arith}
use lib.Dec.{eqb, leb}
use lib.ListN.{length, replicate, length-replicate}
use lib.IntN.{ℤ}
use borrow.Author.Tests.{eqb-true, leb-true}
use Rattle.columns.specs.Texts.{bytes, blank, trimmed, every, one_of, sized}
use Rattle.decimals.specs.Decimals.{decimal_width}
use Rattle.columns.proofs.TextLaws.{and_split}
use Rattle.columns.proofs.ColumnLaws.{Column, text_column, byte_column, each-sized, same-sized, one_sized, text_sized, AllSized}
use Rattle.numerals.proofs.WholeColumn.{whole_column}
use Rattle.days.proofs.DayColumns.{day_column, date_column}
use Rattle.basics.specs.Fields.{at}
use Rattle.frequencies.specs.Frequencies.{spell_amount, spell_unit, frequency_fits}
use Rattle.emissions.specs.Emission.{emission_good}
use Rattle.remarks.specs.Remarks.{remarks_good}
use Rattle.fields.specs.Kinds.{TextRule, places, word, left_text, literal, emission, Kind, amount, unit, byte, choice, text, dropped, remarks, date, date_or_blank, tenths, kilometres, metres, metres_or_blank, position, whole, whole_or_blank, Meaning, text_keeps, meaning}
use Rattle.frequencies.proofs.FrequencyColumns.{frequency_pair}
use Rattle.formats.proofs.TenthsColumn.{tenths_column}
use Rattle.distances.proofs.DistanceColumns.{radius_column, ground_column, height_column}
use Rattle.positions.proofs.PositionColumn.{position_column}
use Rattle.serials.proofs.SerialColumn.{serial_column}

-- What holds of a kind in w columns. A value that fits is spelt in w columns, and a field k of that spelling keeps the rule and says the value;
-- a field of w columns that keeps the rule says a value that fits. An amount and its unit stand beside one another: `Beside` is what one asks of the
-- other, and what is asked of the fields behind it.
pub record Lawful (w : ℕ) (m : Meaning) : Type 1 where
  pub Beside : List (List ℕ) → ℕ → m.Value → Type 0 → Type 0
  pub behind : (f : List (List ℕ)) (k : ℕ) (v : m.Value) (R : Type 0) → Beside f k v R → R
  pub wide : (v : m.Value) → m.fits v ≡ true → length (m.spelt v) ≡ w
  pub kept : (f : List (List ℕ)) (k : ℕ) (v : m.Value) (R : Type 0) → at f k ≡ m.spelt v → m.fits v ≡ true → Beside f k v R → m.good f k ≡ true
  pub back : (f : List (List ℕ)) (k : ℕ) (v : m.Value) (R : Type 0) → at f k ≡ m.spelt v → m.fits v ≡ true → Beside f k v R → m.value f k ≡ v
  pub read : (f : List (List ℕ)) (k : ℕ) → length (at f k) ≡ w → m.good f k ≡ true → m.fits (m.value f k) ≡ true

-- a kind that stands alone is a column
abbrev stands_alone : {A : Type 0} {n w : ℕ} {good : List ℕ → Bool} {value : List ℕ → A} {fits : A → Bool} {spelt : A → List ℕ} {empty : A} {range : ℤ → Bool}
    → Column n good value fits spelt → n ≡ w
    → Lawful w (record { Value = A; good = λ f k. good (at f k); value = λ f k. value (at f k); fits = fits; spelt = spelt; empty = empty; range = range })
stands_alone {good = good} {value = value} c q = record {
  Beside = λ f k v R. R;
  behind = λ f k v R b. b;
  wide = λ v e. c.wide v e ∙ q;
  kept = λ f k v R h e b. subst (λ (p : List ℕ). good p ≡ true) (sym h) (c.kept v e);
  back = λ f k v R h e b. ap value h ∙ c.back v e;
  read = λ f k l e. c.read (at f k) (l ∙ sym q) e;
}

-- an amount has its unit behind it,
abbrev amount_lawful : (w : ℕ) → 11 ≡ w → Lawful w (meaning amount w)
amount_lawful w q = record {
  Beside = λ f k v R. (at f (suc k) ≡ spell_unit v) × R;
  behind = λ f k v R b. b.1;
  wide = λ v e. frequency_pair.wide₁ v ∙ q;
  kept = λ f k v R h e b. rw h (frequency_pair.kept₁ v e);
  back = λ f k v R h e b. rw (h, b.0) (frequency_pair.back v e);
  read = λ f k l e. frequency_pair.read (at f k) (at f (suc k)) e;
}

-- and a unit its amount before it, which fits
abbrev unit_lawful : (w : ℕ) → 1 ≡ w → Lawful w (meaning unit w)
unit_lawful w q = record {
  Beside = λ f k v R. ((at f (k - 1) ≡ spell_amount v) × (frequency_fits v ≡ true)) × R;
  behind = λ f k v R b. b.1;
  wide = λ v e. frequency_pair.wide₂ v ∙ q;
  kept = λ f k v R h e b. rw (h, b.0.0) (frequency_pair.kept₂ v b.0.1);
  back = λ f k v R h e b. rw (h, b.0.0) (frequency_pair.back v b.0.1);
  read = λ f k l e. refl;
}

-- ---- how many columns each kind asks for: one computed test

abbrev all_sized : ℕ → List String → Bool
all_sized w [] = true
all_sized w (x ∷ xs) = eqb (length (bytes x)) w && all_sized w xs

pub all_sized_lem : (w : ℕ) (xs : List String) → all_sized w xs ≡ true → AllSized w xs
all_sized_lem w [] e = tt
all_sized_lem w (x ∷ xs) e =
    let h = and_split (eqb (length (bytes x)) w) (all_sized w xs) e in
    (eqb-true (length (bytes x)) w h.0, all_sized_lem w xs h.1)

abbrev text_wide : TextRule → ℕ → Bool
text_wide (places tests) w = eqb (length tests) w
text_wide (word set) w = true
text_wide (left_text set) w = true
text_wide (literal x) w = eqb (length (bytes x)) w
text_wide emission w = eqb 9 w

abbrev pub as_wide : Kind → ℕ → Bool
as_wide amount w = eqb 11 w
as_wide unit w = eqb 1 w
as_wide (byte first set) w = eqb 1 w
as_wide (choice xs) w = all_sized w xs
as_wide (text rule) w = text_wide rule w
as_wide (dropped rule) w = text_keeps rule w (replicate w 32)
as_wide remarks w = eqb 50 w
as_wide date w = eqb 8 w
as_wide date_or_blank w = eqb 8 w
as_wide (tenths a sign range) w = eqb (decimal_width a 1 sign) w
as_wide kilometres w = eqb 5 w
as_wide metres w = eqb 4 w
as_wide metres_or_blank w = eqb 4 w
as_wide position w = eqb 15 w
as_wide whole w = leb 1 w && leb w 18
as_wide whole_or_blank w = eqb 6 w

-- a width that is asked for first
width_first : (w : ℕ) (p : List ℕ) (rest : Bool) → (sized w p && rest) ≡ true → length p ≡ w
width_first w p rest e = eqb-true (length p) w (and_split (sized w p) rest e).0

-- a text that keeps its rule has its columns
pub text_wide_lem : (rule : TextRule) (w : ℕ) → text_wide rule w ≡ true → (p : List ℕ) → text_keeps rule w p ≡ true → length p ≡ w
unfolding emission_good
text_wide_lem (places tests) w s p e = each-sized tests p e ∙ eqb-true (length tests) w s
text_wide_lem (word set) w s p e = width_first w p (not (blank p) && every set (trimmed p)) e
text_wide_lem (left_text set) w s p e = text_sized w set p e
text_wide_lem (literal x) w s p e = same-sized (bytes x) p e ∙ eqb-true (length (bytes x)) w s
text_wide_lem emission w s p e = width_first 9 p _ e ∙ eqb-true 9 w s

pub remarks_wide : (p : List ℕ) → remarks_good p ≡ true → length p ≡ 50
unfolding remarks_good
remarks_wide p e = width_first 50 p _ e

-- a text that is not kept: spaces keep its rule
pub dropped_column : (rule : TextRule) (w : ℕ) → text_keeps rule w (replicate w 32) ≡ true → Column {A = Unit {0}} w (text_keeps rule w) (λ p. tt) (λ v. true) (λ v. replicate w 32)
dropped_column rule w s = record { wide = λ v e. length-replicate w 32; kept = λ v e. s; back = λ v e j. tt; read = λ p l e. refl }

-- Each kind keeps the laws in as many columns.
abbrev pub lawful : (k : Kind) (w : ℕ) → as_wide k w ≡ true → Lawful w (meaning k w)
lawful amount w s = amount_lawful w (eqb-true 11 w s)
lawful unit w s = unit_lawful w (eqb-true 1 w s)
lawful (byte first set) w s = stands_alone (byte_column set) (eqb-true 1 w s)
lawful (choice xs) w s = stands_alone (text_column w (one_of xs) (λ p e. one_sized w xs p (all_sized_lem w xs s) e)) refl
lawful (text rule) w s = stands_alone (text_column w (text_keeps rule w) (text_wide_lem rule w s)) refl
lawful (dropped rule) w s = stands_alone (dropped_column rule w s) refl
lawful remarks w s = stands_alone (text_column 50 remarks_good remarks_wide) (eqb-true 50 w s)
lawful date w s = stands_alone date_column (eqb-true 8 w s)
lawful date_or_blank w s = stands_alone day_column (eqb-true 8 w s)
lawful (tenths a sign range) w s = stands_alone (tenths_column a 1 sign range (omega arith)) (eqb-true (decimal_width a 1 sign) w s)
lawful kilometres w s = stands_alone radius_column (eqb-true 5 w s)
lawful metres w s = stands_alone ground_column (eqb-true 4 w s)
lawful metres_or_blank w s = stands_alone height_column (eqb-true 4 w s)
lawful position w s = stands_alone position_column (eqb-true 15 w s)
lawful whole w s = let h = and_split (leb 1 w) (leb w 18) s in stands_alone (whole_column w (leb-true 1 w h.0) (leb-true w 18 h.1)) refl
lawful whole_or_blank w s = stands_alone serial_column (eqb-true 6 w s)
